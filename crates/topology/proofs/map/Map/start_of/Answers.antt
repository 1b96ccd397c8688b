use Rattle.std.proofs.Common.{ltb, length, sym, ap, ◌∙◌, arith}
use Rattle.std.proofs.lemmas.Bool.{ltb-true}
use Rattle.topology.specs.declared.side.Side.{Side}
use Rattle.topology.specs.States.{state_of}
use Rattle.topology.proofs.Asked.{taken}
use Rattle.topology.proofs.Assembling.{lawful_of}
use Rattle.topology.proofs.IslandLaw.{row_low}
use Rattle.topology.proofs.map.Map.start_of.Goals as goal

pub bounds-in_use-row : goal.bounds-in_use-row
bounds-in_use-row c =
    let m = c.args.self.now in
    let us = (state_of m).sides in
    let L = lawful_of m in
    let s = c.args.side in
    let a = taken (ltb s (length us)) _ _ _ (sym c.side.ensures ∙ c.in_ok-row.was) in
    omega (
      arith,
      row_low us (state_of m).vertices (length us) s L.paired L.runs_stand (ltb-true s (length us) a.0),
      ap (λ (r : Side). r.row) a.1,
      ap length c.in_use.ensures.rows,
    )
