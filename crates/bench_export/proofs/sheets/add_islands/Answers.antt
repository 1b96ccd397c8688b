use Rattle.std.proofs.Common.{Err, Result, sym, ap, ◌∙◌, arith}
use Rattle.std.proofs.lemmas.Result.{err_from_is_err_and}
use Rattle.refusal.specs.declared.Refusal.{Refusal}
use Rattle.topology.specs.States.{state_of}
use Rattle.topology.specs.Edited.{answered}
use Rattle.bench_export.proofs.Sheeting.{island_refused, part_refused, island_added}
use Rattle.bench_export.proofs.sheets.add_islands.Goals as goal

pub returns-in_err-island : goal.returns-in_err-island
returns-in_err-island c =
    let (e, p, q) = err_from_is_err_and c.from_residual.result c.from_residual.ensures.1 in
    ap (λ (r : Result (Unit {0}) Refusal). answered r (state_of c.island.new.self)) p
    ∙ ap (λ (x : Refusal). Err x) q
    ∙ sym (c.loop-k.invariant ∙ island_refused (state_of c.loop-k.map) c.loop-k.k c.args.islands c.args.run.now c.args.cuts.now (omega arith) c.in_err-island.field-0.0 c.in_err-island.ensures.edited.agrees)

pub returns-in_err-part : goal.returns-in_err-part
returns-in_err-part c =
    let (e, p, q) = err_from_is_err_and c.from_residual-in_err-part.result c.from_residual-in_err-part.ensures.1 in
    ap (λ (r : Result (Unit {0}) Refusal). answered r (state_of c.part.new.map)) p
    ∙ ap (λ (x : Refusal). Err x) q
    ∙ sym (c.loop-k.invariant ∙ part_refused (state_of c.loop-k.map) c.loop-k.k c.args.islands c.args.run.now c.args.cuts.now (omega arith) c.arcs-arc.result (state_of c.island.new.self) c.in_ok-island.ensures.edited.agrees c.arcs-arc.ensures c.in_err-part.field-0.0 c.in_err-part.ensures)

pub loop-k-preserved : goal.loop-k-preserved
loop-k-preserved c =
    let m = state_of c.loop-k.map in
    c.loop-k.invariant
    ∙ island_added m c.loop-k.k c.args.islands c.args.run.now c.args.cuts.now (omega arith) c.arcs-arc.result (state_of c.island.new.self) c.in_ok-island.ensures.edited.agrees c.arcs-arc.ensures (state_of c.part.new.map) c.in_ok-part.ensures
