use Rattle.std.proofs.Common.{Bool, cond, ◌&&◌, eqb, ltb, length, Ok, Err, sym, ap, ◌∙◌}
use Rattle.std.proofs.lemmas.Bool.{ltb-true}
use Rattle.refusal.specs.declared.Refusal.TheVariants.{NoSuchElement}
use Rattle.rings.proofs.SameLow.{meets_low}
use Rattle.topology.specs.declared.side.Side.{Side}
use Rattle.topology.specs.Rows.{next_of, low_of}
use Rattle.topology.specs.States.{state_of}
use Rattle.topology.specs.Questions.{in_one_ring}
use Rattle.topology.proofs.Asked.{taken}
use Rattle.topology.proofs.Assembling.{lawful_of}
use Rattle.topology.proofs.map.Map.share_ring.Goals as goal

pub returns : goal.returns
returns c =
    let m = c.args.self.now in
    let us = (state_of m).sides in
    let n = length us in
    let s = c.args.first in
    let t = c.args.second in
    let L = lawful_of m in
    let a = taken (ltb s n) _ _ _ (sym c.side.ensures ∙ c.in_ok-side.was) in
    let b = taken (ltb t n) _ _ _ (sym c.side-2.ensures ∙ c.in_ok-side-2.was) in
    ap (λ (r : Side). Ok (eqb r.low c.in_ok-side-2.field-0.low)) (sym a.1)
    ∙ (ap (λ (r : Side). Ok (eqb (low_of us s) r.low)) (sym b.1)
    ∙ (ap (λ (e : Bool). Ok e) (sym (meets_low (next_of us) (low_of us) n L.in_rings L.low_along L.low_names s t (ltb-true s n a.0) (ltb-true t n b.0)))
    ∙ sym (ap (λ (x : Bool). cond (x && ltb t n) (Ok (in_one_ring us s t)) (Err NoSuchElement)) a.0
    ∙ ap (λ (x : Bool). cond x (Ok (in_one_ring us s t)) (Err NoSuchElement)) b.0)))
