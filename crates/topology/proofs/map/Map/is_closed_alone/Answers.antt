use Rattle.std.proofs.Common.{◌≡◌, ◌+◌, ◌/◌, Bool, cond, eqb, ltb, length, Ok, Err, Result, sym, refl, ap, ◌∙◌, rules, tests, arith}
use Rattle.std.proofs.lemmas.Bool.{ltb-true}
use Rattle.refusal.specs.declared.Refusal.{Refusal}
use Rattle.refusal.specs.declared.Refusal.TheVariants.{NoSuchElement}
use Rattle.topology.specs.States.{state_of}
use Rattle.topology.specs.Questions.{about_arc}
use Rattle.topology.specs.Dissolves.{both_alone}
use Rattle.topology.proofs.Asked.{taken}
use Rattle.topology.proofs.Assembling.{lawful_of}
use Rattle.topology.proofs.Alone.{alone_told}
use Rattle.topology.proofs.map.Map.is_closed_alone.Goals as goal

pub returns-then-unturned-s-clause-closed : goal.returns-then-unturned-s-clause-closed
returns-then-unturned-s-clause-closed c =
    let m = c.args.self.now in
    let us = (state_of m).sides in
    let a = c.args.arc in
    let h = ltb-true a (length us / 2) (taken (ltb a (length us / 2)) _ _ _ (sym c.arc_sides.ensures ∙ c.in_ok-unturned.was)).0 in
    let e : ◌≡◌ {A = Result Bool Refusal} (Ok (eqb c.in_ok-unturned.turned.next (a + a + 1))) (about_arc both_alone (state_of m) a) = search (rules, tests) in
    e ∙ ap (λ (b : Bool). cond (ltb a (length us / 2)) (Ok b) (Err NoSuchElement)) (sym (alone_told us (state_of m).vertices (length us) m.nodes m.polygons a refl (lawful_of m) (omega arith)))

pub returns-else-unturned-s-clause-closed : goal.returns-else-unturned-s-clause-closed
returns-else-unturned-s-clause-closed c =
    let m = c.args.self.now in
    let us = (state_of m).sides in
    let a = c.args.arc in
    let h = ltb-true a (length us / 2) (taken (ltb a (length us / 2)) _ _ _ (sym c.arc_sides.ensures ∙ c.in_ok-unturned.was)).0 in
    let e : ◌≡◌ {A = Result Bool Refusal} (Ok (eqb c.in_ok-unturned.unturned.next (a + a))) (about_arc both_alone (state_of m) a) = search (rules, tests) in
    e ∙ ap (λ (b : Bool). cond (ltb a (length us / 2)) (Ok b) (Err NoSuchElement)) (sym (alone_told us (state_of m).vertices (length us) m.nodes m.polygons a refl (lawful_of m) (omega arith)))
