use Rattle.std.proofs.Common.{◌≡◌, ℕ, ◌/◌, Bool, true, false, not, ◌&&◌, eqb, cond, get_or, Option, Some, None, is_some, ok_or, Ok, Err, sym, refl, ap, ◌∙◌, rules}
use Rattle.std.proofs.lemmas.Bool.{false≢true}
use Rattle.refusal.specs.declared.Refusal.TheVariants.{NotTwoEndsOfTwoArcs}
use Rattle.std.specs.List.{position}
use Rattle.topology.specs.declared.side.Side.{Side}
use Rattle.topology.specs.Rows.{next_of}
use Rattle.topology.specs.States.{state_of}
use Rattle.topology.specs.Joins.{ends, of_two_arcs}
use Rattle.topology.proofs.JoinEnds.{none_end, turns_in, turned_chosen}
use Rattle.topology.proofs.map.Map.two_ends.Goals as goal

either : {X : Type 0} (b : Bool) (x : X) → ok_or (cond b (Some x) None) NotTwoEndsOfTwoArcs ≡ cond b (Ok x) (Err NotTwoEndsOfTwoArcs)
either true x = refl
either false x = refl

none_is : (o : Option ℕ) → false ≡ is_some o → o ≡ None
none_is None e = refl
none_is (Some x) e = absurd (false≢true e)

pub returns-in_err-stays : goal.returns-in_err-stays
returns-in_err-stays c =
    let us = (state_of c.args.self.now).sides in
    let n : c.first_end.result ≡ None = none_is c.first_end.result c.in_err-stays.ensures.variant in
    let r : c.from_residual.result ≡ Err NotTwoEndsOfTwoArcs = search rules in
    let e = none_end us c.args.node (ap (position (λ (r : Side). eqb r.node c.args.node)) (sym c.in_use-sides.ensures.rows) ∙ (sym c.first_end.ensures ∙ n)) in
    r ∙ rw e refl

pub bounds-sides-opposite-2 : goal.bounds-sides-opposite-2
bounds-sides-opposite-2 c =
    let m = c.args.self.now in
    let rows = c.in_use-sides.ensures.rows in
    let first = sym c.first_end.ensures ∙ c.in_ok-stays.ensures.ok_part in
    turns_in m c.args.node _ c.in_ok-stays.stays c.opposite.result c.opposite-2.result rows first c.opposite.ensures.value c.opposite-2.ensures.value

pub returns : goal.returns
returns c =
    let m = c.args.self.now in
    let xs = c.in_use-sides.result.now in
    let s = c.in_ok-stays.stays in
    let b = c.if-goes-stays.then_some in
    let t = next_of xs c.opposite.result in
    let e : b ≡ (not (eqb (t / 2) (s / 2)) && eqb (next_of xs c.opposite-2.result) s) = search rules in
    let first = sym c.first_end.ensures ∙ c.in_ok-stays.ensures.ok_part in
    let sides = (state_of m).sides in
    c.ok_or-2.ensures.value
    ∙ (ap (λ o. ok_or o NotTwoEndsOfTwoArcs)
    (c.then_some.ensures ∙ turned_chosen m c.args.node xs s c.opposite.result c.opposite-2.result c.in_use-sides.ensures.rows first c.opposite.ensures.value c.opposite-2.ensures.value b e)
    ∙ either (of_two_arcs (ends sides c.args.node)) (get_or (ends sides c.args.node) 0 0, get_or (ends sides c.args.node) 1 0))
