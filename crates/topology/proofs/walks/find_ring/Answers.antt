use Rattle.std.proofs.Common.{◌≡◌, ℕ, ◌≤◌, Some, length, sym, ap, ◌∙◌, subst, arith}
use Rattle.std.specs.List.{slice_get}
use Rattle.std.specs.Option.{option_map}
use Rattle.std.proofs.lemmas.Bool.{eq-eqb}
use Rattle.std.proofs.lemmas.Option.{slice_get-get_or, slice_get_past}
use Rattle.rings.specs.Circles.{kept}
use Rattle.rings.proofs.Lows.{kept_at}
use Rattle.topology.specs.Rows.{polygon_of, tells}
use Rattle.topology.proofs.walks.find_ring.Goals as goal

pub returns-then-n-k : goal.returns-then-n-k
returns-then-n-k c =
    let us = c.args.sides.now in
    let n = length us in
    let s = c.loop-at.at in
    let P = tells us in
    let (a, b) = kept_at P n s c.loop-at-test.true (eq-eqb _ _ c.if-side-at.true) in
    let here : c.args.k ≡ length (kept P s) = sym c.if-n-k.true ∙ c.loop-at.invariant.2 in
    let found : slice_get (kept P n) c.args.k ≡ Some s = ap (slice_get (kept P n)) here ∙ (slice_get-get_or (kept P n) (length (kept P s)) 0 b ∙ ap Some a) in
    sym (ap (option_map (λ (t : ℕ). (polygon_of us t, t))) found)

pub returns : goal.returns
returns c =
    let us = c.args.sides.now in
    let n = length us in
    let P = tells us in
    let all : c.loop-at.at ≡ n = omega (arith, c.loop-at-test.false, c.loop-at.auto.at-end) in
    let few : length (kept P n) ≤ c.args.k =
    subst (λ (m : ℕ). length (kept P m) ≤ c.args.k) all (subst (λ (m : ℕ). m ≤ c.args.k) c.loop-at.invariant.2 c.loop-at.invariant.1) in
    sym (ap (option_map (λ (t : ℕ). (polygon_of us t, t))) (slice_get_past (kept P n) c.args.k few))
