-- The rings of one function under the numbers of another.
use Rattle.std.proofs.Common.{◌≡◌, ℕ, ◌+◌, ◌<◌, ◌≤◌, eqb, ltb, List, [], ◌∷◌, map, sym, refl, ap, ◌∙◌, subst, inl, inr, arith}
use Rattle.std.proofs.lemmas.Bool.{cases_eq, cases_lt, eq-eqb}
use Rattle.rings.specs.Circles.{one_if, occ, Chain, ring, rings}
use Rattle.rings.specs.Law.{Ringed}
use Rattle.rings.proofs.Occurs.{one_same, one_other, one_most, one_below, below_one}
use Rattle.rings.proofs.Chains.{picked}
use Rattle.rings.proofs.Listing.{ring_is}
use Rattle.rings.proofs.Ringed.{ringed_circles}

-- α gives the numbers below m others below n, which β takes back; where g leads, f leads under the other numbers
module _ (α β f g : ℕ → ℕ) (n m : ℕ) (low : (k : ℕ) → k < m → α k < n) (back : (k : ℕ) → k < m → β (α k) ≡ k) (leads : (k : ℕ) → k < m → f (α k) ≡ α (g k)) where
  occ_under : (k : ℕ) (xs : List ℕ) → ((x : ℕ) → 0 < occ x xs → x < m) → (occ k (map α xs) ≤ occ (β k) xs) × (0 < occ k (map α xs) → k < n)
  occ_under k [] h = (omega arith, λ l. absurd (omega arith))
  occ_under k (x ∷ xs) h =
      let (a, b) = occ_under k xs (λ y l. h y (omega arith)) in
      let lx = h x (omega (arith, one_same x)) in
      elim (cases_eq k (α x)) [
        | inl e ↦ (
          omega (arith, a, one_most (eqb k (α x)), ap one_if (eq-eqb (β k) x (ap β e ∙ back x lx))),
          λ _. subst (λ (y : ℕ). y < n) (sym e) (low x lx),
        )
        | inr ne ↦ (omega (arith, a, one_other k (α x) ne), λ l. b (omega (arith, one_other k (α x) ne)))
      ]

  chain_under : (p q : ℕ) (xs : List ℕ) → p < m → ((x : ℕ) → 0 < occ x xs → x < m) → Chain g p xs q → Chain f (α p) (map α xs) (α q)
  chain_under p q [] l h c = leads p l ∙ ap α c
  chain_under p q (x ∷ xs) l h c = (leads p l ∙ ap α c.0, chain_under x q xs (h x (omega (arith, one_same x))) (λ y k. h y (omega arith)) c.1)

  map_back : (xs : List ℕ) → ((x : ℕ) → 0 < occ x xs → x < m) → map β (map α xs) ≡ xs
  map_back [] h = refl
  map_back (x ∷ xs) h =
      ap (λ (y : ℕ). y ∷ map β (map α xs)) (back x (h x (omega (arith, one_same x)))) ∙ ap (λ (ys : List ℕ). x ∷ ys) (map_back xs (λ y l. h y (omega arith)))

  pub ring_renamed : Ringed g m → (s : ℕ) → s < m → ring g m s ≡ map β (ring f n (α s))
  ring_renamed r s l =
      let gc = ringed_circles g m r in
      let p = picked g s (rings g m) gc.round (omega (arith, gc.once s, one_below s m l)) in
      let i : ring g m s ≡ s ∷ p.loop = ring_is g m s p.loop p.closed (λ k. omega (arith, gc.once k, p.same k)) in
      let h : (x : ℕ) → 0 < one_if (eqb x s) + occ x p.loop → x < m = λ x o. below_one x m (omega (arith, gc.once x, p.same x)) in
      let j : ring f n (α s) ≡ α s ∷ map α p.loop =
      ring_is f n (α s) (map α p.loop) (chain_under s s p.loop l (λ x o. h x (omega arith)) p.closed)
      (λ k.
      let (a, b) = occ_under k (s ∷ p.loop) (λ x o. h x (omega arith)) in
      elim (cases_lt k n) [
        | inl lk ↦ omega (arith, a, gc.once (β k), p.same (β k), one_most (ltb (β k) m), one_below k n lk)
        | inr gk ↦
            elim (cases_lt 0 (occ k (map α (s ∷ p.loop)))) [
              | inl here ↦ absurd (let c = b here in omega arith)
              | inr none ↦ omega arith
            ]
      ]) in
      i ∙ (sym (map_back (s ∷ p.loop) (λ x o. h x (omega arith))) ∙ ap (map β) (sym j))
