-- The lowest member of a circle is one of its members, and that is all that the names of circles ask.
use Rattle.std.proofs.Common.{◌≡◌, ℕ, ◌<◌, ◌≤◌, true, ◌&&◌, eqb, ltb, List, [], ◌∷◌, sym, ap, ◌∙◌, subst, inl, inr, arith}
use Rattle.std.proofs.lemmas.Bool.{cases_eq, cases_lt, ltb-true, eqb-true, eq-eqb, ne_eqb, lt-ltb, le-ltb, and_parts, and_from, and_left, and_right}
use Rattle.rings.specs.Circles.{one_if, occ, occs, AllCircles, Circles, names, ring, rings, meets}
use Rattle.rings.specs.Law.{Ringed, LowAlong, LowNames}
use Rattle.rings.proofs.Occurs.{one_same, one_other, one_most, one_below, below_one, one_true}
use Rattle.rings.proofs.Chains.{picked, turned}
use Rattle.rings.proofs.Listing.{ring_is}
use Rattle.rings.proofs.Ringed.{ringed_circles}
use Rattle.rings.proofs.Closed.{same_circle, meets_self}

module _ (f low : ℕ → ℕ) (n : ℕ) (r : Ringed f n) (along : LowAlong f low n) where
  fc : Circles f n (rings f n)
  fc = ringed_circles f n r

  module _ (named : LowNames f low n) where
    -- what a member tells tells itself
    pub low_told : (s : ℕ) → s < n → (low s < n) × (low (low s) ≡ low s)
    low_told s l =
        let p = picked f s (rings f n) fc.round (omega (arith, fc.once s, one_below s n l)) in
        let c = p.label low (λ x o. along x (below_one x n (omega (arith, fc.once x)))) (low s) in
        let t = one_true (ltb (low s) n && eqb (low (low s)) (low s)) (omega (arith, c, named (low s), one_same (low s))) in
        let (x, y) = and_parts (ltb (low s) n) (eqb (low (low s)) (low s)) t in
        (ltb-true (low s) n x, eqb-true (low (low s)) (low s) y)

    -- those that tell the same stand in one circle
    pub low_same : (s t : ℕ) → s < n → t < n → low s ≡ low t → meets f n s t ≡ true
    low_same s t ls lt e =
        elim (cases_eq s t) [
          | inl i ↦ ap (meets f n s) (sym i) ∙ meets_self f n s
          | inr ne ↦
              same_circle f low n (rings f n) fc along (λ v. omega (arith, named v, one_most (ltb v n && eqb (low v) v))) s t ls lt e ne
        ]

    pub low_meets : (s : ℕ) → s < n → meets f n s (low s) ≡ true
    low_meets s l = let (x, y) = low_told s l in low_same s (low s) l x (sym y)

  -- the other way: where each member tells a member of its circle, the circles are named by those that tell themselves
  module _ (there : (s : ℕ) → s < n → meets f n s (low s) ≡ true) where
    found : (v : ℕ) (cs : List (List ℕ)) → AllCircles f cs → ((k : ℕ) → occs k cs ≤ one_if (ltb k n)) → 0 < occ v (names low cs) → (0 < occs v cs) × (low v ≡ v)
    found v [] c o h = absurd (omega arith)
    found v ([] ∷ cs) c o h = absurd c.0
    found v ((x ∷ xs) ∷ cs) c o h =
        elim (cases_eq v (low x)) [
          | inl e ↦
              let l : x < n = below_one x n (omega (arith, o x, one_same x)) in
              let i : ring f n x ≡ x ∷ xs = ring_is f n x xs c.0 (λ k. omega (arith, o k)) in
              let m : 0 < occ v (ring f n x) = ltb-true 0 (occ v (ring f n x)) (ap (meets f n x) e ∙ there x l) in
              let k : 0 < occ v (x ∷ xs) = subst (λ (ys : List ℕ). 0 < occ v ys) i m in
              let q = (turned f v (x ∷ xs) c.0 k).label low (λ y p. along y (below_one y n (omega (arith, o y)))) in
              (omega arith, sym q ∙ sym e)
          | inr ne ↦
              let w : (0 < occs v cs) × (low v ≡ v) = found v cs c.1 (λ k. omega (arith, o k)) (omega (arith, one_other v (low x) ne)) in
              let p = w.0 in
              (omega arith, w.1)
        ]

    pub names_low : LowNames f low n
    names_low v =
        elim (cases_lt 0 (occ v (names low (rings f n)))) [
          | inl some ↦
              let w : (0 < occs v (rings f n)) × (low v ≡ v) = found v (rings f n) fc.round (λ k. omega (arith, fc.once k)) some in
              let p = w.0 in
              let l : v < n = below_one v n (omega (arith, fc.once v)) in
              let t = picked f v (rings f n) fc.round p in
              let c = t.label low (λ x o. along x (below_one x n (omega (arith, fc.once x)))) v in
              let z : occ v (names low t.rest) ≡ 0 = none v l t.rest t.others (λ k. omega (arith, fc.once k, t.same k)) (omega (arith, fc.once v, t.same v, one_same v, one_most (ltb v n))) in
              let a = ap one_if (and_from (ltb v n) (eqb (low v) v) (lt-ltb v n l) (eq-eqb (low v) v w.1)) in
              omega (arith, c, z, a, ap one_if (eq-eqb v (low v) (sym w.1)))
          | inr few ↦
              elim (cases_lt v n) [
                | inl l ↦
                    elim (cases_eq (low v) v) [
                      | inl e ↦
                          let t = picked f v (rings f n) fc.round (omega (arith, fc.once v, one_below v n l)) in
                          let c = t.label low (λ x o. along x (below_one x n (omega (arith, fc.once x)))) v in
                          absurd (omega (arith, c, ap one_if (eq-eqb v (low v) (sym e))))
                      | inr ne ↦ let a = ap one_if (and_right (ltb v n) (eqb (low v) v) (ne_eqb (low v) v ne)) in omega (arith, a)
                    ]
                | inr g ↦ let a = ap one_if (and_left (ltb v n) (eqb (low v) v) (le-ltb v n g)) in omega (arith, a)
              ]
        ]
      where
        none : (v : ℕ) → v < n → (cs : List (List ℕ)) → AllCircles f cs → ((k : ℕ) → occs k cs ≤ one_if (ltb k n)) → occs v cs ≡ 0 → occ v (names low cs) ≡ 0
        none v l cs c o z =
            elim (cases_lt 0 (occ v (names low cs))) [
              | inl some ↦ absurd (let p = (found v cs c o some).0 in omega arith)
              | inr few ↦ omega arith
            ]
