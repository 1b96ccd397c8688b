-- The rows of a new arc linked into a ring, one write after the other.
use Rattle.std.proofs.Common.{◌≡◌, ℕ, ◌+◌, ◌<◌, ◌≤◌, cond, eqb, List, [], ◌∷◌, ◌++◌, map, length, get_or, take, drop, set, sym, ap, ◌∙◌, inl, inr, arith}
use Rattle.std.proofs.lemmas.Bool.{cases_eq, eq-eqb, ne_eqb, cond-true, cond-false}
use Rattle.std.proofs.lemmas.List.{length-set, get_or-set_same, get_or-set_other, get_or-take, drop-set-lt, length-take-le, length-map, get_or-map, ext_get_or}
use Rattle.topology.specs.declared.side.Side.{Side}
use Rattle.topology.specs.Rows.{no_side, next_of}
use Rattle.topology.specs.Divisions.{relinked, unturned_to, turned_to, linked}

-- a side that leads elsewhere
abbrev leading : ℕ → Side → Side
leading v s = record { node = s.node; row = s.row; polygon = s.polygon; next = v; low = s.low }

module _ (full : List Side) (n p q first second row last on : ℕ) (fit : n + 2 ≤ length full) (lf : first < n) (ls : second < n) (lp : p < n) (lq : q < n)
    (fp : next_of (take n full) p ≡ first) (fq : next_of (take n full) q ≡ second)
    (one : (k j : ℕ) → k < n → j < n → next_of (take n full) k ≡ next_of (take n full) j → k ≡ j) (turns : on ≡ cond (eqb first second) (n + 1) first) where
  abbrev us : List Side
  us = take n full

  abbrev f : ℕ → ℕ
  f = next_of us

  abbrev near : Side
  near = get_or full first no_side

  abbrev far : Side
  far = get_or full second no_side

  abbrev A : Side
  A = record { node = near.node; row = row; polygon = near.polygon; next = second; low = near.low }

  abbrev B : Side
  B = record { node = far.node; row = last; polygon = near.polygon; next = on; low = near.low }

  abbrev r1 : List Side
  r1 = set full q (leading (n + 1) (get_or full q no_side))

  abbrev r2 : List Side
  r2 = set r1 p (leading n (get_or r1 p no_side))

  us_long : length us ≡ n
  us_long = length-take-le n full (omega arith)

  size1 : length r1 ≡ length full
  size1 = length-set full q (leading (n + 1) (get_or full q no_side))

  size2 : length r2 ≡ length full
  size2 = length-set r1 p (leading n (get_or r1 p no_side)) ∙ size1

  pub linked_size : length r2 ≡ length full
  linked_size = size2

  pub linked_drop : (k : ℕ) → n ≤ k → drop k r2 ≡ drop k full
  linked_drop k l = drop-set-lt k r1 p (leading n (get_or r1 p no_side)) (omega arith) ∙ drop-set-lt k full q (leading (n + 1) (get_or full q no_side)) (omega arith)

  -- the side before the first leads to n, whether or not it is the one before the second too
  at_p : get_or r2 p no_side ≡ leading n (get_or full p no_side)
  at_p =
      get_or-set_same r1 p (leading n (get_or r1 p no_side)) no_side (omega (arith, size1))
      ∙ elim (cases_eq p q) [
        | inl e ↦
            ap (leading n) (ap (λ (j : ℕ). get_or r1 j no_side) e ∙ get_or-set_same full q (leading (n + 1) (get_or full q no_side)) no_side (omega arith))
            ∙ ap (λ (j : ℕ). leading n (get_or full j no_side)) (sym e)
        | inr ne ↦ ap (leading n) (get_or-set_other full q p (leading (n + 1) (get_or full q no_side)) no_side ne)
      ]

  at_q : (q ≡ p → ⊥) → get_or r2 q no_side ≡ leading (n + 1) (get_or full q no_side)
  at_q ne = get_or-set_other r1 p q (leading n (get_or r1 p no_side)) no_side ne ∙ get_or-set_same full q (leading (n + 1) (get_or full q no_side)) no_side (omega arith)

  at_else : (k : ℕ) → (k ≡ p → ⊥) → (k ≡ q → ⊥) → get_or r2 k no_side ≡ get_or full k no_side
  at_else k np nq = get_or-set_other r1 p k (leading n (get_or r1 p no_side)) no_side np ∙ get_or-set_other full q k (leading (n + 1) (get_or full q no_side)) no_side nq

  -- what an old side leads to
  abbrev to : ℕ → ℕ
  to k = cond (eqb (f k) first) n (cond (eqb (f k) second) (n + 1) (f k))

  to_is : (k v : ℕ) → k < n → v ≡ to k → leading v (get_or full k no_side) ≡ relinked (length us) first second (get_or us k no_side)
  to_is k v l e =
      ap (λ (r : Side). leading v r) (sym (get_or-take n full k no_side l))
      ∙ (ap (λ (j : ℕ). leading j (get_or us k no_side)) e ∙ ap (λ (j : ℕ). relinked j first second (get_or us k no_side)) (sym us_long))

  old : (k : ℕ) → k < n → get_or r2 k no_side ≡ relinked (length us) first second (get_or us k no_side)
  old k l =
      elim (cases_eq k p) [
        | inl e ↦
            ap (λ (j : ℕ). get_or r2 j no_side) e
            ∙ (at_p
            ∙ (ap (λ (j : ℕ). leading n (get_or full j no_side)) (sym e)
            ∙ to_is k n l (sym (cond-true (eqb (f k) first) n (cond (eqb (f k) second) (n + 1) (f k)) (eq-eqb (f k) first (ap f e ∙ fp))))))
        | inr np ↦
            let z = cond-false (eqb (f k) first) n (cond (eqb (f k) second) (n + 1) (f k)) (ne_eqb (f k) first (λ e. np (one k p l lp (e ∙ sym fp)))) in
            elim (cases_eq k q) [
              | inl e ↦
                  ap (λ (j : ℕ). get_or r2 j no_side) e
                  ∙ (at_q (λ i. np (e ∙ i))
                  ∙ (ap (λ (j : ℕ). leading (n + 1) (get_or full j no_side)) (sym e)
                  ∙ to_is k (n + 1) l (sym (z ∙ cond-true (eqb (f k) second) (n + 1) (f k) (eq-eqb (f k) second (ap f e ∙ fq))))))
              | inr nq ↦
                  at_else k np nq
                  ∙ (ap (λ (v : ℕ). leading v (get_or full k no_side)) (ap (λ (r : Side). r.next) (sym (get_or-take n full k no_side l)))
                  ∙ to_is k (f k) l (sym (z ∙ cond-false (eqb (f k) second) (n + 1) (f k) (ne_eqb (f k) second (λ e. nq (one k q l lq (e ∙ sym fq)))))))
            ]
      ]

  A_is : A ≡ unturned_to us first second row
  A_is = ap (λ (r : Side). record { node = r.node; row = row; polygon = r.polygon; next = second; low = r.low }) (sym (get_or-take n full first no_side lf))

  B_is : B ≡ turned_to us first second last
  B_is =
      ap (λ (r : Side). record { node = r.node; row = last; polygon = near.polygon; next = on; low = near.low }) (sym (get_or-take n full second no_side ls))
      ∙ (ap (λ (r : Side). record { node = (get_or us second no_side).node; row = last; polygon = r.polygon; next = on; low = r.low }) (sym (get_or-take n full first no_side lf))
      ∙ ap (λ (v : ℕ). record { node = (get_or us second no_side).node; row = last; polygon = (get_or us first no_side).polygon; next = v; low = (get_or us first no_side).low })
      (turns ∙ ap (λ (j : ℕ). cond (eqb first second) (j + 1) first) (sym us_long)))

  front : take n r2 ≡ map (relinked (length us) first second) us
  front =
      let t = length-take-le n r2 (omega (arith, size2)) in
      ext_get_or no_side (take n r2) (map (relinked (length us) first second) us) (t ∙ sym (length-map us (relinked (length us) first second) ∙ us_long))
      (λ k l.
      let h : k < n = omega (arith, t) in
      get_or-take n r2 k no_side h ∙ (old k h ∙ sym (get_or-map (relinked (length us) first second) us k no_side no_side (omega (arith, us_long)))))

  -- the rows in use, once the two new ones are pushed
  pub linked_rows : take n r2 ++ A ∷ B ∷ [] ≡ linked us first second row last
  linked_rows =
      ap (λ (xs : List Side). xs ++ A ∷ B ∷ []) front
      ∙ (ap (λ (r : Side). map (relinked (length us) first second) us ++ r ∷ B ∷ []) A_is
      ∙ ap (λ (r : Side). map (relinked (length us) first second) us ++ unturned_to us first second row ∷ r ∷ []) B_is)
