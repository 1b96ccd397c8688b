-- An arc is closed at a node of its own exactly if each of its sides is a ring alone.
use Rattle.std.proofs.Common.{◌≡◌, ℕ, ◌+◌, ◌<◌, eqb, ◌⊎◌, List, [], ◌∷◌, sym, ap, ◌∙◌, subst, inl, inr, arith}
use Rattle.std.proofs.lemmas.Bool.{cases_eq, ltb-true}
use Rattle.rings.specs.Circles.{occ, ring}
use Rattle.rings.specs.Law.{opp, turn, Closes, Noded, Ringed}
use Rattle.rings.proofs.Occurs.{one_other, one_most, one_below}
use Rattle.rings.proofs.Listing.{ring_is}
use Rattle.rings.proofs.Words.{turn_meets}

opp_even : (a : ℕ) → opp (a + a) ≡ a + a + 1
opp_even a = omega arith

opp_odd : (a : ℕ) → opp (a + a + 1) ≡ a + a
opp_odd a = omega arith

module _ (f node : ℕ → ℕ) (n nodes a : ℕ) (l : a + a + 1 < n) (t : Ringed (turn f) n) (c : Closes f node n) (h : Noded f node n nodes) where
  abbrev s : ℕ
  s = a + a

  abbrev o : ℕ
  o = a + a + 1

  module _ (e0 : f (a + a) ≡ a + a) (e1 : f (a + a + 1) ≡ a + a + 1) where
    pub alone_closed : node (a + a) ≡ node (a + a + 1)
    alone_closed = ap node (sym (ap f (opp_odd a) ∙ e0)) ∙ c o l

    turn_is : ring (turn f) n s ≡ s ∷ o ∷ []
    turn_is =
        ring_is (turn f) n s (o ∷ []) (ap f (opp_even a) ∙ e1, ap f (opp_odd a) ∙ e0)
        (λ k.
        elim (cases_eq k s) [
          | inl e ↦ omega (arith, one_below k n (omega arith), one_other k o (omega arith), one_most (eqb k s))
          | inr ne ↦
              elim (cases_eq k o) [
                | inl e ↦ omega (arith, one_below k n (omega arith), one_other k s ne, one_most (eqb k o))
                | inr ne' ↦ omega (arith, one_other k s ne, one_other k o ne')
              ]
        ])

    pub alone_own : (k : ℕ) → k < n → node k ≡ node (a + a) → (k ≡ a + a) ⊎ (k ≡ a + a + 1)
    alone_own k lk e =
        let m = ltb-true 0 (occ k (ring (turn f) n s)) (turn_meets f node n nodes t c h s k (omega arith) lk (sym e)) in
        let p : 0 < occ k (s ∷ o ∷ []) = subst (λ (ys : List ℕ). 0 < occ k ys) turn_is m in
        elim (cases_eq k s) [
          | inl i ↦ inl i
          | inr ne ↦
              elim (cases_eq k o) [ inl i ↦ inr i | inr ne' ↦ absurd (omega (arith, one_other k s ne, one_other k o ne')) ]
        ]

  -- the turn of a side that begins at v leads to another one that begins there
  module _ (closed : node (a + a) ≡ node (a + a + 1)) (own : (k : ℕ) → k < n → node k ≡ node (a + a) → (k ≡ a + a) ⊎ (k ≡ a + a + 1))
      (inside : (k : ℕ) → k < n → turn f k < n) where
    not_itself : (x y : ℕ) → x < n → y < n → node x ≡ node y → (y ≡ x → ⊥) → turn f x ≡ x → ⊥
    not_itself x y lx ly e ne i =
        let w : ring (turn f) n x ≡ x ∷ [] =
        ring_is (turn f) n x [] i (λ k. elim (cases_eq k x) [ inl q ↦ omega (arith, one_below k n (omega arith), one_most (eqb k x)) | inr nq ↦ omega (arith, one_other k x nq) ]) in
        let m = ltb-true 0 (occ y (ring (turn f) n x)) (turn_meets f node n nodes t c h x y lx ly e) in
        let p : 0 < occ y (x ∷ []) = subst (λ (ys : List ℕ). 0 < occ y ys) w m in
        omega (arith, one_other y x ne)

    pub own_turned : f (a + a + 1) ≡ a + a + 1
    own_turned =
        let q : turn f s ≡ f o = ap f (opp_even a) in
        elim (own (turn f s) (inside s (omega arith)) (c s (omega arith))) [
          | inl i ↦ absurd (not_itself s o (omega arith) l closed (omega arith) i)
          | inr i ↦ sym q ∙ i
        ]

    pub own_unturned : f (a + a) ≡ a + a
    own_unturned =
        let q : turn f o ≡ f s = ap f (opp_odd a) in
        elim (own (turn f o) (inside o l) (c o l ∙ sym closed)) [
          | inl i ↦ sym q ∙ i
          | inr i ↦ absurd (not_itself o s l (omega arith) (sym closed) (omega arith) i)
        ]
