-- A side leaves its ring for one of its own.
use Rattle.std.proofs.Common.{◌≡◌, ℕ, suc, ◌+◌, ◌<◌, ◌≤◌, eqb, ltb, cond, List, [], ◌∷◌, length, sym, refl, ap, ◌∙◌, subst, inl, inr, arith}
use Rattle.std.proofs.lemmas.Bool.{cases_eq, cond-true, cond-false, eq-eqb, ne_eqb}
use Rattle.rings.specs.Circles.{one_if, occ, Chain, Circles, Exchanged, names, ring, rings, meets}
use Rattle.rings.specs.Law.{Ringed, Along}
use Rattle.rings.specs.Edits.{leave}
use Rattle.rings.specs.LetIn.{without}
use Rattle.rings.proofs.Occurs.{one_same, one_other, one_most, one_below, below_one}
use Rattle.rings.proofs.Chains.{picked}
use Rattle.rings.proofs.Surgery.{InOne, in_one, cut, names_from}
use Rattle.rings.proofs.Listing.{ring_is, listed}
use Rattle.rings.proofs.Ringed.{ringed_circles, circles_ringed}
use Rattle.rings.proofs.Closed.{within, one_image, meets_next, meets_self}
use Rattle.rings.proofs.TwoRings.{came_before}

-- ---- a list without a member

pub without_here : (t x : ℕ) (xs : List ℕ) → x ≡ t → without t (x ∷ xs) ≡ without t xs
without_here t x xs e = cond-true (eqb x t) (without t xs) (x ∷ without t xs) (eq-eqb x t e)

pub without_other : (t x : ℕ) (xs : List ℕ) → (x ≡ t → ⊥) → without t (x ∷ xs) ≡ x ∷ without t xs
without_other t x xs ne = cond-false (eqb x t) (without t xs) (x ∷ without t xs) (ne_eqb x t ne)

pub without_most : (t k : ℕ) (xs : List ℕ) → occ k (without t xs) ≤ occ k xs
without_most t k [] = omega arith
without_most t k (x ∷ xs) =
    elim (cases_eq x t) [
      | inl e ↦ omega (arith, ap (occ k) (without_here t x xs e), without_most t k xs)
      | inr ne ↦ omega (arith, ap (occ k) (without_other t x xs ne), without_most t k xs)
    ]

pub without_none : (t : ℕ) (xs : List ℕ) → occ t (without t xs) ≡ 0
without_none t [] = refl
without_none t (x ∷ xs) =
    elim (cases_eq x t) [
      | inl e ↦ ap (occ t) (without_here t x xs e) ∙ without_none t xs
      | inr ne ↦ omega (arith, ap (occ t) (without_other t x xs ne), one_other t x (λ e. ne (sym e)), without_none t xs)
    ]

module _ (f : ℕ → ℕ) (t : ℕ) where
  -- where f led to y, there it leads on, past t
  abbrev on : ℕ → ℕ
  on y = cond (eqb y t) (f t) y

  on_other : (y : ℕ) → (y ≡ t → ⊥) → on y ≡ y
  on_other y ne = cond-false (eqb y t) (f t) y (ne_eqb y t ne)

  on_here : (y : ℕ) → y ≡ t → on y ≡ f t
  on_here y e = cond-true (eqb y t) (f t) y (eq-eqb y t e)

  pub leave_at : leave f t t ≡ t
  leave_at = cond-true (eqb t t) t (on (f t)) (eq-eqb t t refl)

  leave_on : (k : ℕ) → (k ≡ t → ⊥) → leave f t k ≡ on (f k)
  leave_on k ne = cond-false (eqb k t) t (on (f k)) (ne_eqb k t ne)

  pub leave_past : (k : ℕ) → (k ≡ t → ⊥) → f k ≡ t → leave f t k ≡ f t
  leave_past k ne e = leave_on k ne ∙ on_here (f k) e

  pub leave_else : (k : ℕ) → (k ≡ t → ⊥) → (f k ≡ t → ⊥) → leave f t k ≡ f k
  leave_else k ne n = leave_on k ne ∙ on_other (f k) n

  -- a chain without t: from q, whence h leads where f led from p, past t
  chain_past : (h : ℕ → ℕ) (p q z : ℕ) (xs : List ℕ) → (f t ≡ t → ⊥) → (z ≡ t → ⊥) → h q ≡ on (f p) → ((x : ℕ) → 0 < occ x xs → (x ≡ t → ⊥) → h x ≡ on (f x)) →
      Chain f p xs z → Chain h q (without t xs) z
  chain_past h p q z [] nt nz e is c = e ∙ (ap on c ∙ on_other z nz)
  chain_past h p q z (x ∷ xs) nt nz e is c =
      elim (cases_eq x t) [
        | inl i ↦
            subst (λ (l : List ℕ). Chain h q l z) (sym (without_here t x xs i))
            (chain_past h x q z xs nt nz (e ∙ (ap on (c.0 ∙ i) ∙ (on_here t refl ∙ (sym (on_other (f t) nt) ∙ ap (λ (y : ℕ). on (f y)) (sym i))))) (λ y l. is y (omega arith)) c.1)
        | inr ne ↦
            subst (λ (l : List ℕ). Chain h q l z) (sym (without_other t x xs ne))
            (e ∙ (ap on c.0 ∙ on_other x ne), chain_past h x x z xs nt nz (is x (omega (arith, one_same x)) ne) (λ y l. is y (omega arith)) c.1)
      ]

-- ---- the rings

module _ (f h : ℕ → ℕ) (n t : ℕ) (r : Ringed f n) (lt : t < n) (nt : f t ≡ t → ⊥) (is : (k : ℕ) → k < n → h k ≡ leave f t k) where
  fc : Circles f n (rings f n)
  fc = ringed_circles f n r

  before : (p : ℕ) × (p < n) × (f p ≡ t)
  before = came_before f n t r lt

  abbrev p : ℕ
  p = before.0

  lp : p < n
  lp = before.1

  leads : f p ≡ t
  leads = before.2

  not_t : p ≡ t → ⊥
  not_t e = nt (ap f (sym e) ∙ leads)

  -- only p led to t
  only : (k : ℕ) → k < n → f k ≡ t → k ≡ p
  only k l e = one_image f n (rings f n) fc k p l lp (e ∙ sym leads)

  exchanged : Exchanged f h n t p
  exchanged = record {
    at_a = is t lt ∙ (leave_at f t ∙ sym leads);
    at_b = is p lp ∙ leave_past f t p not_t leads;
    else' = λ k l nk np. is k l ∙ leave_else f t k nk (λ e. np (only k l e));
  }

  o : InOne f n t p (rings f n)
  o =
      in_one f n t p (rings f n) fc lt lp (λ e. not_t (sym e))
      (sym (meets_next f n (rings f n) fc t p lt lp) ∙ (ap (meets f n t) leads ∙ meets_self f n t))

  abbrev after : List (List ℕ)
  after = (t ∷ o.xs) ∷ (p ∷ o.ys) ∷ o.rest

  hc : Circles h n after
  hc = cut f h n t p (rings f n) o exchanged

  pub ringed_out : Ringed h n
  ringed_out = circles_ringed h n after hc

  -- one ring more
  pub count_out : length (rings h n) ≡ suc (length (rings f n))
  count_out = omega (arith, (listed h n after hc).count, o.fewer)

  pub at_t : h t ≡ t
  at_t = is t lt ∙ leave_at f t

  -- a label along the rings, that t may have told otherwise
  module _ (lab lab' : ℕ → ℕ) (along : Along f lab n) (same : (k : ℕ) → k < n → (k ≡ t → ⊥) → lab' k ≡ lab k) where
    pub along_out : Along h lab' n
    along_out k l =
        elim (cases_eq k t) [
          | inl e ↦ ap (λ (y : ℕ). lab' (h y)) e ∙ (ap lab' at_t ∙ ap lab' (sym e))
          | inr ne ↦
              elim (cases_eq (f k) t) [
                | inl e ↦
                    ap lab' (is k l ∙ leave_past f t k ne e)
                    ∙ (same (f t) (within f n (rings f n) fc t lt) nt ∙ (along t lt ∙ (ap lab (sym e) ∙ (along k l ∙ sym (same k l ne)))))
                | inr ne' ↦ ap lab' (is k l ∙ leave_else f t k ne ne') ∙ (same (f k) (within f n (rings f n) fc k l) ne' ∙ (along k l ∙ sym (same k l ne)))
              ]
        ]

    -- .. is told of the same rings, and of that of t
    pub names_out : (v : ℕ) → occ v (names lab' (rings h n)) ≡ one_if (eqb v (lab' t)) + occ v (names lab (rings f n))
    names_out v =
        let a = (listed h n after hc).label lab' along_out v in
        let b = o.label lab along v in
        let c =
        names_from f lab lab' o.rest o.parts.others
        (λ k m. same k (below_one k n (omega (arith, o.parts.once k))) (λ e. omega (arith, o.parts.once k, one_most (ltb k n), ap one_if (eq-eqb k t e)))) in
        let d : lab' p ≡ lab t = same p lp not_t ∙ (sym (along p lp) ∙ ap lab leads) in
        omega (arith, a, b, ap (occ v) c, ap (λ (y : ℕ). one_if (eqb v y)) d)

  -- the ring of another side, without t
  pub ring_out : (k : ℕ) → k < n → (k ≡ t → ⊥) → ring h n k ≡ without t (ring f n k)
  ring_out k l ne =
      let q = picked f k (rings f n) fc.round (omega (arith, fc.once k, one_below k n l)) in
      let i : ring f n k ≡ k ∷ q.loop = ring_is f n k q.loop q.closed (λ j. omega (arith, fc.once j, q.same j)) in
      let low : (x : ℕ) → 0 < occ x q.loop → x < n = λ x m. below_one x n (omega (arith, fc.once x, q.same x)) in
      ring_is h n k (without t q.loop)
      (chain_past f t h k k k q.loop nt ne (is k l ∙ leave_on f t k ne) (λ x m nx. is x (low x m) ∙ leave_on f t x nx) q.closed)
      (λ j. omega (arith, fc.once j, q.same j, without_most t j q.loop))
      ∙ (sym (without_other t k q.loop ne) ∙ ap (without t) (sym i))
