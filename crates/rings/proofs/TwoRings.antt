-- A ring becomes two: which rings there were and are where a ring is divided.
use Rattle.std.proofs.Common.{◌≡◌, ℕ, suc, ◌+◌, ◌<◌, ◌≤◌, Bool, true, false, cond, eqb, ltb, ◌⊎◌, List, [], ◌∷◌, ◌++◌, sym, ap, ◌∙◌, subst, inl, inr, arith}
use Rattle.std.proofs.lemmas.Bool.{cases_eq, cases_lt, cases_Bool, eq-eqb, ltb-true, lt-ltb, le-ltb, cond-true, both_ways}
use Rattle.rings.specs.Circles.{one_if, occ, Chain, Circle, walk, ring, rings, meets, Divided}
use Rattle.rings.specs.Law.{Ringed, Along}
use Rattle.rings.proofs.Occurs.{occ_append, one_same, one_other, one_most, one_below, one_past, below_one, below_more}
use Rattle.rings.proofs.Chains.{turned, picked, chain_join, chain_from}
use Rattle.rings.proofs.Listing.{ring_is}
use Rattle.rings.proofs.Ringed.{ringed_circles}
use Rattle.rings.proofs.Surgery.{in_one}
use Rattle.rings.proofs.Closed.{within, meets_next, meets_self, meets_sym}

-- the ring that a member of a circle starts has the members of the circle
pub ring_of_circle : (f : ℕ → ℕ) (n a : ℕ) (c : List ℕ) → Circle f c → ((k : ℕ) → occ k c ≤ one_if (ltb k n)) → 0 < occ a c → (k : ℕ) → occ k (ring f n a) ≡ occ k c
ring_of_circle f n a c round most here k =
    let t = turned f a c round here in
    let w = ring_is f n a t.loop t.closed (λ j. omega (arith, most j, t.same j)) in
    omega (arith, ap (occ k) w, t.same k)

-- the ring of a member is a circle of members below n
pub ring_round : (f : ℕ → ℕ) (n a : ℕ) → Ringed f n → a < n → Circle f (ring f n a)
ring_round f n a r l =
    let c = ringed_circles f n r in
    let t = picked f a (rings f n) c.round (omega (arith, c.once a, one_below a n l)) in
    let w = ring_is f n a t.loop t.closed (λ j. omega (arith, c.once j, t.same j)) in
    subst (Circle f) (sym w) t.closed

pub ring_most : (f : ℕ → ℕ) (n a : ℕ) → Ringed f n → a < n → (k : ℕ) → occ k (ring f n a) ≤ one_if (ltb k n)
ring_most f n a r l k =
    let c = ringed_circles f n r in
    let t = picked f a (rings f n) c.round (omega (arith, c.once a, one_below a n l)) in
    let w = ring_is f n a t.loop t.closed (λ j. omega (arith, c.once j, t.same j)) in
    omega (arith, ap (occ k) w, c.once k, t.same k)

-- members of one ring start rings of the same members
pub ring_same : (f : ℕ → ℕ) (n a b : ℕ) → Ringed f n → a < n → meets f n a b ≡ true → (k : ℕ) → meets f n b k ≡ meets f n a k
ring_same f n a b r l m k =
    ap (ltb 0) (ring_of_circle f n b (ring f n a) (ring_round f n a r l) (ring_most f n a r l) (ltb-true 0 (occ b (ring f n a)) m) k)

pub meets_low : (f : ℕ → ℕ) (n a b : ℕ) → Ringed f n → a < n → meets f n a b ≡ true → b < n
meets_low f n a b r l m = below_one b n (omega (arith, ring_most f n a r l b, ltb-true 0 (occ b (ring f n a)) m))

one_grows : (k n m : ℕ) → n ≤ m → one_if (ltb k n) ≤ one_if (ltb k m)
one_grows k n m l = elim (cases_lt k n) [ inl a ↦ omega (arith, one_below k m (omega arith), one_most (ltb k n)) | inr a ↦ omega (arith, one_past k n a) ]

-- a ring asks of f only its images at the members
pub ring_from : (f g : ℕ → ℕ) (n m s : ℕ) → Ringed f n → s < n → n ≤ m → ((x : ℕ) → meets f n s x ≡ true → g x ≡ f x) → ring g m s ≡ ring f n s
ring_from f g n m s r l le same =
    let c = ringed_circles f n r in
    let t = picked f s (rings f n) c.round (omega (arith, c.once s, one_below s n l)) in
    let w = ring_is f n s t.loop t.closed (λ j. omega (arith, c.once j, t.same j)) in
    let u : (x : ℕ) → 0 < one_if (eqb x s) + occ x t.loop → g x ≡ f x = λ x h. same x (lt-ltb 0 (occ x (ring f n s)) (omega (arith, ap (occ x) w))) in
    ring_is g m s t.loop (chain_from f g s s s t.loop (u s (omega (arith, one_same s))) (λ x h. u x (omega arith)) t.closed)
    (λ k. omega (arith, c.once k, t.same k, one_grows k n m le))
    ∙ sym w

-- the ring of p becomes the rings of n and suc n
pub record TwoRings (f g : ℕ → ℕ) (n p : ℕ) : Type 0 where
  pub parted : (k : ℕ) → occ k (ring g (n + 2) n) + occ k (ring g (n + 2) (suc n)) ≡ occ k (ring f n p) + one_if (eqb k n) + one_if (eqb k (suc n))
  pub most : (k : ℕ) → occ k (ring f n p) ≤ one_if (ltb k n)

from_circles : (f g : ℕ → ℕ) (n p : ℕ) (c a b : List ℕ) → Circle f c → Circle g a → Circle g b → 0 < occ p c → 0 < occ n a → 0 < occ (suc n) b →
    ((k : ℕ) → occ k c ≤ one_if (ltb k n)) → ((k : ℕ) → occ k a + occ k b ≡ occ k c + one_if (eqb k n) + one_if (eqb k (suc n))) → TwoRings f g n p
from_circles f g n p c a b fc ga gb hp hn ht low sum =
    let two : n + 2 ≡ suc (suc n) = omega arith in
    let upto : (k : ℕ) → occ k a + occ k b ≤ one_if (ltb k (n + 2)) =
    λ k. omega (arith, sum k, low k, below_more k n, below_more k (suc n), ap (λ (j : ℕ). one_if (ltb k j)) two) in
    record {
      parted = λ k.
          omega (
            arith,
            ring_of_circle g (n + 2) n a ga (λ j. omega (arith, upto j)) hn k,
            ring_of_circle g (n + 2) (suc n) b gb (λ j. omega (arith, upto j)) ht k,
            ring_of_circle f n p c fc low hp k,
            sum k,
          );
      most = λ k. omega (arith, ring_of_circle f n p c fc low hp k, low k);
    }

pub two_rings : (f g : ℕ → ℕ) (n p q : ℕ) → Ringed f n → p < n → q < n → ((q ≡ p → ⊥) → meets f n p q ≡ true) → Divided f g n p q → TwoRings f g n p
two_rings f g n p q r lp lq m d =
    let c = ringed_circles f n r in
    elim (cases_eq q p) [
      | inl e ↦
          let t = picked f p (rings f n) c.round (omega (arith, c.once p, one_below p n lp)) in
          let u : (x : ℕ) → 0 < occ x t.loop → g x ≡ f x =
          λ x h.
          let ne : x ≡ p → ⊥ = λ i. omega (arith, c.once x, t.same x, one_most (ltb x n), ap one_if (eq-eqb x p i)) in
          d.else' x (below_one x n (omega (arith, c.once x, t.same x))) ne (λ i. ne (i ∙ e)) in
          from_circles f g n p (p ∷ t.loop) (p ∷ n ∷ t.loop) (suc n ∷ []) t.closed
          (d.at_p, chain_from f g p n p t.loop (d.at_n ∙ ap f e) u t.closed) (d.same e) (omega (arith, one_same p)) (omega (arith, one_same n)) (omega (arith, one_same (suc n)))
          (λ k. omega (arith, c.once k, t.same k)) (λ k. omega arith)
      | inr ne ↦
          let o = in_one f n p q (rings f n) c lp lq (λ e. ne (sym e)) (m ne) in
          let u : (x : ℕ) → 0 < occ x o.xs + occ x o.ys → g x ≡ f x =
          λ x h.
          d.else' x (below_one x n (omega (arith, o.parts.once x)))
          (λ e. omega (arith, o.parts.once x, one_most (ltb x n), ap one_if (eq-eqb x p e)))
          (λ e. omega (arith, o.parts.once x, one_most (ltb x n), ap one_if (eq-eqb x q e))) in
          from_circles f g n p (p ∷ o.ys ++ q ∷ o.xs) (p ∷ n ∷ o.xs) (q ∷ suc n ∷ o.ys)
          (chain_join f p q p o.ys o.xs o.a_to_b o.b_to_a)
          (d.at_p, chain_from f g q n p o.xs d.at_n (λ x h. u x (omega arith)) o.b_to_a)
          ((d.apart ne).0, chain_from f g p (suc n) q o.ys (d.apart ne).1 (λ x h. u x (omega arith)) o.a_to_b)
          (omega (arith, one_same p)) (omega (arith, one_same n)) (omega (arith, one_same (suc n)))
          (λ k. omega (arith, o.parts.once k, occ_append k o.ys (q ∷ o.xs)))
          (λ k. omega (arith, occ_append k o.ys (q ∷ o.xs)))
    ]

one_if_met : (m : ℕ) → m ≤ 1 → one_if (ltb 0 m) ≡ m
one_if_met m l = elim (cases_lt 0 m) [ inl h ↦ omega (arith, one_below 0 m h) | inr h ↦ omega (arith, one_past 0 m h) ]

not_met : (m : ℕ) → one_if (ltb 0 m) ≡ 0 → m ≡ 0
not_met m e = elim (cases_lt 0 m) [ inl h ↦ absurd (omega (arith, one_below 0 m h)) | inr h ↦ omega arith ]

module _ (f g : ℕ → ℕ) (n p q : ℕ) (r : Ringed f n) (s : Ringed g (n + 2)) (lp : p < n) (lq : q < n) (m : (q ≡ p → ⊥) → meets f n p q ≡ true) (d : Divided f g n p q) where
  two : TwoRings f g n p
  two = two_rings f g n p q r lp lq m d

  -- the two new sides stand in two rings
  pub new_apart : meets g (n + 2) n (suc n) ≡ false
  new_apart =
      le-ltb 0 (occ (suc n) (ring g (n + 2) n))
      (omega (arith, two.parted (suc n), two.most (suc n), one_past (suc n) n (omega arith), one_other (suc n) n (omega arith), one_same (suc n)))

  -- an old side stands in one of the two just if it stood in the ring of p
  pub just_one : (k : ℕ) → k < n → one_if (meets g (n + 2) n k) + one_if (meets g (n + 2) (suc n) k) ≡ one_if (meets f n p k)
  just_one k l =
      let e = two.parted k in
      let a = two.most k in
      let b = one_most (ltb k n) in
      let x = one_other k n (omega arith) in
      let y = one_other k (suc n) (omega arith) in
      omega (
        arith,
        one_if_met (occ k (ring g (n + 2) n)) (omega arith),
        one_if_met (occ k (ring g (n + 2) (suc n))) (omega arith),
        one_if_met (occ k (ring f n p)) (omega arith),
      )

  abbrev U : ℕ → Bool
  U = meets g (n + 2) n

  abbrev T : ℕ → Bool
  T = meets g (n + 2) (suc n)

  p_met : U p ≡ true
  p_met = sym (meets_next g (n + 2) (rings g (n + 2)) (ringed_circles g (n + 2) s) n p (omega arith) (omega arith)) ∙ (ap U d.at_p ∙ meets_self g (n + 2) n)

  q_met : (U q ≡ true) ⊎ (T q ≡ true)
  q_met =
      elim (cases_eq q p) [
        | inl e ↦ inl (ap U e ∙ p_met)
        | inr ne ↦
            inr
            (sym (meets_next g (n + 2) (rings g (n + 2)) (ringed_circles g (n + 2) s) (suc n) q (omega arith) (omega arith)) ∙ (ap T (d.apart ne).0 ∙ meets_self g (n + 2) (suc n)))
      ]

  -- a side of neither is an old one, and leads where it led
  pub neither : (k : ℕ) → k < n + 2 → U k ≡ false → T k ≡ false → (k < n) × (g k ≡ f k) × (meets f n p k ≡ false)
  neither k l u t =
      let nn : k ≡ n → ⊥ = λ e. both_ways (U k) u (ap U e ∙ meets_self g (n + 2) n) in
      let nt : k ≡ suc n → ⊥ = λ e. both_ways (T k) t (ap T e ∙ meets_self g (n + 2) (suc n)) in
      let lk : k < n = omega arith in
      let np : k ≡ p → ⊥ = λ e. both_ways (U k) u (ap U e ∙ p_met) in
      let nq : k ≡ q → ⊥ = λ e. elim q_met [ inl h ↦ both_ways (U k) u (ap U e ∙ h) | inr h ↦ both_ways (T k) t (ap T e ∙ h) ] in
      let z = not_met (occ k (ring f n p)) (omega (arith, just_one k lk, ap one_if u, ap one_if t)) in
      (lk, d.else' k lk np nq, le-ltb 0 (occ k (ring f n p)) (omega arith))

  -- the side of either stood in the ring of p, where it is an old one
  pub either : (k : ℕ) → k < n → (U k ≡ true) ⊎ (T k ≡ true) → meets f n p k ≡ true
  either k l h =
      lt-ltb 0 (occ k (ring f n p))
      (let e = two.parted k in
      let x = one_other k n (omega arith) in
      let y = one_other k (suc n) (omega arith) in
      elim h [
        | inl u ↦ let o = ltb-true 0 (occ k (ring g (n + 2) n)) u in omega arith
        | inr t ↦ let o = ltb-true 0 (occ k (ring g (n + 2) (suc n))) t in omega arith
      ])

  -- all other rings stay as they were
  pub others_stay : (k : ℕ) → k < n → meets f n p k ≡ false → ring g (n + 2) k ≡ ring f n k
  others_stay k l h =
      ring_from f g n (n + 2) k r l (omega arith)
      (λ x mx.
      let lx = meets_low f n k x r l mx in
      let off : meets f n p x ≡ true → ⊥ =
      λ y.
      let kx : meets f n x k ≡ true = meets_sym f n (rings f n) (ringed_circles f n r) x k lx l ∙ mx in
      both_ways (meets f n p k) h (sym (ring_same f n p x r lp y k) ∙ kx) in
      d.else' x lx (λ e. off (ap (meets f n p) e ∙ meets_self f n p))
      (λ e.
      off
      (ap (meets f n p) e
      ∙ elim (cases_eq q p) [ inl i ↦ ap (meets f n p) i ∙ meets_self f n p | inr ne ↦ m ne ])))

  -- a label along the rings, where the two new rings have labels of their own
  pub told_along : (lab lab' : ℕ → ℕ) (x y : ℕ) → Along f lab n → ((k : ℕ) → k < n → lab' k ≡ lab k) → Along g (λ k. cond (T k) y (cond (U k) x (lab' k))) (n + 2)
  told_along lab lab' x y along same k l =
      let gc = ringed_circles g (n + 2) s in
      ap (λ (b : Bool). cond b y (cond (U (g k)) x (lab' (g k)))) (meets_next g (n + 2) (rings g (n + 2)) gc (suc n) k (omega arith) l)
      ∙ (ap (λ (b : Bool). cond (T k) y (cond b x (lab' (g k)))) (meets_next g (n + 2) (rings g (n + 2)) gc n k (omega arith) l)
      ∙ elim (cases_Bool (T k)) [
        | inl t ↦ cond-true (T k) y (cond (U k) x (lab' (g k))) t ∙ sym (cond-true (T k) y (cond (U k) x (lab' k)) t)
        | inr t ↦
            elim (cases_Bool (U k)) [
              | inl u ↦
                  ap (cond (T k) y) (cond-true (U k) x (lab' (g k)) u ∙ sym (cond-true (U k) x (lab' k) u))
              | inr u ↦
                  let (lk, e, _) = neither k l u t in
                  let lf = within f n (rings f n) (ringed_circles f n r) k lk in
                  ap (λ (v : ℕ). cond (T k) y (cond (U k) x v)) (ap lab' e ∙ (same (f k) lf ∙ (along k lk ∙ sym (same k lk))))
            ]
      ])

-- ---- each member comes after a member

chain_end : (f : ℕ → ℕ) (a z : ℕ) (xs : List ℕ) → Chain f a xs z → (p : ℕ) × (0 < one_if (eqb p a) + occ p xs) × (f p ≡ z)
chain_end f a z [] c = (a, omega (arith, one_same a), c)
chain_end f a z (x ∷ xs) c =
    let r : (p : ℕ) × (0 < one_if (eqb p x) + occ p xs) × (f p ≡ z) = chain_end f x z xs c.1 in
    let h = r.1 in
    (r.0, omega arith, r.2)

pub came_before : (f : ℕ → ℕ) (n s : ℕ) → Ringed f n → s < n → (p : ℕ) × (p < n) × (f p ≡ s)
came_before f n s r l =
    let (p, h, e) = chain_end f s s (walk f n s s) (ring_round f n s r l) in
    (p, below_one p n (omega (arith, h, ring_most f n s r l p)), e)
