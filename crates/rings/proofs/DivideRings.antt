-- The two rings and the turns after a division, as lists.
use Rattle.std.proofs.Common.{◌≡◌, ℕ, suc, ◌+◌, ◌%◌, ◌<◌, ◌≤◌, Bool, true, false, cond, eqb, ltb, List, [], ◌∷◌, ◌++◌, sym, refl, ap, ◌∙◌, subst, inl, inr, arith}
use Rattle.std.proofs.lemmas.Bool.{cases_eq, cases_lt, eq-eqb, ne_eqb, cond-true, cond-false}
use Rattle.rings.specs.Circles.{one_if, occ, Chain, walk, ring, rings, meets, Divided}
use Rattle.rings.specs.Law.{opp, turn, Ringed}
use Rattle.rings.specs.LetIn.{let_in, split_after, divide_after}
use Rattle.rings.proofs.Occurs.{one_same, one_other, one_most, one_below, one_past, below_one}
use Rattle.rings.proofs.Chains.{picked}
use Rattle.rings.proofs.Listing.{pigeon, walk_is, ring_is}
use Rattle.rings.proofs.Ringed.{ringed_circles}
use Rattle.rings.proofs.Closed.{within, one_image, chain_onto}
use Rattle.rings.proofs.Surgery.{InOne, in_one}
use Rattle.rings.proofs.Split.{opp_low, opp_opp}
use Rattle.rings.proofs.SplitRings.{chain_let_in, chain_end, let_in_few}

module _ (f g : ℕ → ℕ) (n p q : ℕ) (r : Ringed f n) (lp : p < n) (lq : q < n) (D : Divided f g n p q) where
  abbrev a : ℕ
  a = f p

  abbrev b : ℕ
  b = f q

  low : (k : ℕ) → k < n → f k < n
  low = within f n (rings f n) (ringed_circles f n r)

  la : a < n
  la = low p lp

  lb : b < n
  lb = low q lq

  one : (i j : ℕ) → i < n → j < n → f i ≡ f j → i ≡ j
  one = one_image f n (rings f n) (ringed_circles f n r)

  -- g leads on as f does but from p and q
  else_led : (k : ℕ) → k < n → (f k ≡ a → ⊥) → (f k ≡ b → ⊥) → g k ≡ f k
  else_led k l na nb = D.else' k l (λ e. na (ap f e)) (λ e. nb (ap f e))

  few_more : (k j : ℕ) → k ≤ one_if (ltb j n) → k ≤ one_if (ltb j (n + 2))
  few_more k j h = elim (cases_lt j n) [ inl l ↦ omega (arith, h, one_most (ltb j n), one_below j (n + 2) (omega arith)) | inr l ↦ omega (arith, h, one_past j n l) ]

  new_too : (top : ℕ) → n ≤ top → top < n + 2 → (k : ℕ) (xs : List ℕ) → ((j : ℕ) → occ j xs ≤ one_if (ltb j n)) → one_if (eqb k top) + occ k xs ≤ one_if (ltb k (n + 2))
  new_too top g l k xs h =
      elim (cases_eq k top) [
        | inl e ↦ omega (arith, ap one_if (eq-eqb k top e), ap (λ (j : ℕ). occ j xs) e, h top, one_past top n g, one_below k (n + 2) (omega (arith, e, l)))
        | inr ne ↦ omega (arith, one_other k top ne, few_more (occ k xs) k (h k))
      ]

  module _ (share : (b ≡ a → ⊥) → meets f n b a ≡ true) where
    -- the members from b on, before a
    apart_o : (b ≡ a → ⊥) → InOne f n b a (rings f n)
    apart_o ne = in_one f n b a (rings f n) (ringed_circles f n r) lb la ne (share ne)

    pub unturned_ring : ring g (n + 2) n ≡ n ∷ b ∷ walk f n a b
    unturned_ring =
        elim (cases_eq b a) [
          | inl e ↦
              let t = picked f a (rings f n) (ringed_circles f n r).round (omega (arith, (ringed_circles f n r).once a, one_below a n la)) in
              let few : (k : ℕ) → occ k (a ∷ t.loop) ≤ one_if (ltb k n) = λ k. omega (arith, (ringed_circles f n r).once k, t.same k) in
              let w : walk f n a a ≡ t.loop = walk_is f n a a t.loop t.closed (omega (arith, few a, one_same a, one_most (ltb a n))) (pigeon n t.loop (λ k. omega (arith, few k))) in
              let pq : q ≡ p = one q p lq lp e in
              let c : Chain g a t.loop n =
              chain_onto f g a a a n t.loop (λ i. ap g (one a p la lp i) ∙ D.at_p) (λ ni. else_led a la ni (λ i. ni (i ∙ e)))
              (λ x h i. ap g (one x p (below_one x n (omega (arith, few x))) lp i) ∙ D.at_p)
              (λ x h ni. else_led x (below_one x n (omega (arith, few x))) ni (λ i. ni (i ∙ e))) (omega (arith, few a, one_same a, one_most (ltb a n))) t.closed in
              ring_is g (n + 2) n (a ∷ t.loop) (D.at_n ∙ e, c) (λ k. new_too n (omega arith) (omega arith) k (a ∷ t.loop) few)
              ∙ sym (ap (λ (x : ℕ). n ∷ x ∷ walk f n a x) e ∙ ap (λ (xs : List ℕ). n ∷ a ∷ xs) w)
          | inr ne ↦
              let o = apart_o ne in
              let few : (k : ℕ) → occ k (b ∷ o.ys) ≤ one_if (ltb k n) = λ k. omega (arith, o.parts.once k) in
              let none : occ a o.ys ≡ 0 = omega (arith, o.parts.once a, one_same a, one_most (ltb a n)) in
              let w : walk f n a b ≡ o.ys = walk_is f n a b o.ys o.a_to_b none (pigeon n o.ys (λ k. omega (arith, few k))) in
              let (z, hz, ez) = chain_end f a b o.xs o.b_to_a in
              let zq : z ≡ q = one z q (below_one z n (omega (arith, hz, o.parts.once z))) lq ez in
              let out : (x : ℕ) → 0 < occ x (b ∷ o.ys) → f x ≡ b → ⊥ =
              λ x h i. let xq : x ≡ q = one x q (below_one x n (omega (arith, few x))) lq i in omega (arith, o.parts.once x, one_most (ltb x n), h, hz, ap (λ (j : ℕ). occ j o.xs) (xq ∙ sym zq), ap (λ (j : ℕ). one_if (eqb j a)) (xq ∙ sym zq)) in
              let c : Chain g b o.ys n =
              chain_onto f g b b a n o.ys (λ i. ap g (one b p lb lp i) ∙ D.at_p) (λ ni. else_led b lb ni (out b (omega (arith, one_same b))))
              (λ x h i. ap g (one x p (below_one x n (omega (arith, few x))) lp i) ∙ D.at_p)
              (λ x h ni. else_led x (below_one x n (omega (arith, few x))) ni (out x (omega arith))) none o.a_to_b in
              ring_is g (n + 2) n (b ∷ o.ys) (D.at_n, c) (λ k. new_too n (omega arith) (omega arith) k (b ∷ o.ys) few)
              ∙ ap (λ (xs : List ℕ). n ∷ b ∷ xs) (sym w)
        ]

    pub turned_ring : ring g (n + 2) (suc n) ≡ suc n ∷ cond (eqb a b) [] (a ∷ walk f n b a)
    turned_ring =
        elim (cases_eq b a) [
          | inl e ↦
              let pq : q ≡ p = one q p lq lp e in
              ring_is g (n + 2) (suc n) [] (D.same pq) (λ k. new_too (suc n) (omega arith) (omega arith) k [] (λ j. omega arith))
              ∙ ap (λ (xs : List ℕ). suc n ∷ xs) (sym (cond-true (eqb a b) [] (a ∷ walk f n b a) (eq-eqb a b (sym e))))
          | inr ne ↦
              let o = apart_o ne in
              let qp : q ≡ p → ⊥ = λ i. ne (ap f i) in
              let few : (k : ℕ) → occ k (a ∷ o.xs) ≤ one_if (ltb k n) = λ k. omega (arith, o.parts.once k) in
              let none : occ b o.xs ≡ 0 = omega (arith, o.parts.once b, one_same b, one_most (ltb b n)) in
              let w : walk f n b a ≡ o.xs = walk_is f n b a o.xs o.b_to_a none (pigeon n o.xs (λ k. omega (arith, few k))) in
              let (z, hz, ez) = chain_end f b a o.ys o.a_to_b in
              let zp : z ≡ p = one z p (below_one z n (omega (arith, hz, o.parts.once z))) lp ez in
              let out : (x : ℕ) → 0 < occ x (a ∷ o.xs) → f x ≡ a → ⊥ =
              λ x h i. let xp : x ≡ p = one x p (below_one x n (omega (arith, few x))) lp i in omega (arith, o.parts.once x, one_most (ltb x n), h, hz, ap (λ (j : ℕ). occ j o.ys) (xp ∙ sym zp), ap (λ (j : ℕ). one_if (eqb j b)) (xp ∙ sym zp)) in
              let c : Chain g a o.xs (suc n) =
              chain_onto f g a a b (suc n) o.xs (λ i. ap g (one a q la lq i) ∙ (D.apart qp).0) (λ ni. else_led a la (out a (omega (arith, one_same a))) ni)
              (λ x h i. ap g (one x q (below_one x n (omega (arith, few x))) lq i) ∙ (D.apart qp).0)
              (λ x h ni. else_led x (below_one x n (omega (arith, few x))) (out x (omega arith)) ni) none o.b_to_a in
              ring_is g (n + 2) (suc n) (a ∷ o.xs) ((D.apart qp).1, c) (λ k. new_too (suc n) (omega arith) (omega arith) k (a ∷ o.xs) few)
              ∙ ap (λ (xs : List ℕ). suc n ∷ xs) (ap (λ (xs : List ℕ). a ∷ xs) (sym w) ∙ sym (cond-false (eqb a b) [] (a ∷ walk f n b a) (ne_eqb a b (λ i. ne (sym i)))))
        ]

  -- ---- the turns

  module _ (even : n % 2 ≡ 0) (r' : Ringed (turn f) n) where
    abbrev p' : ℕ
    p' = opp p

    abbrev q' : ℕ
    q' = opp q

    opp_n : opp n ≡ suc n
    opp_n = omega arith

    opp_top : opp (suc n) ≡ n
    opp_top = omega arith

    abbrev after : ℕ → List ℕ
    after = divide_after (turn f) n a b

    after_is : (x : ℕ) (t u : Bool) → eqb (turn f x) a ≡ t → eqb (turn f x) b ≡ u → after x ≡ cond t (n ∷ []) [] ++ cond u (suc n ∷ []) []
    after_is x t u i j = ap (λ (v : Bool). cond v (n ∷ []) [] ++ cond (eqb (turn f x) b) (suc n ∷ []) []) i ∙ ap (λ (v : Bool). cond t (n ∷ []) [] ++ cond v (suc n ∷ []) []) j

    through : (x : ℕ) → x < n → Chain (turn g) x (after x) (turn f x)
    through x l =
        let y = opp x in
        let ly = opp_low n x even l in
        let at_n : turn g n ≡ g (suc n) = ap g opp_n in
        let at_top : turn g (suc n) ≡ g n = ap g opp_top in
        elim (cases_eq (f y) a) [
          | inl i ↦
              let yp : y ≡ p = one y p ly lp i in
              elim (cases_eq (f y) b) [
                | inl j ↦
                    let pq : q ≡ p = sym (one y q ly lq j) ∙ yp in
                    subst (λ (ys : List ℕ). Chain (turn g) x ys (f y)) (sym (after_is x true true (eq-eqb (f y) a i) (eq-eqb (f y) b j)))
                    (ap g yp ∙ D.at_p, (at_n ∙ D.same pq, at_top ∙ (D.at_n ∙ sym j)))
                | inr nj ↦
                    let qp : q ≡ p → ⊥ = λ e. nj (ap f (yp ∙ sym e)) in
                    subst (λ (ys : List ℕ). Chain (turn g) x ys (f y)) (sym (after_is x true false (eq-eqb (f y) a i) (ne_eqb (f y) b nj)))
                    (ap g yp ∙ D.at_p, at_n ∙ ((D.apart qp).1 ∙ sym i))
              ]
          | inr ni ↦
              elim (cases_eq (f y) b) [
                | inl j ↦
                    let yq : y ≡ q = one y q ly lq j in
                    let qp : q ≡ p → ⊥ = λ e. ni (ap f (yq ∙ e)) in
                    subst (λ (ys : List ℕ). Chain (turn g) x ys (f y)) (sym (after_is x false true (ne_eqb (f y) a ni) (eq-eqb (f y) b j)))
                    (ap g yq ∙ (D.apart qp).0, at_top ∙ (D.at_n ∙ sym j))
                | inr nj ↦
                    subst (λ (ys : List ℕ). Chain (turn g) x ys (f y)) (sym (after_is x false false (ne_eqb (f y) a ni) (ne_eqb (f y) b nj)))
                    (else_led y ly ni nj)
              ]
        ]

    -- what is let in after a side, by the sides before
    as_split : (x : ℕ) → x < n → after x ≡ split_after (turn f) n p' b x
    as_split x l =
        ap (λ (v : Bool). cond v (n ∷ []) [] ++ cond (eqb (turn f x) b) (suc n ∷ []) [])
        (elim (cases_eq (turn f x) a) [
          | inl i ↦ eq-eqb (turn f x) a i ∙ sym (eq-eqb x p' (sym (opp_opp x) ∙ ap opp (one (opp x) p (opp_low n x even l) lp i)))
          | inr ni ↦ ne_eqb (turn f x) a ni ∙ sym (ne_eqb x p' (λ e. ni (ap (turn f) e ∙ ap f (opp_opp p))))
        ])

    as_splits : (xs : List ℕ) → ((x : ℕ) → 0 < occ x xs → x < n) → let_in after xs ≡ let_in (split_after (turn f) n p' b) xs
    as_splits [] h = refl
    as_splits (x ∷ xs) h =
        ap (λ (ys : List ℕ). x ∷ (ys ++ let_in after xs)) (as_split x (h x (omega (arith, one_same x))))
        ∙ ap (λ (ys : List ℕ). x ∷ (split_after (turn f) n p' b x ++ ys)) (as_splits xs (λ y l. h y (omega arith)))

    pub turn_divided : (x : ℕ) → x < n → ring (turn g) (n + 2) x ≡ let_in after (ring (turn f) n x)
    turn_divided x l =
        let tc = ringed_circles (turn f) n r' in
        let t = picked (turn f) x (rings (turn f) n) tc.round (omega (arith, tc.once x, one_below x n l)) in
        let xs = x ∷ t.loop in
        let few : (k : ℕ) → occ k xs ≤ one_if (ltb k n) = λ k. omega (arith, tc.once k, t.same k) in
        let w : ring (turn f) n x ≡ xs = ring_is (turn f) n x t.loop t.closed few in
        let inside : (y : ℕ) → 0 < occ y xs → y < n = λ y h. below_one y n (omega (arith, few y)) in
        let counted = let_in_few (turn f) n p' b q' (opp_low n p even lp) (opp_low n q even lq) (ap f (opp_opp q)) xs few
        (λ y h i. sym (opp_opp y) ∙ ap opp (one (opp y) q (opp_low n y even (inside y h)) lq i)) in
        ring_is (turn g) (n + 2) x (after x ++ let_in after t.loop) (chain_let_in (turn f) (turn g) after x x t.loop (λ y h. through y (inside y h)) t.closed)
        (λ k. omega (arith, counted k, ap (occ k) (as_splits xs inside)))
        ∙ ap (let_in after) (sym w)
