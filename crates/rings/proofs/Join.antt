-- JOIN, the inverse of a split: what it makes of the rings and the turns. The arc that goes is the highest.
use Rattle.std.proofs.Common.{◌≡◌, ℕ, suc, ◌+◌, ◌%◌, ◌<◌, eqb, ltb, List, [], ◌∷◌, length, sym, refl, ap, ◌∙◌, inl, inr, arith}
use Rattle.std.proofs.lemmas.Bool.{cases_eq, eq-eqb}
use Rattle.std.proofs.lemmas.Bool.Decides.{nat_tests}
use Rattle.rings.specs.Circles.{one_if, occ, occs, Chain, Circles, names, put, rings}
use Rattle.rings.specs.Law.{opp, turn, Closes, Along, Noded, Ringed}
use Rattle.rings.proofs.Listing.{listed}
use Rattle.rings.proofs.Ringed.{ringed_circles, circles_ringed}
use Rattle.rings.proofs.Split.{opp_low, opp_opp, opp_new, opp_top}
use Rattle.rings.proofs.Occurs.{one_same, one_other, one_most, one_below, below_one, below_more}
use Rattle.rings.proofs.Chains.{picked}
use Rattle.rings.proofs.Surgery.{all_from, names_from}
use Rattle.rings.proofs.Members.{chain_first}
use Rattle.rings.proofs.Closed.{all_next, chain_onto, one_image}
use Rattle.rings.proofs.Links.{put_same, put_other}
use Rattle.rings.proofs.Undo.{TwoLess, two_out}

-- s leads to n, suc n to o, q to suc n: the two are left out
abbrev pub join_next : (ℕ → ℕ) → ℕ → ℕ → ℕ → ℕ → ℕ → ℕ
join_next f n s o q = put (put f q o) s (put f q o n)

pub join_rings : (f : ℕ → ℕ) (n s o q : ℕ) (cs : List (List ℕ)) → Circles f (suc (suc n)) cs → s < n → o < n → q < suc (suc n) → f s ≡ n → f (suc n) ≡ o → f q ≡ suc n →
    TwoLess f (join_next f n s o q) n cs
join_rings f n s o q cs c ls lo lq es eo eq =
    let nq : q ≡ suc n → ⊥ = λ e. omega (arith, sym eo ∙ (ap f (sym e) ∙ eq)) in
    let ne : s ≡ q → ⊥ = λ e. omega (arith, sym es ∙ (ap f e ∙ eq)) in
    let m = ap (put f q) eo in
    two_out f (join_next f n s o q) n q s cs c (omega arith) eq ls (put_other f q (f (suc n)) s ne ∙ es)
    (put_same (put f q o) s (put f q o n) ∙ sym (ap (λ (h : ℕ → ℕ). h n) m))
    (λ k l nk. put_other (put f q o) s (put f q o n) k nk ∙ sym (ap (λ (h : ℕ → ℕ). h k) m))

-- z and n are a circle of their own, which goes, and z takes the place of suc n
pub record Unparted (f g : ℕ → ℕ) (n z : ℕ) : Type 0 where
  pub at_z : f z ≡ n
  pub at_n : f n ≡ z
  pub alone : f (suc n) ≡ suc n → g z ≡ z
  pub on : (f (suc n) ≡ suc n → ⊥) → g z ≡ f (suc n)
  pub before : (k : ℕ) → k < n → (k ≡ z → ⊥) → f k ≡ suc n → g k ≡ z
  pub else' : (k : ℕ) → k < n → (k ≡ z → ⊥) → (f k ≡ suc n → ⊥) → g k ≡ f k

pub record Unmade (f g : ℕ → ℕ) (n z : ℕ) (cs : List (List ℕ)) : Type 0 where
  pub circles : List (List ℕ)
  pub are : Circles g n circles
  pub count : length cs ≡ suc (length circles)
  pub label : (lab lab' : ℕ → ℕ) → ((x : ℕ) → x < suc (suc n) → lab (f x) ≡ lab x) → ((x : ℕ) → x < n → (x ≡ z → ⊥) → lab' x ≡ lab x) → lab' z ≡ lab (suc n) →
      (v : ℕ) → occ v (names lab cs) ≡ one_if (eqb v (lab z)) + occ v (names lab' circles)

-- a chain that is back at once is empty
short : (f : ℕ → ℕ) (p z : ℕ) (xs : List ℕ) → Chain f p xs z → f p ≡ z → occ z xs ≡ 0 → xs ≡ []
short f p z [] c e o = refl
short f p z (x ∷ xs) c e o = absurd (omega (arith, ap one_if (eq-eqb z x (sym e ∙ c.0))))

pub unparted : (f g : ℕ → ℕ) (n z : ℕ) (cs : List (List ℕ)) → Circles f (suc (suc n)) cs → z < n → Unparted f g n z → Unmade f g n z cs
unparted f g n z cs c l d =
    let N = suc (suc n) in
    let t = picked f z cs c.round (omega (arith, c.once z, one_below z N (omega arith))) in
    let a = chain_first f z n z t.loop t.closed d.at_z (omega arith) in
    let z0 : occ z t.loop + occs z t.rest ≡ 0 = omega (arith, c.once z, t.same z, one_same z, one_most (ltb z N)) in
    let b = short f n z a.0 a.2 d.at_n (omega (arith, ap (occ z) a.1)) in
    let s : (k : ℕ) → occ k t.loop ≡ one_if (eqb k n) = λ k. omega (arith, ap (occ k) a.1, ap (occ k) b) in
    let u = picked f (suc n) t.rest t.others
    (omega (arith, c.once (suc n), t.same (suc n), s (suc n), one_below (suc n) N (omega arith), one_other (suc n) n (omega arith), one_other (suc n) z (omega arith)))
    in
    let o : (k : ℕ) → one_if (eqb k z) + occ k u.loop + occs k u.rest ≡ one_if (ltb k n) =
    λ k. omega (arith, c.once k, t.same k, s k, u.same k, below_more k n, below_more k (suc n))
    in
    let low : (x : ℕ) → 0 < occ x u.loop + occs x u.rest → x < n = λ x h. below_one x n (omega (arith, o x)) in
    let off : (x : ℕ) → 0 < occ x u.loop + occs x u.rest → x ≡ z → ⊥ =
    λ x h e. omega (arith, o x, one_most (ltb x n), ap one_if (eq-eqb x z e))
    in
    let top : occ (suc n) u.loop + occs (suc n) u.rest ≡ 0 =
    omega (arith, c.once (suc n), t.same (suc n), u.same (suc n), one_same (suc n), one_most (ltb (suc n) N))
    in
    record {
      circles = (z ∷ u.loop) ∷ u.rest;
      are = record {
        round = (
          chain_onto f g (suc n) z (suc n) z u.loop d.alone d.on (λ x h. d.before x (low x (omega arith)) (off x (omega arith)))
              (λ x h. d.else' x (low x (omega arith)) (off x (omega arith))) (omega arith) u.closed,
          all_from f g u.rest
              (λ x h.
              d.else' x (low x (omega arith)) (off x (omega arith))
              (λ e. omega (arith, all_next f x u.rest u.others h, ap (λ (y : ℕ). occs y u.rest) e)))
              u.others,
        );
        once = λ k. omega (arith, o k);
      };
      count = omega (arith, t.fewer, u.fewer);
      label = λ lab lab' keeps same at_new v.
          omega (
            arith,
            t.label lab (λ x h. keeps x (below_one x N (omega (arith, c.once x)))) v,
            u.label lab (λ x h. keeps x (below_one x N (omega (arith, c.once x, t.same x)))) v,
            ap (λ (w : ℕ). one_if (eqb v w)) at_new,
            ap (occ v) (names_from f lab lab' u.rest u.others (λ x h. same x (low x (omega arith)) (off x (omega arith)))),
          );
    }

module _ (f : ℕ → ℕ) (n s o q : ℕ) (ls : s < n) (lo : o < n) (es : f s ≡ n) (eo : f (suc n) ≡ o) (eq : f q ≡ suc n) where
  s_q : s ≡ q → ⊥
  s_q e = omega (arith, sym es ∙ (ap f e ∙ eq))

  at_s_next : q ≡ n → join_next f n s o q s ≡ o
  at_s_next e = grind (arith, nat_tests)

  at_s_else : (q ≡ n → ⊥) → join_next f n s o q s ≡ f n
  at_s_else ne = grind (arith, nat_tests)

  at_q : join_next f n s o q q ≡ o
  at_q = let h = s_q in grind (arith, nat_tests)

  at_else : (k : ℕ) → (k ≡ s → ⊥) → (k ≡ q → ⊥) → join_next f n s o q k ≡ f k
  at_else k h i = grind (arith, nat_tests)

  join_bounds : (pol : ℕ → ℕ) → q < suc (suc n) → Along f pol (suc (suc n)) → Along (join_next f n s o q) pol n
  join_bounds pol lq b x l =
      let bs : pol n ≡ pol s = ap pol (sym es) ∙ b s (omega arith) in
      let bq : pol (suc n) ≡ pol q = ap pol (sym eq) ∙ b q lq in
      let bn = b n (omega arith) in
      let bt : pol o ≡ pol (suc n) = ap pol (sym eo) ∙ b (suc n) (omega arith) in
      let bx = b x (omega arith) in
      elim (cases_eq x s) [
        | inl e ↦
            ap (λ (y : ℕ). pol (join_next f n s o q y)) e
            ∙ (elim (cases_eq q n) [
              | inl i ↦ ap pol (at_s_next i) ∙ (bt ∙ (bq ∙ (ap pol i ∙ (bs ∙ ap pol (sym e)))))
              | inr ni ↦ ap pol (at_s_else ni) ∙ (bn ∙ (bs ∙ ap pol (sym e)))
            ])
        | inr ne ↦
            elim (cases_eq x q) [
              | inl e ↦ ap (λ (y : ℕ). pol (join_next f n s o q y)) e ∙ (ap pol at_q ∙ (bt ∙ (bq ∙ ap pol (sym e))))
              | inr ne' ↦ ap pol (at_else x ne ne') ∙ bx
            ]
      ]

pub record JoinKeeps (f node pol : ℕ → ℕ) (n nodes s q : ℕ) : Type 0 where
  pub ringed : Ringed (join_next f n s (opp s) q) n
  pub turned : Ringed (turn (join_next f n s (opp s) q)) n
  pub closes : Closes (join_next f n s (opp s) q) (put node (opp s) (node (suc n))) n
  pub bounds : Along (join_next f n s (opp s) q) pol n
  pub noded : Noded (join_next f n s (opp s) q) (put node (opp s) (node (suc n))) n nodes
  pub count : length (rings (join_next f n s (opp s) q) n) ≡ length (rings f (suc (suc n)))

-- the law after a join at the highest node, the arc that goes being the highest
pub join_keeps : (f node pol : ℕ → ℕ) (n nodes s q : ℕ) → n % 2 ≡ 0 → Ringed f (suc (suc n)) → Ringed (turn f) (suc (suc n)) → Closes f node (suc (suc n)) →
    Along f pol (suc (suc n)) → Noded f node (suc (suc n)) (suc nodes) → s < n → q < suc (suc n) → f s ≡ n → f (suc n) ≡ opp s → f q ≡ suc n → node (opp s) ≡ nodes →
    JoinKeeps f node pol n nodes s q
join_keeps f node pol n nodes s q even r t c b h ls lq es eo eq en =
    let N = suc (suc n) in
    let o = opp s in
    let lo = opp_low n s even ls in
    let g = join_next f n s o q in
    let fc = ringed_circles f N r in
    let tc = ringed_circles (turn f) N t in
    let inj = one_image f N (rings f N) fc in
    let d = join_rings f n s o q (rings f N) fc ls lo lq es eo eq in
    let pq : (y : ℕ) → y < N → f y ≡ suc n → y ≡ q = λ y l e. inj y q l lq (e ∙ sym eq) in
    let u : Unparted (turn f) (turn g) n o =
    record {
      at_z = ap f (opp_opp s) ∙ es;
      at_n = ap f (opp_new n even) ∙ eo;
      alone = λ e.
          let i : q ≡ n = sym (pq n (omega arith) (ap f (sym (opp_top n even)) ∙ e)) in
          ap g (opp_opp s) ∙ at_s_next f n s o q ls lo es eo eq i;
      on = λ ne.
          ap g (opp_opp s)
          ∙ (at_s_else f n s o q ls lo es eo eq (λ i. ne (ap f (opp_top n even) ∙ (ap f (sym i) ∙ eq))) ∙ ap f (sym (opp_top n even)));
      before = λ k l ne e.
          let ly = opp_low n k even l in
          ap g (pq (opp k) (omega arith) e) ∙ at_q f n s o q ls lo es eo eq;
      else' = λ k l ne e.
          at_else f n s o q ls lo es eo eq (opp k) (λ i. ne (sym (opp_opp k) ∙ ap opp i)) (λ i. e (ap f i ∙ eq));
    }
    in
    let w = unparted (turn f) (turn g) n o (rings (turn f) N) tc lo u in
    let M = put node o (node (suc n)) in
    let off : (y : ℕ) → y < n → f y ≡ o → ⊥ = λ y l e. let i = inj y (suc n) (omega arith) (omega arith) (e ∙ sym eo) in omega arith in
    let cl : Closes g M n =
    λ x l.
    elim (cases_eq x o) [
      | inl e ↦
          elim (cases_eq q n) [
            | inl i ↦ ap (λ (y : ℕ). M (turn g y)) e ∙ (ap M (ap g (opp_opp s) ∙ at_s_next f n s o q ls lo es eo eq i) ∙ ap M (sym e))
            | inr ni ↦
                let fo : f n ≡ o → ⊥ = λ j. let k = inj n (suc n) (omega arith) (omega arith) (j ∙ sym eo) in omega arith in
                ap (λ (y : ℕ). M (turn g y)) e
                ∙ (ap M (ap g (opp_opp s) ∙ at_s_else f n s o q ls lo es eo eq ni)
                ∙ (put_other node o (node (suc n)) (f n) fo
                ∙ (ap (λ (y : ℕ). node (f y)) (sym (opp_top n even)) ∙ (c (suc n) (omega arith) ∙ (sym (put_same node o (node (suc n))) ∙ ap M (sym e))))))
          ]
      | inr ne ↦
          let ly = opp_low n x even l in
          let ns : opp x ≡ s → ⊥ = λ i. ne (sym (opp_opp x) ∙ ap opp i) in
          elim (cases_eq (opp x) q) [
            | inl i ↦
                ap M (ap g i ∙ at_q f n s o q ls lo es eo eq)
                ∙ (put_same node o (node (suc n)) ∙ (ap node (sym (ap f i ∙ eq)) ∙ (c x (omega arith) ∙ sym (put_other node o (node (suc n)) x ne))))
            | inr ni ↦
                ap M (at_else f n s o q ls lo es eo eq (opp x) ns ni)
                ∙ (put_other node o (node (suc n)) (f (opp x)) (off (opp x) ly) ∙ (c x (omega arith) ∙ sym (put_other node o (node (suc n)) x ne)))
          ]
    ]
    in
    record {
      ringed = circles_ringed g n d.circles d.are;
      turned = circles_ringed (turn g) n w.circles w.are;
      closes = cl;
      bounds = join_bounds f n s o q ls lo es eo eq pol lq b;
      noded = λ v.
          let i = ap (λ (k : ℕ). one_if (eqb v k)) en in
          let a = w.label node M c (λ x l ne. put_other node o (node (suc n)) x ne) (put_same node o (node (suc n))) v in
          (listed (turn g) n w.circles w.are).label M cl v ∙ omega (arith, a, h v, i, below_more v nodes);
      count = (listed g n d.circles d.are).count ∙ d.count;
    }
