-- DISSOLVE keeps the law, where the arc is the highest and its two sides have one polygon.
use Rattle.std.proofs.Common.{◌≡◌, ℕ, suc, ◌%◌, ◌<◌, false, List, length, sym, ap, ◌∙◌, inl, inr, arith}
use Rattle.std.proofs.lemmas.Bool.{cases_eq, both_ways}
use Rattle.std.proofs.lemmas.Bool.Decides.{nat_tests}
use Rattle.rings.specs.Circles.{Circles, put, rings, meets, Undivided}
use Rattle.rings.specs.Law.{opp, turn, Closes, Along, Noded, Ringed}
use Rattle.rings.specs.Edits.{dissolve_next}
use Rattle.rings.proofs.Listing.{listed}
use Rattle.rings.proofs.Ringed.{ringed_circles, circles_ringed}
use Rattle.rings.proofs.Closed.{one_image, meets_next, meets_sym, meets_self}
use Rattle.rings.proofs.Links.{put_same, put_other}
use Rattle.rings.proofs.Undo.{dissolved, TwoLess, two_out}
use Rattle.rings.proofs.Split.{opp_low, opp_opp, opp_new, opp_top}

module _ (f : ℕ → ℕ) (n p q : ℕ) (ep : f p ≡ n) (eq : f q ≡ suc n) where
  apart : p ≡ q → ⊥
  apart e = omega (arith, ap f e)

  at_q_low : f n ≡ n → dissolve_next f n p q q ≡ f (suc n)
  at_q_low e = grind (arith, nat_tests)

  at_q_else : (f n ≡ n → ⊥) → dissolve_next f n p q q ≡ f n
  at_q_else e = grind (arith, nat_tests)

  at_p_high : f (suc n) ≡ suc n → dissolve_next f n p q p ≡ f n
  at_p_high e = let a = apart in grind (arith, nat_tests)

  at_p_else : (f (suc n) ≡ suc n → ⊥) → dissolve_next f n p q p ≡ f (suc n)
  at_p_else e = let a = apart in grind (arith, nat_tests)

  at_else : (k : ℕ) → (k ≡ p → ⊥) → (k ≡ q → ⊥) → dissolve_next f n p q k ≡ f k
  at_else k h i = grind (arith, nat_tests)

  -- no two sides have one next side
  module _ (lp : p < suc (suc n)) (lq : q < suc (suc n)) (inj : (a b : ℕ) → a < suc (suc n) → b < suc (suc n) → f a ≡ f b → a ≡ b) where
    low_alone : (f n ≡ n → p ≡ n)
    low_alone e = inj p n lp (omega arith) (ep ∙ sym e)

    high_alone : (f (suc n) ≡ suc n → q ≡ suc n)
    high_alone e = inj q (suc n) lq (omega arith) (eq ∙ sym e)

    dissolve_undivided : Undivided f (dissolve_next f n p q) n p q
    dissolve_undivided =
        record {
          at_p = ep;
          at_q = eq;
          both = λ l m. (at_p_else (λ e. let h = high_alone e in omega arith), at_q_else (λ e. let h = low_alone e in omega arith));
          low_alone = λ e. at_q_low (ap f (sym e) ∙ ep);
          high_alone = λ e. at_p_high (ap f (sym e) ∙ eq);
          else' = λ k l. at_else k;
        }

    -- the turns: suc n comes after opp q
    module _ (even : n % 2 ≡ 0) (nq : q ≡ n → ⊥) (np : p ≡ suc n → ⊥) (nb : p ≡ n → q ≡ suc n → ⊥) (cs : List (List ℕ)) (c : Circles (turn f) (suc (suc n)) cs) where
      low_w : opp q < suc n
      low_w = omega arith

      at_w : turn f (opp q) ≡ suc n
      at_w = ap f (opp_opp q) ∙ eq

      top : turn f (suc n) ≡ f n
      top = ap f (opp_top n even)

      bottom : turn f n ≡ f (suc n)
      bottom = ap f (opp_new n even)

      turn_put_same : put (turn f) (opp q) (turn f (suc n)) (opp q) ≡ f n
      turn_put_same = put_same (turn f) (opp q) (turn f (suc n)) ∙ top

      turn_put_else : (k : ℕ) → (k ≡ opp q → ⊥) → put (turn f) (opp q) (turn f (suc n)) k ≡ f (opp k)
      turn_put_else k ne = put_other (turn f) (opp q) (turn f (suc n)) k ne

      dissolve_turns_low : p ≡ n → TwoLess (turn f) (turn (dissolve_next f n p q)) n cs
      dissolve_turns_low e =
          let lq' : q < n = let h = nb e in omega arith in
          let fn : f n ≡ n = ap f (sym e) ∙ ep in
          two_out (turn f) (turn (dissolve_next f n p q)) n (opp q) (opp q) cs c low_w at_w (opp_low n q even lq') (turn_put_same ∙ fn)
          (ap (dissolve_next f n p q) (opp_opp q) ∙ (at_q_low fn ∙ (sym bottom ∙ sym (put_other (turn f) (opp q) (turn f (suc n)) n (omega arith)))))
          (λ k l ne. let lk = opp_low n k even l in at_else (opp k) (omega arith) (λ i. ne (sym (opp_opp k) ∙ ap opp i)) ∙ sym (turn_put_else k ne))

      dissolve_turns_high : (p ≡ n → ⊥) → TwoLess (turn f) (turn (dissolve_next f n p q)) n cs
      dissolve_turns_high ne =
          let lp' : p < n = omega arith in
          let a = apart in
          let fn : f n ≡ n → ⊥ = λ e. ne (low_alone e) in
          two_out (turn f) (turn (dissolve_next f n p q)) n (opp q) (opp p) cs c low_w at_w (opp_low n p even lp')
          (turn_put_else (opp p) (omega arith) ∙ (ap f (opp_opp p) ∙ ep))
          (ap (dissolve_next f n p q) (opp_opp p)
          ∙ (elim (cases_eq q (suc n)) [
            | inl e ↦
                let i : n ≡ opp q = omega arith in
                at_p_high (ap f (sym e) ∙ eq) ∙ sym (ap (put (turn f) (opp q) (turn f (suc n))) i ∙ turn_put_same)
            | inr nh ↦ at_p_else (λ e. nh (high_alone e)) ∙ (sym bottom ∙ sym (put_other (turn f) (opp q) (turn f (suc n)) n (omega arith)))
          ]))
          (λ k l nk.
          elim (cases_eq k (opp q)) [
            | inl e ↦
                ap (λ (y : ℕ). dissolve_next f n p q (opp y)) e
                ∙ (ap (dissolve_next f n p q) (opp_opp q) ∙ (at_q_else fn ∙ (sym turn_put_same ∙ ap (put (turn f) (opp q) (turn f (suc n))) (sym e))))
            | inr ne' ↦ at_else (opp k) (omega arith) (omega arith) ∙ sym (turn_put_else k ne')
          ])

      dissolve_turns : TwoLess (turn f) (turn (dissolve_next f n p q)) n cs
      dissolve_turns = elim (cases_eq p n) [ inl e ↦ dissolve_turns_low e | inr ne ↦ dissolve_turns_high ne ]

-- the polygons
dissolve_bounds : (f pol : ℕ → ℕ) (n p q : ℕ) → f p ≡ n → f q ≡ suc n → p < suc (suc n) → q < suc (suc n) → pol (suc n) ≡ pol n → Along f pol (suc (suc n)) → Along (dissolve_next f n p q) pol n
dissolve_bounds f pol n p q ep eq lp lq same b x l =
    let bp : pol n ≡ pol p = ap pol (sym ep) ∙ b p lp in
    let bq : pol (suc n) ≡ pol q = ap pol (sym eq) ∙ b q lq in
    let bn = b n (omega arith) in
    let bs = b (suc n) (omega arith) in
    let bx = b x (omega arith) in
    grind (arith, nat_tests)

-- the law after the highest arc is dissolved; there is one ring fewer
pub record DissolveKeeps (f node pol : ℕ → ℕ) (n nodes p q : ℕ) : Type 0 where
  pub ringed : Ringed (dissolve_next f n p q) n
  pub turned : Ringed (turn (dissolve_next f n p q)) n
  pub closes : Closes (dissolve_next f n p q) node n
  pub bounds : Along (dissolve_next f n p q) pol n
  pub noded : Noded (dissolve_next f n p q) node n nodes
  pub count : length (rings f (suc (suc n))) ≡ suc (length (rings (dissolve_next f n p q) n))

pub dissolve_keeps : (f node pol : ℕ → ℕ) (n nodes p q : ℕ) → n % 2 ≡ 0 → Ringed f (suc (suc n)) → Ringed (turn f) (suc (suc n)) → Closes f node (suc (suc n)) →
    Along f pol (suc (suc n)) → Noded f node (suc (suc n)) nodes → p < suc (suc n) → q < suc (suc n) → f p ≡ n → f q ≡ suc n → pol (suc n) ≡ pol n →
    meets f (suc (suc n)) n (suc n) ≡ false → (p ≡ n → q ≡ suc n → ⊥) → DissolveKeeps f node pol n nodes p q
dissolve_keeps f node pol n nodes p q even r t c b h lp lq ep eq same m nb =
    let N = suc (suc n) in
    let fc = ringed_circles f N r in
    let tc = ringed_circles (turn f) N t in
    let inj = one_image f N (rings f N) fc in
    let g = dissolve_next f n p q in
    let m' : meets f N (suc n) n ≡ false = meets_sym f N (rings f N) fc (suc n) n (omega arith) (omega arith) ∙ m in
    let np : p ≡ suc n → ⊥ = λ e.
    both_ways (meets f N (suc n) n) m'
    (ap (meets f N (suc n)) (sym ep) ∙ (meets_next f N (rings f N) fc (suc n) p (omega arith) lp ∙ (ap (meets f N (suc n)) e ∙ meets_self f N (suc n))))
    in
    let nq : q ≡ n → ⊥ = λ e.
    both_ways (meets f N n (suc n)) m
    (ap (meets f N n) (sym eq) ∙ (meets_next f N (rings f N) fc n q (omega arith) lq ∙ (ap (meets f N n) e ∙ meets_self f N n)))
    in
    let d = dissolved f g n p q (rings f N) fc lp lq m nb (dissolve_undivided f n p q ep eq lp lq inj) in
    let w = dissolve_turns f n p q ep eq lp lq inj even nq np nb (rings (turn f) N) tc in
    let cl : Closes g node n = w.keeps node c in
    record {
      ringed = circles_ringed g n d.circles d.are;
      turned = circles_ringed (turn g) n w.circles w.are;
      closes = cl;
      bounds = dissolve_bounds f pol n p q ep eq lp lq same b;
      noded = λ v. (listed (turn g) n w.circles w.are).label node cl v ∙ (w.label node c v ∙ h v);
      count = d.count ∙ ap suc (sym (listed g n d.circles d.are).count);
    }
