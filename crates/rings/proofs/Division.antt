-- DIVISION keeps the law.
use Rattle.std.proofs.Common.{◌≡◌, ℕ, suc, ◌+◌, ◌%◌, ◌<◌, Bool, true, cond, List, length, sym, ap, ◌∙◌, subst, inl, inr, arith}
use Rattle.std.proofs.lemmas.Bool.{cases_eq, cases_lt}
use Rattle.std.proofs.lemmas.Bool.Decides.{nat_tests}
use Rattle.rings.specs.Circles.{Circles, put, rings, meets, TwoIn, Divided}
use Rattle.rings.specs.Law.{opp, turn, Closes, Along, Noded, Ringed}
use Rattle.rings.specs.Edits.{divide_next, divide_node, divide_polygon}
use Rattle.rings.proofs.Chains.{chain_label}
use Rattle.rings.proofs.Occurs.{below_one}
use Rattle.rings.proofs.Surgery.{in_one}
use Rattle.rings.proofs.Listing.{listed}
use Rattle.rings.proofs.Ringed.{ringed_circles, circles_ringed}
use Rattle.rings.proofs.Closed.{within, meets_next}
use Rattle.rings.proofs.Links.{two_in, division}
use Rattle.rings.proofs.Split.{opp_low, opp_opp, opp_new, opp_top}

-- members of one circle have one label
pub same_ring : (f lab : ℕ → ℕ) (n : ℕ) (cs : List (List ℕ)) → Circles f n cs → ((x : ℕ) → x < n → lab (f x) ≡ lab x) → (a b : ℕ) → a < n → b < n →
    ((b ≡ a → ⊥) → meets f n a b ≡ true) → lab b ≡ lab a
same_ring f lab n cs c keeps a b la lb m =
    elim (cases_eq b a) [
      | inl e ↦ ap lab e
      | inr ne ↦
          let o = in_one f n a b cs c la lb (λ e. ne (sym e)) (m ne) in
          chain_label f lab a b o.ys (keeps a la) (λ x h. keeps x (below_one x n (omega (arith, o.parts.once x)))) o.a_to_b
    ]

module _ (f : ℕ → ℕ) (n p q : ℕ) (lp : p < n) (lq : q < n) where
  pub at_p : divide_next f n p q p ≡ n
  at_p = grind (arith, nat_tests)

  pub at_n : divide_next f n p q n ≡ f q
  at_n = grind (arith, nat_tests)

  pub at_q : (q ≡ p → ⊥) → divide_next f n p q q ≡ suc n
  at_q h = grind (arith, nat_tests)

  pub at_top : (q ≡ p → ⊥) → divide_next f n p q (suc n) ≡ f p
  at_top h = grind (arith, nat_tests)

  pub at_top_alone : q ≡ p → divide_next f n p q (suc n) ≡ suc n
  at_top_alone h = grind (arith, nat_tests)

  pub at_else : (k : ℕ) → k < n → (k ≡ p → ⊥) → (k ≡ q → ⊥) → divide_next f n p q k ≡ f k
  at_else k l h i = grind (arith, nat_tests)

  pub divide_divided : Divided f (divide_next f n p q) n p q
  divide_divided = record { at_p = at_p; at_n = at_n; apart = λ h. (at_q h, at_top h); same = at_top_alone; else' = at_else }

  -- the old polygons, with those of the new sides, along the new links
  old_bounds : (pol : ℕ → ℕ) → ((x : ℕ) → x < n → f x < n) → Along f pol n → pol q ≡ pol p → (x : ℕ) → x < suc (suc n) →
      put (put pol (suc n) (pol p)) n (pol p) (divide_next f n p q x) ≡ put (put pol (suc n) (pol p)) n (pol p) x
  old_bounds pol low b e x l =
      let bp = b p lp in
      let bq = b q lq in
      let wp = low p lp in
      let wq = low q lq in
      elim (cases_lt x n) [
        | inl lx ↦ let bx = b x lx in let wx = low x lx in grind (arith, nat_tests)
        | inr gx ↦ grind (arith, nat_tests)
      ]

  closes_old : (node : ℕ → ℕ) (x y : ℕ) → x < n → y < n → f y < n → node (f y) ≡ node x → divide_node f node n p q (divide_next f n p q y) ≡ divide_node f node n p q x
  closes_old node x y lx ly lf c =
      elim (cases_eq y p) [
        | inl e ↦ let t = ap f e in grind (arith, nat_tests)
        | inr ne ↦ elim (cases_eq y q) [ inl e ↦ let t = ap f e in grind (arith, nat_tests) | inr ne' ↦ grind (arith, nat_tests) ]
      ]

  closes_n : (node : ℕ → ℕ) → f p < n → divide_node f node n p q (divide_next f n p q (suc n)) ≡ divide_node f node n p q n
  closes_n node l = elim (cases_eq q p) [ inl e ↦ let t = ap f e in grind (arith, nat_tests) | inr ne ↦ grind (arith, nat_tests) ]

  closes_top : (node : ℕ → ℕ) → f q < n → divide_node f node n p q (divide_next f n p q n) ≡ divide_node f node n p q (suc n)
  closes_top node l = grind (arith, nat_tests)

module _ (f : ℕ → ℕ) (n p q : ℕ) (even : n % 2 ≡ 0) (lp : p < n) (lq : q < n) where
  divide_turns : TwoIn (turn f) (turn (divide_next f n p q)) n (opp p) (opp q)
  divide_turns =
      record {
        at_p = ap g (opp_opp p) ∙ at_p f n p q lp lq;
        apart = λ h.
            let ne : q ≡ p → ⊥ = λ e. h (ap opp e) in (
              ap g (opp_new n even) ∙ (at_top f n p q lp lq ne ∙ ap f (sym (opp_opp p))),
              ap g (opp_opp q) ∙ at_q f n p q lp lq ne,
              ap g (opp_top n even) ∙ (at_n f n p q lp lq ∙ ap f (sym (opp_opp q))),
            );
        same = λ h.
            let e : q ≡ p = omega arith in (
              ap g (opp_new n even) ∙ at_top_alone f n p q lp lq e,
              ap g (opp_top n even) ∙ (at_n f n p q lp lq ∙ (ap f e ∙ ap f (sym (opp_opp p)))),
            );
        else' = λ k l h i. at_else f n p q lp lq (opp k) (opp_low n k even l) (λ j. h (omega arith)) (λ j. i (omega arith));
      }
    where
      g : ℕ → ℕ
      g = divide_next f n p q

  divide_closes : (node : ℕ → ℕ) → ((x : ℕ) → x < n → f x < n) → Closes f node n → Closes (divide_next f n p q) (divide_node f node n p q) (n + 2)
  divide_closes node low c x l =
      elim (cases_lt x n) [
        | inl lx ↦ let ly = opp_low n x even lx in closes_old f n p q lp lq node x (opp x) lx ly (low (opp x) ly) (c x lx)
        | inr gx ↦
            elim (cases_eq x n) [
              | inl e ↦
                  ap (λ (y : ℕ). N (g (opp y))) e ∙ (ap (λ (y : ℕ). N (g y)) (opp_new n even) ∙ (closes_n f n p q lp lq node (low p lp) ∙ ap N (sym e)))
              | inr ne ↦
                  let e : x ≡ suc n = omega arith in
                  ap (λ (y : ℕ). N (g (opp y))) e ∙ (ap (λ (y : ℕ). N (g y)) (opp_top n even) ∙ (closes_top f n p q lp lq node (low q lq) ∙ ap N (sym e)))
            ]
      ]
    where
      g : ℕ → ℕ
      g = divide_next f n p q

      N : ℕ → ℕ
      N = divide_node f node n p q

-- the law after a division; there is one ring more
pub record DivideKeeps (f node pol : ℕ → ℕ) (n nodes p q new : ℕ) : Type 0 where
  pub ringed : Ringed (divide_next f n p q) (n + 2)
  pub turned : Ringed (turn (divide_next f n p q)) (n + 2)
  pub closes : Closes (divide_next f n p q) (divide_node f node n p q) (n + 2)
  pub bounds : Along (divide_next f n p q) (divide_polygon f pol n p q new) (n + 2)
  pub noded : Noded (divide_next f n p q) (divide_node f node n p q) (n + 2) nodes
  pub count : length (rings (divide_next f n p q) (n + 2)) ≡ suc (length (rings f n))

node_low : (f node : ℕ → ℕ) (n p q x : ℕ) → x < n → divide_node f node n p q x ≡ node x
node_low f node n p q x l = grind (arith, nat_tests)

node_new : (f node : ℕ → ℕ) (n p q : ℕ) → divide_node f node n p q n ≡ node (f p)
node_new f node n p q = grind (arith, nat_tests)

pub divide_keeps : (f node pol : ℕ → ℕ) (n nodes p q new : ℕ) → n % 2 ≡ 0 → Ringed f n → Ringed (turn f) n → Closes f node n → Along f pol n → Noded f node n nodes →
    p < n → q < n → ((q ≡ p → ⊥) → meets f n p q ≡ true) → DivideKeeps f node pol n nodes p q new
divide_keeps f node pol n nodes p q new even r t c b h lp lq m =
    let fc = ringed_circles f n r in
    let tc = ringed_circles (turn f) n t in
    let low = within f n (rings f n) fc in
    let g = divide_next f n p q in
    let N = divide_node f node n p q in
    let two : suc (suc n) ≡ n + 2 = omega arith in
    let d = division f g n p q (rings f n) fc lp lq m (divide_divided f n p q lp lq) in
    let dc = subst (λ (k : ℕ). Circles g k d.circles) two d.are in
    let w = two_in (turn f) (turn g) n (opp p) (opp q) (rings (turn f) n) tc (opp_low n p even lp) (opp_low n q even lq) (divide_turns f n p q even lp lq) in
    let wc = subst (λ (k : ℕ). Circles (turn g) k w.circles) two w.are in
    let cl = divide_closes f n p q even lp lq node low c in
    let pq = same_ring f pol n (rings f n) fc b p q lp lq m in
    record {
      ringed = circles_ringed g (n + 2) d.circles dc;
      turned = circles_ringed (turn g) (n + 2) w.circles wc;
      closes = cl;
      bounds = λ x l.
          let lx : x < suc (suc n) = omega arith in
          ap (λ (k : Bool). cond k new (put (put pol (suc n) (pol p)) n (pol p) (g x))) (meets_next g (suc (suc n)) d.circles d.are (suc n) x (omega arith) lx)
          ∙ ap (cond (meets g (suc (suc n)) (suc n) x) new) (old_bounds f n p q lp lq pol low b pq x lx);
      noded = λ v.
          (listed (turn g) (n + 2) w.circles wc).label N cl v
          ∙ (w.label node N c (within (turn f) n (rings (turn f) n) tc) (λ x l. node_low f node n p q x l)
          (node_new f node n p q ∙ (ap (λ (k : ℕ). node (f k)) (sym (opp_opp p)) ∙ c (opp p) (opp_low n p even lp))) v
          ∙ h v);
      count = (listed g (n + 2) d.circles dc).count ∙ d.count;
    }
