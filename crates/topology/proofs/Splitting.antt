-- The rows of sides as the code of a split sets them.
use Rattle.std.proofs.Common.{◌≡◌, ℕ, ◌+◌, ◌<◌, ◌≤◌, eqb, List, [], ◌∷◌, ◌++◌, length, get_or, take, drop, set, sym, ap, ◌∙◌, inl, inr, arith}
use lib.Seq.{take-set-lt}
use Rattle.std.proofs.lemmas.Bool.{cases_eq, cond-true, cond-false, eq-eqb, ne_eqb}
use Rattle.std.proofs.lemmas.List.{get_or-set_same, get_or-set_other, length-set, length-map, drop-set-lt, length-take-le, get_or-take, ext_get_or}
use Rattle.rings.specs.Circles.{rings}
use Rattle.rings.proofs.Ringed.{ringed_circles}
use Rattle.rings.proofs.Closed.{one_image}
use Rattle.topology.specs.declared.side.Side.{Side}
use Rattle.topology.specs.Rows.{no_side, next_of}
use Rattle.topology.specs.MapLaw.{InRings}
use Rattle.topology.specs.Splits.{leading, beginning, led, rows_led, split_sides}
use Rattle.topology.proofs.SplitRows.{led_at}

module _ (full : List Side) (n a node row p : ℕ) (fit : n ≤ length full) (here : a + a + 1 < n) (ringed : InRings (take n full) n) (lp : p < n)
    (leads : next_of (take n full) p ≡ a + a + 1) where
  abbrev us : List Side
  us = take n full

  abbrev s : ℕ
  s = a + a

  abbrev o : ℕ
  o = a + a + 1

  us_long : length us ≡ n
  us_long = length-take-le n full fit

  only : (x : ℕ) → x < length us → next_of us x ≡ o → x ≡ p
  only x l i = one_image (next_of us) n (rings (next_of us) n) (ringed_circles (next_of us) n ringed) x p (omega (arith, us_long)) lp (i ∙ sym leads)

  abbrev R : ℕ → Side
  R k = led o (length us + 1) (get_or us k no_side)

  led_row : (k : ℕ) → get_or (rows_led us a) k no_side ≡ R k
  led_row k = led_at us node a row p (omega (arith, us_long)) (omega (arith, us_long)) leads only k

  -- what leads to o leads to the new turned side
  abbrev one : List Side
  one = set full p (leading (n + 1) (get_or full p no_side))

  at_p : leading (n + 1) (get_or full p no_side) ≡ R p
  at_p =
      ap (leading (n + 1)) (sym (get_or-take n full p no_side lp))
      ∙ (ap (λ (m : ℕ). leading (m + 1) (get_or us p no_side)) (sym us_long)
      ∙ ap (λ (m : ℕ). leading m (get_or us p no_side)) (sym (cond-true (eqb (next_of us p) o) (length us + 1) (next_of us p) (eq-eqb (next_of us p) o leads))))

  at_other : (k : ℕ) → k < length us → (k ≡ p → ⊥) → R k ≡ get_or us k no_side
  at_other k l ne = ap (λ (m : ℕ). leading m (get_or us k no_side)) (cond-false (eqb (next_of us k) o) (length us + 1) (next_of us k) (ne_eqb (next_of us k) o (λ i. ne (only k l i))))

  one_is : take n one ≡ rows_led us a
  one_is =
      take-set-lt n full p (leading (n + 1) (get_or full p no_side)) lp
      ∙ (ap (set us p) at_p
      ∙ ext_get_or no_side (set us p (R p)) (rows_led us a) (length-set us p (R p) ∙ sym (length-map us (led o (length us + 1))))
      (λ k l.
      elim (cases_eq k p) [
        | inl q ↦
            ap (λ (j : ℕ). get_or (set us p (R p)) j no_side) q
            ∙ (get_or-set_same us p (R p) no_side (omega (arith, us_long)) ∙ sym (ap (λ (j : ℕ). get_or (rows_led us a) j no_side) q ∙ led_row p))
        | inr ne ↦ get_or-set_other us p k (R p) no_side ne ∙ (sym (at_other k (omega (arith, l, length-set us p (R p))) ne) ∙ sym (led_row k))
      ]))

  abbrev first : Side
  first = beginning node row (get_or one s no_side)

  abbrev last : Side
  last = leading o (get_or full o no_side)

  abbrev two : List Side
  two = set one s (leading n (get_or one s no_side))

  abbrev three : List Side
  three = set two o (beginning node row (get_or two o no_side))

  at_one : (k : ℕ) → k < n → get_or one k no_side ≡ get_or (rows_led us a) k no_side
  at_one k l = sym (get_or-take n one k no_side l) ∙ ap (λ (xs : List Side). get_or xs k no_side) one_is

  at_two : get_or two o no_side ≡ get_or (rows_led us a) o no_side
  at_two = get_or-set_other one s o (leading n (get_or one s no_side)) no_side (omega arith) ∙ at_one o here

  three_is : take n three ≡ set (set (rows_led us a) s (leading (length us) (get_or (rows_led us a) s no_side))) o (beginning node row (get_or (rows_led us a) o no_side))
  three_is =
      take-set-lt n two o (beginning node row (get_or two o no_side)) here
      ∙ (ap (λ (xs : List Side). set xs o (beginning node row (get_or two o no_side))) (take-set-lt n one s (leading n (get_or one s no_side)) (omega arith))
      ∙ (ap (λ (xs : List Side). set (set xs s (leading n (get_or one s no_side))) o (beginning node row (get_or two o no_side))) one_is
      ∙ (ap (λ (r : Side). set (set (rows_led us a) s (leading n r)) o (beginning node row (get_or two o no_side))) (at_one s (omega arith))
      ∙ (ap (λ (m : ℕ). set (set (rows_led us a) s (leading m (get_or (rows_led us a) s no_side))) o (beginning node row (get_or two o no_side))) (sym us_long)
      ∙ ap (λ (r : Side). set (set (rows_led us a) s (leading (length us) (get_or (rows_led us a) s no_side))) o (beginning node row r)) at_two))))

  -- the rows in use, once the two new ones are pushed
  pub rows_pushed : take n three ++ first ∷ last ∷ [] ≡ split_sides us node a row
  rows_pushed =
      ap (λ (xs : List Side). xs ++ first ∷ last ∷ []) three_is
      ∙ (ap (λ (r : Side). set (set (rows_led us a) s (leading (length us) (get_or (rows_led us a) s no_side))) o (beginning node row (get_or (rows_led us a) o no_side)) ++ beginning node row r ∷ last ∷ []) (at_one s (omega arith))
      ∙ ap (λ (r : Side). set (set (rows_led us a) s (leading (length us) (get_or (rows_led us a) s no_side))) o (beginning node row (get_or (rows_led us a) o no_side)) ++ beginning node row (get_or (rows_led us a) s no_side) ∷ leading o r ∷ []) (sym (get_or-take n full o no_side here)))

  pub rest_kept : (m : ℕ) → n ≤ m → drop m three ≡ drop m full
  rest_kept m l =
      drop-set-lt m two o (beginning node row (get_or two o no_side)) (omega arith)
      ∙ (drop-set-lt m one s (leading n (get_or one s no_side)) (omega arith) ∙ drop-set-lt m full p (leading (n + 1) (get_or full p no_side)) (omega arith))

  pub three_long : length three ≡ length full
  three_long = length-set two o (beginning node row (get_or two o no_side)) ∙ (length-set one s (leading n (get_or one s no_side)) ∙ length-set full p (leading (n + 1) (get_or full p no_side)))
