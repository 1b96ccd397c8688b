-- The rows after a split, as functions of the side.
use Rattle.std.proofs.Common.{◌≡◌, ℕ, suc, ◌+◌, ◌<◌, eqb, List, [], ◌∷◌, ◌++◌, length, get_or, set, sym, ap, ◌∙◌, inl, inr, add-one, arith}
use mathlib.Core.Path.{fun_ext}
use Rattle.std.proofs.lemmas.Bool.{cases_eq, cases_lt, cond-false, ne_eqb}
use Rattle.std.proofs.lemmas.List.{get_or-set_same, get_or-set_other, get_or_past, length-set, length-map, length-append}
use Rattle.std.proofs.lemmas.Bool.Decides.{nat_tests}
use Rattle.std.proofs.Math.ListN.{get_or-map}
use Rattle.rings.specs.Circles.{put}
use Rattle.rings.specs.Law.{opp}
use Rattle.rings.specs.Edits.{split_next, split_node, split_polygon, fill}
use Rattle.rings.proofs.Links.{put_same, put_other}
use Rattle.topology.specs.declared.side.Side.{Side}
use Rattle.topology.specs.Rows.{no_side, next_of, node_of, polygon_of, row_of, low_of}
use Rattle.topology.specs.Splits.{leading, beginning, led, rows_led, split_sides}
use Rattle.topology.proofs.Appended.{field, field_two}

-- two rows set, and two more appended
module _ (F : Side → ℕ) (rs : List Side) (n s o : ℕ) (x y u v : Side) (long : length rs ≡ n) (ls : s < n) (lo : o < n) where
  pub sets_long : length (set (set rs s x) o y) ≡ n
  sets_long = length-set (set rs s x) o y ∙ (length-set rs s x ∙ long)

  sets_field : (k : ℕ) → field F (set (set rs s x) o y) k ≡ put (put (field F rs) s (F x)) o (F y) k
  sets_field k =
      elim (cases_eq k o) [
        | inl e ↦
            ap (field F (set (set rs s x) o y)) e
            ∙ (ap F (get_or-set_same (set rs s x) o y no_side (omega (arith, length-set rs s x, long)))
            ∙ sym (ap (put (put (field F rs) s (F x)) o (F y)) e ∙ put_same (put (field F rs) s (F x)) o (F y)))
        | inr ne ↦
            ap F (get_or-set_other (set rs s x) o k y no_side ne)
            ∙ (elim (cases_eq k s) [
              | inl e ↦
                  ap (field F (set rs s x)) e ∙ (ap F (get_or-set_same rs s x no_side (omega (arith, long))) ∙ sym (ap (put (field F rs) s (F x)) e ∙ put_same (field F rs) s (F x)))
              | inr ne' ↦ ap F (get_or-set_other rs s k x no_side ne') ∙ sym (put_other (field F rs) s (F x) k ne')
            ]
            ∙ sym (put_other (put (field F rs) s (F x)) o (F y) k ne))
      ]

  pub all_field : field F (set (set rs s x) o y ++ u ∷ v ∷ []) ≡ put (put (put (put (field F rs) s (F x)) o (F y)) n (F u)) (suc n) (F v)
  all_field =
      field_two F (set (set rs s x) o y) u v
      ∙ (ap (λ (m : ℕ). put (put (field F (set (set rs s x) o y)) m (F u)) (suc m) (F v)) sets_long
      ∙ ap (λ (h : ℕ → ℕ). put (put h n (F u)) (suc n) (F v)) (fun_ext sets_field))

node_put : (h : ℕ → ℕ) (n s o new k : ℕ) → s < n → o < n → (s ≡ o → ⊥) → put (put (put (put h s (h s)) o new) n new) (suc n) (h o) k ≡ split_node h n o new k
node_put h n s o new k ls lo ne = grind (arith, nat_tests)

label_put : (h : ℕ → ℕ) (n s o k : ℕ) → s < n → o < n → (s ≡ o → ⊥) → put (put (put (put h s (h s)) o (h o)) n (h s)) (suc n) (h o) k ≡ split_polygon h n s o k
label_put h n s o k ls lo ne = grind (arith, nat_tests)

next_put : (f : ℕ → ℕ) (n s o p k : ℕ) → s < n → o < n → p < n → (s ≡ o → ⊥) → f p ≡ o → ((x : ℕ) → f x ≡ o → x ≡ p) →
    put (put (put (put (λ x. fill (suc n) o (f x)) s n) o (fill (suc n) o (f o))) n (fill (suc n) o (f s))) (suc n) o k ≡ split_next f n s o p k
next_put f n s o p k ls lo lp ne e only =
    let only-k = only k in
    let only-s = only s in
    let only-o = only o in
    let at_p : p ≡ s → f s ≡ o = λ q. ap f (sym q) ∙ e in
    let at-k : k ≡ p → f k ≡ o = λ q. ap f q ∙ e in
    let at_o : o ≡ p → f o ≡ o = λ q. ap f q ∙ e in
    let same_s : k ≡ s → f k ≡ f s = ap f in
    let same-o : k ≡ o → f k ≡ f o = ap f in
    grind (arith, nat_tests)

module _ (us : List Side) (nodes a row p : ℕ) (here : a + a + 1 < length us) (lp : p < length us) (leads : next_of us p ≡ a + a + 1)
    (only : (x : ℕ) → x < length us → next_of us x ≡ a + a + 1 → x ≡ p) where
  abbrev n : ℕ
  n = length us

  abbrev s : ℕ
  s = a + a

  abbrev o : ℕ
  o = a + a + 1

  abbrev us' : List Side
  us' = split_sides us nodes a row

  abbrev R : Side → Side
  R = led o (n + 1)

  abbrev rs : List Side
  rs = rows_led us a

  blank : R no_side ≡ no_side
  blank = ap (λ (k : ℕ). leading k no_side) (cond-false (eqb 0 o) (n + 1) 0 (ne_eqb 0 o (omega arith)))

  pub led_at : (k : ℕ) → get_or rs k no_side ≡ R (get_or us k no_side)
  led_at k = ap (get_or rs k) (sym blank) ∙ get_or-map R us k no_side

  abbrev x : Side
  x = leading n (R (get_or us s no_side))

  abbrev y : Side
  y = beginning nodes row (R (get_or us o no_side))

  abbrev u : Side
  u = beginning nodes row (R (get_or us s no_side))

  abbrev v : Side
  v = leading o (get_or us o no_side)

  rows_are : us' ≡ set (set rs s x) o y ++ u ∷ v ∷ []
  rows_are =
      ap (λ (r : Side). set (set rs s (leading n r)) o (beginning nodes row (get_or rs o no_side)) ++ beginning nodes row r ∷ v ∷ []) (led_at s)
      ∙ ap (λ (r : Side). set (set rs s x) o (beginning nodes row r) ++ u ∷ v ∷ []) (led_at o)

  rs_long : length rs ≡ n
  rs_long = length-map us R

  pub split_long : length us' ≡ n + 2
  split_long = ap length rows_are ∙ (length-append (set (set rs s x) o y) (u ∷ v ∷ []) ∙ omega (arith, sets_long (λ r. r.row) rs n s o x y u v rs_long (omega arith) here))

  -- a field of the rows
  pub split_field : (F : Side → ℕ) → field F us' ≡ put (put (put (put (λ k. F (R (get_or us k no_side))) s (F x)) o (F y)) n (F u)) (suc n) (F v)
  split_field F =
      ap (field F) rows_are
      ∙ (all_field F rs n s o x y u v rs_long (omega arith) here
      ∙ ap (λ (h : ℕ → ℕ). put (put (put (put h s (F x)) o (F y)) n (F u)) (suc n) (F v)) (fun_ext (λ k. ap F (led_at k))))

  apart : s ≡ o → ⊥
  apart = omega arith

  other_side : o ≡ opp s
  other_side = omega arith

  pub node_is : node_of us' ≡ split_node (node_of us) n (opp s) nodes
  node_is =
      split_field (λ r. r.node)
      ∙ (fun_ext (λ k. node_put (node_of us) n s o nodes k (omega arith) here apart) ∙ ap (λ (j : ℕ). split_node (node_of us) n j nodes) other_side)

  pub polygon_is : polygon_of us' ≡ split_polygon (polygon_of us) n s (opp s)
  polygon_is =
      split_field (λ r. r.polygon)
      ∙ (fun_ext (λ k. label_put (polygon_of us) n s o k (omega arith) here apart) ∙ ap (split_polygon (polygon_of us) n s) other_side)

  pub low_is : low_of us' ≡ split_polygon (low_of us) n s (opp s)
  low_is =
      split_field (λ r. r.low) ∙ (fun_ext (λ k. label_put (low_of us) n s o k (omega arith) here apart) ∙ ap (split_polygon (low_of us) n s) other_side)

  only_everywhere : (k : ℕ) → next_of us k ≡ o → k ≡ p
  only_everywhere k e =
      elim (cases_lt k n) [
        | inl l ↦ only k l e
        | inr g ↦ absurd (omega (arith, e, ap (λ (r : Side). r.next) (get_or_past us k no_side g)))
      ]

  pub next_is : next_of us' ≡ split_next (next_of us) n s (opp s) p
  next_is =
      split_field (λ r. r.next)
      ∙ (ap (λ (top : ℕ). put (put (put (put (λ k. fill top o (next_of us k)) s n) o (fill top o (next_of us o))) n (fill top o (next_of us s))) (suc n) o) (add-one n)
      ∙ (fun_ext (λ k. next_put (next_of us) n s o p k (omega arith) here lp apart leads only_everywhere) ∙ ap (λ (j : ℕ). split_next (next_of us) n s j p) other_side))

  pub row_is : row_of us' ≡ put (put (put (put (row_of us) s (row_of us s)) o row) n row) (suc n) (row_of us o)
  row_is = split_field (λ r. r.row)
