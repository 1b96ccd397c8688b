-- Rows of a table added once more.
use Rattle.std.proofs.Common.{◌≡◌, ℕ, ◌+◌, ◌-◌, ◌≤◌, Bool, true, false, List, ◌++◌, length, take, drop, sym, refl, ap, ◌∙◌, arith}
use Rattle.std.specs.Prelude.{slice_range}
use Rattle.std.specs.List.{copy_within}
use borrow.Rule.Slice.PartMut.{put_mid, mid_of, same_len_mid}
use Rattle.std.proofs.lemmas.List.Edits.{take-paste, drop-paste, length-paste}
use Rattle.std.proofs.lemmas.Slice.{take-put_mid, drop-put_mid}
use Rattle.std.proofs.lemmas.List.{length-take-le, length-drop, length-reverse, drop-take, take-take, take_at, drop_at, drop-drop, append_assoc}
use Rattle.topology.specs.Joins.{turned_if}
use Rattle.topology.specs.Tables.{Grown}
use Rattle.topology.specs.declared.table.Table.{Table}
use Rattle.topology.proofs.Growth.{grown_used, range_before, run_before}

pub turned_long : {X : Type 0} (b : Bool) (xs : List X) → length (turned_if b xs) ≡ length xs
turned_long true xs = length-reverse xs
turned_long false xs = refl

module _ {X : Type 0} (full moved rows after : List X) (n i j : ℕ) (b : Bool) (ordered : i ≤ j) (in_use : j ≤ n) (room : n + (j - i) ≤ length full)
    (copied : moved ≡ copy_within full i j n) (turned : after ≡ turned_if b (mid_of n (n + (j - i) - n) moved)) (are : rows ≡ put_mid n (n + (j - i) - n) moved after) where
  abbrev k : ℕ
  k = j - i

  enough : k ≤ length (drop i full)
  enough = omega (arith, length-drop i full)

  moved_long : length moved ≡ length full
  moved_long = ap length copied ∙ length-paste full n (drop i full) k room enough

  moved_front : take (n + k) moved ≡ take n full ++ take k (drop i full)
  moved_front = ap (take (n + k)) copied ∙ take-paste full n (drop i full) k (omega arith) enough

  as_many : n + (j - i) - n ≡ k
  as_many = omega arith

  front_long : length (take n full) ≡ n
  front_long = length-take-le n full (omega arith)

  again : mid_of n (n + (j - i) - n) moved ≡ slice_range (take n full) i j
  again =
      ap (λ (m : ℕ). mid_of n m moved) as_many
      ∙ (sym (drop-take n k moved)
      ∙ (ap (drop n) moved_front ∙ (drop_at (take n full) (take k (drop i full)) n front_long ∙ sym (range_before full n i k (omega arith)))))

  after_is : after ≡ turned_if b (slice_range (take n full) i j)
  after_is = turned ∙ ap (turned_if b) again

  range_long : length (slice_range (take n full) i j) ≡ k
  range_long = ap length (range_before full n i k (omega arith)) ∙ length-take-le k (drop i full) enough

  after_long : length after ≡ k
  after_long = ap length after_is ∙ (turned_long b (slice_range (take n full) i j) ∙ range_long)

  pub again_rows : take (n + k) rows ≡ take n full ++ turned_if b (slice_range (take n full) i j)
  again_rows =
      ap (take (n + k)) are
      ∙ (take-put_mid n (n + (j - i) - n) moved after (n + k) (omega (arith, after_long)) (omega (arith, moved_long))
      ∙ (ap (λ (xs : List X). xs ++ after) (sym (take-take n (n + k) moved (omega arith)) ∙ (ap (take n) moved_front ∙ take_at (take n full) (take k (drop i full)) n front_long))
      ∙ ap (λ (xs : List X). take n full ++ xs) after_is))

  pub again_rest : drop (n + k) rows ≡ drop (n + k) full
  again_rest =
      ap (drop (n + k)) are
      ∙ (drop-put_mid n (n + (j - i) - n) moved after (n + k) (omega arith) (omega (arith, moved_long)) (omega (arith, after_long))
      ∙ (ap (drop (n + k)) copied ∙ drop-paste full n (drop i full) k (omega arith) enough))

  pub again_long : length rows ≡ length full
  again_long = ap length are ∙ (same_len_mid n (n + (j - i) - n) moved after (after_long ∙ sym (ap length again ∙ range_long)) ∙ moved_long)

-- ---- an arc's vertices, and beside them those of another

module _ {T : Type 0} (t u : Table T) (i j : ℕ) (b : Bool) (g : Grown t u (turned_if b (slice_range (take t.used t.rows.now) i j))) where
  abbrev xs : List T
  xs = take t.used t.rows.now

  xs_long : length xs ≡ t.used
  xs_long = length-take-le t.used t.rows.now t.fits

  pub once_used : i ≤ j → j ≤ t.used → u.used ≡ t.used + (j - i)
  once_used ordered in_use =
      grown_used t u (turned_if b (slice_range xs i j)) g
      ∙ ap (λ (k : ℕ). t.used + k) (turned_long b (slice_range xs i j) ∙ length-take-le (j - i) (drop i xs) (omega (arith, length-drop i xs, xs_long)))

  module _ (w : Table T) (i' j' : ℕ) (b' : Bool) (h : Grown u w (turned_if b' (slice_range (take u.used u.rows.now) i' j'))) (ordered : i' ≤ j') (in_use : j' ≤ t.used) where
    -- the rows that were in use are there still
    same_range : slice_range (take u.used u.rows.now) i' j' ≡ slice_range xs i' j'
    same_range = ap (λ (ys : List T). slice_range ys i' j') g.rows ∙ run_before xs (turned_if b (slice_range xs i j)) i' (j' - i') (omega (arith, xs_long))

    pub both_grown : Grown t w (turned_if b (slice_range xs i j) ++ turned_if b' (slice_range xs i' j'))
    both_grown =
        let one = grown_used u w (turned_if b' (slice_range (take u.used u.rows.now) i' j')) h in
        let l = length (turned_if b' (slice_range (take u.used u.rows.now) i' j')) in
        record {
          rows =
              h.rows
              ∙ (ap (λ (ys : List T). ys ++ turned_if b' (slice_range (take u.used u.rows.now) i' j')) g.rows
              ∙ (append_assoc xs (turned_if b (slice_range xs i j)) (turned_if b' (slice_range (take u.used u.rows.now) i' j'))
              ∙ ap (λ (ys : List T). xs ++ (turned_if b (slice_range xs i j) ++ turned_if b' ys)) same_range));
          rest =
              h.rest
              ∙ (ap (λ (k : ℕ). drop k u.rows.now) one
              ∙ (sym (drop-drop l u.used u.rows.now) ∙ (ap (drop l) g.rest ∙ (drop-drop l u.used t.rows.now ∙ ap (λ (k : ℕ). drop k t.rows.now) (sym one)))));
          long = h.long ∙ g.long;
          lent = h.lent ∙ g.lent;
        }
