-- Rows that go from a table: the last two take their place.
use Rattle.std.proofs.Common.{◌≡◌, ℕ, ◌+◌, ◌-◌, ◌%◌, ◌<◌, ◌≤◌, List, ◌++◌, map, length, get_or, take, drop, set, sym, ap, ◌∙◌, inl, inr, arith}
use Rattle.std.specs.List.{copy_within}
use Rattle.std.proofs.Math.Seq.{paste}
use Rattle.std.proofs.lemmas.List.Edits.{paste_more, paste_none}
use Rattle.std.proofs.lemmas.Bool.{cases_eq, cases_lt}
use Rattle.std.proofs.lemmas.List.{length-take-le, length-set, length-map, same_lists, get_or-set_same, get_or-set_other, get_or-take, drop-set-lt, set-get_or, length-drop, get_or-drop}
use Rattle.topology.specs.declared.side.Side.{Side}
use Rattle.topology.specs.Rows.{no_side}
use Rattle.topology.specs.Lifts.{rows_without}
use Rattle.topology.specs.declared.table.Table.{Table}
use Rattle.topology.specs.Tables.{Holds}
use Rattle.topology.proofs.Growth.{front_new, front_rest, front_long, held_used}

-- how many rows are left
rows_left : (us : List Side) (a : ℕ) → length (rows_without us a) ≡ length us - 2
rows_left us a =
    let x = get_or us (length us - 2) no_side in
    let y = get_or us (length us - 1) no_side in
    length-take-le (length us - 2) (set (set us (a + a) x) (a + a + 1) y) (omega (arith, length-set (set us (a + a) x) (a + a + 1) y, length-set us (a + a) x))

pub removed_used : (F : Side → Side) (t s : Table Side) (a : ℕ) → Holds t s (map F (rows_without (take t.used t.rows.now) a)) → s.used ≡ t.used - 2
removed_used F t s a h =
    let us = take t.used t.rows.now in
    held_used t s (map F (rows_without us a)) h ∙ (length-map (rows_without us a) F ∙ (rows_left us a ∙ ap (λ (k : ℕ). k - 2) (length-take-le t.used t.rows.now t.fits)))

-- two rows set, in lists that agree at k
two_set : (b d : List Side) (s k : ℕ) (u v e : Side) → s + 1 < length b → s + 1 < length d → get_or b k e ≡ get_or d k e →
    get_or (set (set b s u) (s + 1) v) k e ≡ get_or (set (set d s u) (s + 1) v) k e
two_set b d s k u v e lb ld h =
    elim (cases_eq k (s + 1)) [
      | inl i ↦
          ap (λ (j : ℕ). get_or (set (set b s u) (s + 1) v) j e) i
          ∙ (get_or-set_same (set b s u) (s + 1) v e (omega (arith, length-set b s u))
          ∙ (sym (get_or-set_same (set d s u) (s + 1) v e (omega (arith, length-set d s u))) ∙ ap (λ (j : ℕ). get_or (set (set d s u) (s + 1) v) j e) (sym i)))
      | inr n1 ↦
          get_or-set_other (set b s u) (s + 1) k v e n1
          ∙ (elim (cases_eq k s) [
            | inl i ↦
                ap (λ (j : ℕ). get_or (set b s u) j e) i
                ∙ (get_or-set_same b s u e (omega arith) ∙ (sym (get_or-set_same d s u e (omega arith)) ∙ ap (λ (j : ℕ). get_or (set d s u) j e) (sym i)))
            | inr n0 ↦ get_or-set_other b s k u e n0 ∙ (h ∙ sym (get_or-set_other d s k u e n0))
          ]
          ∙ sym (get_or-set_other (set d s u) (s + 1) k v e n1))
    ]

module _ (full : List Side) (n a : ℕ) (here : a + a + 1 < n) (even : n % 2 ≡ 0) (fit : n ≤ length full) where
  abbrev x : Side
  x = get_or full (n - 2) no_side

  abbrev y : Side
  y = get_or full (n - 1) no_side

  abbrev xs : List Side
  xs = set (set full (a + a) x) (a + a + 1) y

  xs_long : length xs ≡ length full
  xs_long = length-set (set full (a + a) x) (a + a + 1) y ∙ length-set full (a + a) x

  take_sets : (u v : Side) → take (n - 2) (set (set full (a + a) u) (a + a + 1) v) ≡ take (n - 2) (set (set (take n full) (a + a) u) (a + a + 1) v)
  take_sets u v =
      let A = set (set full (a + a) u) (a + a + 1) v in
      let B = set (set (take n full) (a + a) u) (a + a + 1) v in
      let l = length-take-le n full fit in
      let la : length A ≡ length full = length-set (set full (a + a) u) (a + a + 1) v ∙ length-set full (a + a) u in
      let lb : length B ≡ n = length-set (set (take n full) (a + a) u) (a + a + 1) v ∙ (length-set (take n full) (a + a) u ∙ l) in
      same_lists _ _ (length-take-le (n - 2) A (omega arith) ∙ sym (length-take-le (n - 2) B (omega arith)))
      (λ k d p.
      let q : k < n - 2 = omega (arith, p, length-take-le (n - 2) A (omega arith)) in
      get_or-take (n - 2) A k d q
      ∙ (two_set full (take n full) (a + a) k u v d (omega arith) (omega arith) (sym (get_or-take n full k d (omega arith))) ∙ sym (get_or-take (n - 2) B k d q)))

  same_rows : take (n - 2) xs ≡ rows_without (take n full) a
  same_rows =
      take_sets x y
      ∙ (ap (λ (r : Side). take (n - 2) (set (set (take n full) (a + a) r) (a + a + 1) y)) (sym (get_or-take n full (n - 2) no_side (omega arith)))
      ∙ (ap (λ (r : Side). take (n - 2) (set (set (take n full) (a + a) (get_or (take n full) (n - 2) no_side)) (a + a + 1) r)) (sym (get_or-take n full (n - 1) no_side (omega arith)))
      ∙ ap (λ (j : ℕ). take (j - 2) (set (set (take n full) (a + a) (get_or (take n full) (j - 2) no_side)) (a + a + 1) (get_or (take n full) (j - 1) no_side))) (sym (length-take-le n full fit))))

  same_rest : drop (n - 2) xs ≡ drop (n - 2) full
  same_rest =
      elim (cases_lt (a + a + 1) (n - 2)) [
        | inl l ↦ drop-set-lt (n - 2) (set full (a + a) x) (a + a + 1) y l ∙ drop-set-lt (n - 2) full (a + a) x (omega arith)
        | inr g ↦
            let i : a + a ≡ n - 2 = omega arith in
            let j : a + a + 1 ≡ n - 1 = omega arith in
            let s : set full (a + a) x ≡ full = ap (λ (k : ℕ). set full k x) i ∙ set-get_or full (n - 2) no_side in
            ap (drop (n - 2)) (ap (λ (ys : List Side). set ys (a + a + 1) y) s ∙ (ap (λ (k : ℕ). set full k y) j ∙ set-get_or full (n - 1) no_side))
      ]

  -- the last two rows copied over those of the arc
  copied : copy_within full (n - 2) (n - 2 + 2) (a + a) ≡ xs
  copied =
      let s = drop (n - 2) full in
      let l : length s ≡ length full - (n - 2) = length-drop (n - 2) full in
      let two : n - 2 + 2 - (n - 2) ≡ 2 = omega arith in
      let first : get_or s 0 no_side ≡ x = get_or-drop (n - 2) full 0 no_side ∙ ap (λ (k : ℕ). get_or full k no_side) (let e : n - 2 + 0 ≡ n - 2 = omega arith in e) in
      let second : get_or s 1 no_side ≡ y = get_or-drop (n - 2) full 1 no_side ∙ ap (λ (k : ℕ). get_or full k no_side) (let e : n - 2 + 1 ≡ n - 1 = omega arith in e) in
      let one : paste full (a + a) s 1 ≡ set full (a + a) x =
      sym (paste_more full (a + a) s 0 no_side (omega arith) (omega arith))
      ∙ (ap (λ (ys : List Side). set ys (a + a + 0) (get_or s 0 no_side)) (sym (paste_none full (a + a) s))
      ∙ (ap (λ (k : ℕ). set full k (get_or s 0 no_side)) (let e : a + a + 0 ≡ a + a = omega arith in e) ∙ ap (set full (a + a)) first)) in
      ap (paste full (a + a) s) two
      ∙ (sym (paste_more full (a + a) s 1 no_side (omega arith) (omega arith))
      ∙ (ap (λ (ys : List Side). set ys (a + a + 1) (get_or s 1 no_side)) one ∙ ap (set (set full (a + a) x) (a + a + 1)) second))

  module _ (F : Side → Side) (moved after : List Side) (m : moved ≡ copy_within full (n - 2) (n - 2 + 2) (a + a)) (e : after ≡ map F (take (n - 2) moved)) where
    moved_are : moved ≡ xs
    moved_are = m ∙ copied

    moved_long : length moved ≡ length full
    moved_long = ap length moved_are ∙ xs_long

    after_long : length after ≡ n - 2
    after_long = ap length e ∙ (length-map (take (n - 2) moved) F ∙ length-take-le (n - 2) moved (omega (arith, moved_long)))

    pub without_rows : take (n - 2) (after ++ drop (n - 2) moved) ≡ map F (rows_without (take n full) a)
    without_rows =
        front_new after moved (n - 2) after_long (omega (arith, moved_long))
        ∙ (e ∙ ap (map F) (ap (take (n - 2)) moved_are ∙ same_rows))

    pub without_rest : drop (n - 2) (after ++ drop (n - 2) moved) ≡ drop (n - 2) full
    without_rest = front_rest after moved (n - 2) after_long (omega (arith, moved_long)) ∙ (ap (drop (n - 2)) moved_are ∙ same_rest)

    pub without_long : length (after ++ drop (n - 2) moved) ≡ length full
    without_long = front_long after moved (n - 2) after_long (omega (arith, moved_long)) ∙ moved_long
