-- The sides of an arc taken out of a table.
use Rattle.std.proofs.Common.{◌≡◌, ℕ, suc, ◌+◌, ◌-◌, ◌≤◌, List, length, get_or, take, drop, set, sym, ap, ◌∙◌, arith}
use Rattle.std.proofs.lemmas.List.{drop-drop, length-take-le}
use Rattle.topology.specs.declared.side.Side.{Side}
use Rattle.topology.specs.declared.table.Table.{Table}
use Rattle.topology.specs.Rows.{no_side}
use Rattle.topology.specs.Tables.{Holds}
use Rattle.topology.specs.Renumbered.{renumbered}
use Rattle.topology.specs.Lifts.{lift_numbers, lifted_sides}
use Rattle.topology.specs.Dissolves.{PutBack}
use Rattle.topology.proofs.FreedRows.{back_rows, back_long, back_rest}
use Rattle.topology.proofs.Growth.{held_used}
use Rattle.topology.proofs.Shrinking.{removed_used}

pub taken_used : (t s : Table Side) (nodes polygons a : ℕ) → Holds t s (lifted_sides (take t.used t.rows.now) nodes polygons a) → s.used ≡ t.used - 2
taken_used t s nodes polygons a h = removed_used (renumbered (lift_numbers (take t.used t.rows.now) nodes polygons a)) t s a h

-- an arc of changed rows was taken out, and the two free rows were put back as they were
module _ (r t s w : Table Side) (us₁ : List Side) (nodes polygons a z : ℕ) (used : r.used ≡ suc (suc (z + z))) (long₁ : length us₁ ≡ suc (suc (z + z))) (changed : Holds r t us₁)
    (shrunk : Holds t s (lifted_sides (take t.used t.rows.now) nodes polygons a)) (back : PutBack s w (get_or r.rows.now (r.used - 2) no_side) (get_or r.rows.now (r.used - 1) no_side)) where
  abbrev full : List Side
  full = r.rows.now

  pub used_same : t.used ≡ r.used
  used_same = held_used r t us₁ changed ∙ (long₁ ∙ sym used)

  used_less : s.used ≡ r.used - 2
  used_less = taken_used t s nodes polygons a shrunk ∙ ap (λ (k : ℕ). k - 2) used_same

  two_fewer : s.used + 2 ≡ r.used
  two_fewer = omega (arith, used_less, used)

  one_fewer : r.used - 1 ≡ s.used + 1
  one_fewer = omega (arith, used_less, used)

  rows_back : w.rows.now ≡ set (set s.rows.now s.used (get_or full s.used no_side)) (s.used + 1) (get_or full (s.used + 1) no_side)
  rows_back =
      back.rows
      ∙ (ap (λ (k : ℕ). set (set s.rows.now s.used (get_or full k no_side)) (s.used + 1) (get_or full (r.used - 1) no_side)) (sym used_less)
      ∙ ap (λ (k : ℕ). set (set s.rows.now s.used (get_or full s.used no_side)) (s.used + 1) (get_or full k no_side)) one_fewer)

  long_less : length s.rows.now ≡ length full
  long_less = shrunk.long ∙ changed.long

  fits_less : s.used + 2 ≤ length full
  fits_less = omega (arith, two_fewer, r.fits)

  beyond : drop (s.used + 2) s.rows.now ≡ drop (s.used + 2) full
  beyond =
      let e : s.used + 2 ≡ t.used = omega (arith, two_fewer, used_same) in
      sym (drop-drop 2 s.used s.rows.now)
      ∙ (ap (drop 2) shrunk.rest ∙ (drop-drop 2 s.used t.rows.now ∙ (ap (λ (k : ℕ). drop k t.rows.now) e ∙ (changed.rest ∙ ap (λ (k : ℕ). drop k full) (sym e)))))

  pub sides_are : take w.used w.rows.now ≡ lifted_sides us₁ nodes polygons a
  sides_are =
      ap (λ (k : ℕ). take k w.rows.now) back.used
      ∙ (ap (take s.used) rows_back
      ∙ (back_rows s.rows.now full s.used fits_less long_less beyond ∙ (shrunk.rows ∙ ap (λ (xs : List Side). lifted_sides xs nodes polygons a) changed.rows)))

  pub used_are : w.used ≡ z + z
  used_are = omega (arith, back.used, two_fewer, used)

  pub length_are : length (take w.used w.rows.now) ≡ z + z
  length_are = length-take-le w.used w.rows.now w.fits ∙ used_are

  pub rows_long : length w.rows.now ≡ length full
  rows_long = ap length rows_back ∙ back_long s.rows.now full s.used fits_less long_less beyond

  pub rest_are : drop w.used w.rows.now ≡ drop w.used full
  rest_are =
      ap (λ (k : ℕ). drop k w.rows.now) back.used
      ∙ (ap (drop s.used) rows_back ∙ (back_rest s.rows.now full s.used fits_less long_less beyond ∙ ap (λ (k : ℕ). drop k full) (sym back.used)))

  pub lent_are : w.rows.ghost_name ≡ r.rows.ghost_name
  lent_are = back.lent ∙ (shrunk.lent ∙ changed.lent)
