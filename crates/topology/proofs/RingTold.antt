-- The sides of a ring told their polygon and lowest side, field by field.
use Rattle.std.proofs.Common.{◌≡◌, ℕ, ◌<◌, ◌≤◌, Bool, true, false, cond, eqb, List, [], ◌∷◌, map, length, get_or, sym, refl, ap, ◌∙◌, inl, inr, arith, min}
use mathlib.Core.Path.{fun_ext}
use Rattle.std.specs.List.{range_with_len}
use Rattle.std.proofs.lemmas.Bool.{cases_eq, cases_lt, cond_both}
use Rattle.std.proofs.lemmas.List.{get_or_past}
use Rattle.std.proofs.lemmas.List.FromFn.{length-map-range_with_len, get_or-map-range_with_len}
use Rattle.rings.specs.Circles.{one_if, occ, meets}
use Rattle.rings.proofs.Occurs.{one_same, one_other}
use Rattle.topology.specs.declared.side.Side.{Side}
use Rattle.topology.specs.Rows.{no_side, next_of, polygon_of, low_of}
use Rattle.topology.specs.Divisions.{lowest_of, ring_low, told_side, told_at, ring_told}
use Rattle.topology.proofs.Appended.{field}

either_way : (F : Side → ℕ) (b : Bool) (r s : Side) → F (cond b r s) ≡ cond b (F r) (F s)
either_way F true r s = refl
either_way F false r s = refl

module _ (us : List Side) (s polygon low : ℕ) where
  abbrev rows : List Side
  rows = map (told_at us s polygon low) (range_with_len 0 (length us))

  pub rows_long : length rows ≡ length us
  rows_long = length-map-range_with_len (told_at us s polygon low) 0 (length us)

  pub row_told : (k : ℕ) → k < length us → get_or rows k no_side ≡ told_at us s polygon low k
  row_told k l = get_or-map-range_with_len (told_at us s polygon low) 0 (length us) k k no_side l (omega arith)

  pub polygon_told : (k : ℕ) → k < length us → polygon_of rows k ≡ cond (meets (next_of us) (length us) s k) polygon (polygon_of us k)
  polygon_told k l =
      ap (λ (r : Side). r.polygon) (row_told k l)
      ∙ either_way (λ r. r.polygon) (meets (next_of us) (length us) s k) (told_side polygon low (get_or us k no_side)) (get_or us k no_side)

  pub low_told : (k : ℕ) → k < length us → low_of rows k ≡ cond (meets (next_of us) (length us) s k) low (low_of us k)
  low_told k l =
      ap (λ (r : Side). r.low) (row_told k l)
      ∙ either_way (λ r. r.low) (meets (next_of us) (length us) s k) (told_side polygon low (get_or us k no_side)) (get_or us k no_side)

  -- all else stays
  pub else_told : (F : Side → ℕ) → ((r : Side) → F (told_side polygon low r) ≡ F r) → field F rows ≡ field F us
  else_told F same =
      fun_ext
      (λ k.
      elim (cases_lt k (length us)) [
        | inl l ↦
            let r = get_or us k no_side in
            let b = meets (next_of us) (length us) s k in
            ap F (row_told k l)
            ∙ (either_way F b (told_side polygon low r) r ∙ (ap (λ (v : ℕ). cond b v (F r)) (same r) ∙ cond_both b _ _ (λ (v : ℕ). v ≡ F r) (λ _. refl) (λ _. refl)))
        | inr g ↦ ap F (get_or_past rows k no_side (omega (arith, rows_long)) ∙ sym (get_or_past us k no_side g))
      ])

-- the same with the lowest side of the ring
module _ (us : List Side) (s polygon : ℕ) where
  pub told_long : length (ring_told us s polygon) ≡ length us
  told_long = rows_long us s polygon (ring_low us s)

  pub told_polygon : (k : ℕ) → k < length us → polygon_of (ring_told us s polygon) k ≡ cond (meets (next_of us) (length us) s k) polygon (polygon_of us k)
  told_polygon = polygon_told us s polygon (ring_low us s)

  pub told_low : (k : ℕ) → k < length us → low_of (ring_told us s polygon) k ≡ cond (meets (next_of us) (length us) s k) (ring_low us s) (low_of us k)
  told_low = low_told us s polygon (ring_low us s)

  pub told_else : (F : Side → ℕ) → ((r : Side) → F (told_side polygon (ring_low us s) r) ≡ F r) → field F (ring_told us s polygon) ≡ field F us
  told_else = else_told us s polygon (ring_low us s)

-- the lowest of a number and those of a list is at most each, and one of them
pub lowest_first : (x : ℕ) (ys : List ℕ) → lowest_of x ys ≤ x
lowest_first x [] = omega arith
lowest_first x (y ∷ ys) =
    let h = lowest_first (min x y) ys in omega arith

pub lowest_other : (x k : ℕ) (ys : List ℕ) → 0 < occ k ys → lowest_of x ys ≤ k
lowest_other x k [] h = absurd (omega arith)
lowest_other x k (y ∷ ys) h =
    elim (cases_eq k y) [
      | inl e ↦
          let f = lowest_first (min x y) ys in omega arith
      | inr ne ↦ lowest_other (min x y) k ys (omega (arith, one_other k y ne))
    ]

pub lowest_there : (x : ℕ) (ys : List ℕ) → 0 < occ (lowest_of x ys) (x ∷ ys)
lowest_there x [] = omega (arith, one_same x)
lowest_there x (y ∷ ys) =
    let h = lowest_there (min x y) ys in
    let v = lowest_of (min x y) ys in
    elim (cases_lt y x) [
      | inl l ↦ let i = ap (λ (j : ℕ). one_if (eqb v j)) (let e : min x y ≡ y = omega arith in e) in omega arith
      | inr g ↦ let i = ap (λ (j : ℕ). one_if (eqb v j)) (let e : min x y ≡ x = omega arith in e) in omega arith
    ]
