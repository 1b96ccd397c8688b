-- What stands before and after the first comma of a word.
use Rattle.std.proofs.Common.{◌≡◌, ℕ, ◌+◌, false, eqb, ltb, List, [], ◌∷◌, ◌++◌, length, get_or, take, drop, Some, None, sym, refl, ap, ◌∙◌, arith}
use Rattle.std.specs.List.{position_or_len, before_first, after_first}
use Rattle.std.specs.Str.Iter.{LacksByte}
use Rattle.std.proofs.lemmas.Bool.{cond-true, cond-false, ne_eqb, lt-ltb, le-ltb}
use Rattle.std.proofs.lemmas.List.{length-append, append_assoc, get_or_append_left, get_or_at, take_at, drop_at, length_push}
use Rattle.std.proofs.lemmas.List.Sums.{position_or_len_is}
use Rattle.call_lines.specs.Spoken.{coordinates, two_decimals, is_vertex}

pub coordinates_none : (bs : List ℕ) → LacksByte 44 bs → coordinates bs ≡ None
coordinates_none bs h =
    let e = position_or_len_is (λ b. eqb b 44) bs (length bs) 0 (omega arith) (λ k l. ne_eqb (get_or bs k 0) 44 (h k l)) (λ l. absurd (omega arith)) in
    cond-false (ltb (position_or_len (λ b. eqb b 44) bs) (length bs)) _ None (le-ltb _ _ (omega (arith, e)))

module _ (xs ys : List ℕ) (h : LacksByte 44 xs) where
  abbrev whole : List ℕ
  whole = xs ++ 44 ∷ ys

  place : position_or_len (λ b. eqb b 44) whole ≡ length xs
  place =
      position_or_len_is (λ b. eqb b 44) whole (length xs) 0 (omega (arith, length-append xs (44 ∷ ys)))
      (λ k l. ap (λ b. eqb b 44) (get_or_append_left xs (44 ∷ ys) 0 k l) ∙ ne_eqb (get_or xs k 0) 44 (h k l))
      (λ _. ap (λ b. eqb b 44) (get_or_at xs 44 ys 0 (length xs) refl))

  before : before_first (λ b. eqb b 44) whole ≡ xs
  before = ap (λ k. take k whole) place ∙ take_at xs (44 ∷ ys) (length xs) refl

  after : after_first (λ b. eqb b 44) whole ≡ ys
  after =
      ap (λ k. drop (k + 1) whole) place ∙ ap (drop (length xs + 1)) (sym (append_assoc xs (44 ∷ []) ys))
      ∙ drop_at (xs ++ 44 ∷ []) ys (length xs + 1) (length_push xs 44)

  parted_at : coordinates whole ≡ Some (xs, ys)
  parted_at =
      cond-true (ltb (position_or_len (λ b. eqb b 44) whole) (length whole)) _ None (lt-ltb _ _ (omega (arith, place, length-append xs (44 ∷ ys))))
      ∙ (ap (λ w. Some (w, after_first (λ b. eqb b 44) whole)) before ∙ ap (λ w. Some (xs, w)) after)

pub coordinates_parted : (xs ys : List ℕ) → LacksByte 44 xs → coordinates (xs ++ 44 ∷ ys) ≡ Some (xs, ys)
coordinates_parted xs ys h = parted_at xs ys h

-- a word without a comma writes no vertex
pub no_comma : (w : List ℕ) → LacksByte 44 w → is_vertex w ≡ false
no_comma w h = ap two_decimals (coordinates_none w h)
