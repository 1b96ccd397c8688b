-- What a word says, by its bytes.
use Rattle.std.specs.Prelude.{◌≡◌, ℕ, ◌^◌, Bool, true, false, cond, ◌&&◌, List, [], ◌∷◌, length, pos, Some, None, Option, nat_lt, Float}
use Rattle.std.specs.Float.{binary64}
use Rattle.std.specs.Float.Ieee.{of_int}
use Rattle.std.specs.Float.Parse.{parse_float, is_float_text}
use Rattle.std.specs.Str.Parse.{without_leading_plus, digits_value}
use Rattle.std.specs.Str.{all_ascii_digits, chars}
use Rattle.decimals.specs.Plain.{plain_of}

-- one digit or more, and nothing else, of a number that 64 bits hold
abbrev pub numeral : List ℕ → Bool
numeral ds = (nat_lt 0 (length ds) && all_ascii_digits ds) && nat_lt (digits_value 10 ds) (2 ^ 64)

-- the number that the digits write, after a plus or none
abbrev pub whole_of : List ℕ → Option ℕ
whole_of bs = cond (numeral (without_leading_plus bs)) (Some (digits_value 10 (without_leading_plus bs))) None

abbrev pub only : List ℕ → Option ℕ
only [] = None
only (c ∷ []) = Some c
only (c ∷ d ∷ cs) = None

-- the only character of a text
abbrev pub character_of : List ℕ → Option ℕ
character_of bs = only (chars bs)

-- What Rust's `parse` reads as a double: `is_float_text` says of which texts, and a whole number of 64 bits is read as the double nearest to it.
-- A text is read if it is a sign or none, digits with at most one point, an exponent or none; or `inf`, `infinity` or `nan` in any case.
abbrev pub Parsed : List ℕ → Option Float → Type 0
Parsed bs None = is_float_text bs ≡ false
Parsed bs (Some x) = (is_float_text bs ≡ true) × (numeral (without_leading_plus bs) ≡ true → x ≡ of_int binary64 (pos (digits_value 10 (without_leading_plus bs))))

-- of a plain number the double nearest to it, and of any other text what `parse` reads
abbrev pub Said : List ℕ → Option Float → Option Float → Type 0
Said bs (Some y) r = r ≡ Some y
Said bs None r = Parsed bs r

-- The double that a text writes, or none where it writes no number: `parse_float` is std's definition of it, the exact number rounded once, for every text.
pub record Decimal (bs : List ℕ) (r : Option Float) : Type 0 where
  pub rounded : r ≡ parse_float binary64 bs
  pub said : Said bs (plain_of bs) r
