-- Plain decimal numbers: a sign or none, and digits with at most one point.
use Rattle.std.specs.Prelude.{ℕ, ◌^◌, Bool, true, false, cond, ◌&&◌, ◌||◌, List, [], ◌∷◌, ◌++◌, length, Some, None, Option, ◌==◌, nat_le, nat_lt, Float}
use Rattle.std.specs.Float.{binary64}
use Rattle.std.specs.Float.Ieee.{round}
use Rattle.std.specs.Float.Parse.{without_sign}
use Rattle.std.specs.Str.Parse.{digits_value_after, starts_with_minus}
use Rattle.std.specs.Str.{all_ascii_digits}

-- the bytes before the first point, and those after it
abbrev pub before_point : List ℕ → List ℕ
before_point [] = []
before_point (c ∷ cs) = cond (c == 46) [] (c ∷ before_point cs)

abbrev pub after_point : List ℕ → List ℕ
after_point [] = []
after_point (c ∷ cs) = cond (c == 46) cs (after_point cs)

-- the bytes without the first point
abbrev pub digits_of : List ℕ → List ℕ
digits_of bs = before_point bs ++ after_point bs

abbrev pub some_if : {X : Type 0} → Bool → X → Option X
some_if b x = cond b (Some x) None

-- the number that digits write after those of n, where it is below 2 ^ 53
abbrev pub digits_after : ℕ → List ℕ → Option ℕ
digits_after n ds = some_if (all_ascii_digits ds && nat_lt (digits_value_after 10 n ds) (2 ^ 53)) (digits_value_after 10 n ds)

abbrev pub with_places : Bool → ℕ → Option ℕ → Option (ℕ × ℕ)
with_places true p (Some n) = Some (n, p)
with_places true p None = None
with_places false p n = None

-- one digit or more, and at most 15 after the point
abbrev pub is_short : ℕ → ℕ → Bool
is_short whole places = (nat_lt 0 whole || nat_lt 0 places) && nat_le places 15

-- One digit or more, at most one point, and at most 15 digits after it: the number that all digits write, if it is below 2 ^ 53, and how many stand after the point.
abbrev pub plain : List ℕ → Option (ℕ × ℕ)
plain bs = with_places (is_short (length (before_point bs)) (length (after_point bs))) (length (after_point bs)) (digits_after 0 (digits_of bs))

-- the double nearest to n / 10 ^ p, with a sign
abbrev pub nearest_double : Bool → Option (ℕ × ℕ) → Option Float
nearest_double s None = None
nearest_double s (Some (n, p)) = Some (round binary64 s n (10 ^ p))

-- the double nearest to the number that a plain text writes
abbrev pub plain_of : List ℕ → Option Float
plain_of bs = nearest_double (starts_with_minus bs) (plain (without_sign bs))
