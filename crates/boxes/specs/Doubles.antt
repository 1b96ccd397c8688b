-- Doubles as they are stored: IEEE binary64, the lowest byte first.
use Rattle.std.specs.Prelude.{◌≡◌, ℕ, ◌+◌, ◌<◌, ◌≤◌, true, false, ◌⊎◌, List, length, Ok, Err, Result, from_bits, to_bits, Float}
use Rattle.std.specs.Float.{float_is_finite, binary64}
use Rattle.std.specs.List.{AllByRecursion}
use Rattle.refusal.specs.declared.Refusal.{Refusal}
use Rattle.refusal.specs.declared.Refusal.TheVariants.{PastEnd, NotFinite}
use Rattle.media.specs.Runs.{run, overwrite}
use Rattle.editions.specs.Numbers.{digits, number_at}

-- the double that stands at a place
abbrev pub double_at : List ℕ → ℕ → Float
double_at bs at = from_bits binary64 (number_at 8 bs at)

-- the eight bytes of a double
abbrev pub double_bytes : Float → List ℕ
double_bytes x = digits 8 (to_bits binary64 x)

-- ws are the eight bytes that stand wherever x is read from
abbrev pub BitForBit : Float → List ℕ → Type 0
BitForBit x ws = (bs : List ℕ) (k : ℕ) → AllByRecursion (λ b. b < 256) bs → k + 8 ≤ length bs → double_at bs k ≡ x → run bs k 8 ≡ ws

-- A double is stored at a place: was and is are the bytes before and after.
abbrev pub StoredDouble : {X : Type 0} → List ℕ → ℕ → Float → List ℕ → Result X Refusal → Type 0
StoredDouble was at x is (Ok u) =
    (at + 8 ≤ length was) × (float_is_finite x ≡ true) × (is ≡ overwrite was at (double_bytes x)) × (double_at is at ≡ x) × BitForBit x (double_bytes x)
StoredDouble was at x is (Err e) =
    (is ≡ was) × (((e ≡ PastEnd) × (length was < at + 8)) ⊎ ((e ≡ NotFinite) × (at + 8 ≤ length was) × (float_is_finite x ≡ false)))
