-- Numbers as they are stored: unsigned, the lowest byte first.
use Rattle.std.specs.Prelude.{◌≡◌, ℕ, zero, suc, ◌+◌, ◌*◌, ◌/◌, ◌%◌, ◌^◌, ◌<◌, ◌≤◌, ◌⊎◌, List, [], ◌∷◌, length, Ok, Err, Result}
use Rattle.refusal.specs.declared.Refusal.{Refusal}
use Rattle.refusal.specs.declared.Refusal.TheVariants.{PastEnd, DoesNotFit}
use Rattle.media.specs.Runs.{run, overwrite}
pub use Rattle.media.specs.Posts.{Field}

-- the number that bytes stand for
abbrev pub little : List ℕ → ℕ
little [] = 0
little (b ∷ bs) = b + 256 * little bs

-- the w lowest bytes of a number
abbrev pub digits : ℕ → ℕ → List ℕ
digits zero n = []
digits (suc w) n = n % 256 ∷ digits w (n / 256)

-- the number of w bytes that stands at a place
abbrev pub number_at : ℕ → List ℕ → ℕ → ℕ
number_at w bs at = little (run bs at w)

-- A number is stored in w bytes at a place: was and is are the bytes before and after. What is stored is read back.
abbrev pub Stored : {X : Type 0} → ℕ → List ℕ → ℕ → ℕ → List ℕ → Result X Refusal → Type 0
Stored w was at n is (Ok x) = (at + w ≤ length was) × (n < 256 ^ w) × (is ≡ overwrite was at (digits w n)) × (number_at w is at ≡ n)
Stored w was at n is (Err e) =
    (is ≡ was) × (((e ≡ PastEnd) × (length was < at + w)) ⊎ ((e ≡ DoesNotFit) × (at + w ≤ length was) × (256 ^ w ≤ n)))
