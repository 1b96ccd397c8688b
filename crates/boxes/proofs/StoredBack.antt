-- A finite double goes into its bytes and comes back.
use Rattle.std.proofs.Common.{◌≡◌, ℕ, ◌+◌, ◌^◌, ◌<◌, ◌≤◌, true, T, List, length, drop, Ok, Err, Result, sym, ap, ◌∙◌, subst, arith}
use Rattle.refusal.specs.declared.Refusal.{Refusal}
use lib.Ieee.{Float, binary64, of_bits, to_bits, fits}
use lib.Ieee.Bits.{of_bits-to_bits, to_bits-lt}
use Rattle.std.specs.Float.{float_is_finite}
use Rattle.std.specs.List.{AllByRecursion}
use Rattle.std.proofs.ByRecursion.{All-take, All-drop}
use Rattle.media.specs.Runs.{run}
use Rattle.media.specs.Posts.{Written}
use Rattle.media.proofs.RunLaws.{length_run}
use Rattle.editions.specs.Numbers.{little, digits}
use Rattle.boxes.specs.Doubles.{double_bytes, BitForBit, StoredDouble}
use Rattle.editions.proofs.DigitLaws.{digits_little, little_lt, length_digits, stored_from_written}
use Rattle.boxes.proofs.Finite.{to_bits_back}

pub bit_for_bit : (x : Float) → float_is_finite x ≡ true → BitForBit x (double_bytes x)
bit_for_bit x f bs k bytes h e =
    let n : length (run bs k 8) ≡ 8 = length_run bs k 8 h in
    let all : AllByRecursion (λ b. b < 256) (run bs k 8) = All-take (λ b. b < 256) 8 (drop k bs) (All-drop (λ b. b < 256) k bs bytes) in
    let lt : little (run bs k 8) < 2 ^ 64 = subst (λ m. little (run bs k 8) < 256 ^ m) n (little_lt (run bs k 8) all) in
    let b : to_bits binary64 x ≡ little (run bs k 8) = ap (to_bits binary64) (sym e) ∙ to_bits_back (little (run bs k 8)) lt (ap float_is_finite e ∙ f) in
    let d : digits 8 (little (run bs k 8)) ≡ run bs k 8 = subst (λ m. digits m (little (run bs k 8)) ≡ run bs k 8) n (digits_little (run bs k 8) all) in
    sym (ap (digits 8) b ∙ d)

-- a finite double that is written at a place where it fits
pub stored_double : {X : Type 0} (bs is : List ℕ) (at : ℕ) (x : Float) (r : Result X Refusal) → T (fits binary64 x) → float_is_finite x ≡ true → at + 8 ≤ length bs → Written bs at (double_bytes x) is r → StoredDouble bs at x is r
stored_double bs is at x (Ok u) t f h p =
    let s = stored_from_written bs is at 8 (to_bits binary64 x) (Ok u) h (to_bits-lt binary64 x t) p in
    (h, f, s.2, ap (of_bits binary64) s.3 ∙ of_bits-to_bits binary64 x t, bit_for_bit x f)
stored_double bs is at x (Err e) t f h p = absurd (omega (arith, p.0, length_digits 8 (to_bits binary64 x)))
