-- Finite doubles: none is a NaN, and which bits stand for one.
use Rattle.std.proofs.Common.{◌≡◌, ℕ, zero, suc, ◌+◌, ◌/◌, ◌%◌, ◌^◌, ◌<◌, Bool, true, false, cond, not, T, eqb, leb, refl}
use lib.Ieee.{Float, binary64, nan, inf, fin, is_nan, odd, of_fields, of_bits, to_bits}
use lib.Ieee.Bits.{to_bits-of_bits}
use Rattle.std.proofs.lemmas.Bool.{false≢true}
use Rattle.std.specs.Float.{float_is_finite}

pub no_nan : (x : Float) → float_is_finite x ≡ true → T (not (is_nan x))
unfolding float_is_finite is_nan
no_nan nan h = absurd (false≢true h)
no_nan (inf s) h = absurd (false≢true h)
no_nan (fin s m e) h = tt

-- bits of which the exponent's field is all ones, and no others, are no finite double's
odd_finite : (d : ℕ) (s : Bool) (q k l : ℕ) → float_is_finite (odd d s q k l) ≡ true
unfolding odd float_is_finite
odd_finite d s zero k l = refl
odd_finite d s (suc q) k l = refl

fields_finite : (s : Bool) (x t : ℕ) → float_is_finite (of_fields binary64 s x t) ≡ not (eqb x 2047)
unfolding of_fields float_is_finite
fields_finite s zero t = odd_finite 53 s t 0 1074
fields_finite s (suc x) t = go (eqb (suc x) 2047) (eqb t 0)
  where
    go : (b c : Bool) → float_is_finite (cond b (cond c (inf s) nan) (odd 53 s (2 ^ 52 + t) x 1074)) ≡ not b
    go true true = refl
    go true false = refl
    go false c = odd_finite 53 s (2 ^ 52 + t) x 1074

pub of_bits_finite : (b : ℕ) → float_is_finite (of_bits binary64 b) ≡ not (eqb (b % 2 ^ 63 / 2 ^ 52) 2047)
unfolding of_bits
of_bits_finite b = fields_finite (leb (2 ^ 63) b) (b % 2 ^ 63 / 2 ^ 52) (b % 2 ^ 52)

-- a finite double's bytes are written again as they were read
pub to_bits_back : (b : ℕ) → b < 2 ^ 64 → float_is_finite (of_bits binary64 b) ≡ true → to_bits binary64 (of_bits binary64 b) ≡ b
to_bits_back b h f = to_bits-of_bits binary64 b h (no_nan _ f)
