-- Doubles with the same bits are the same.
use Rattle.std.proofs.Common.{◌≡◌, true, false, T, sym, refl, ap, ◌∙◌}
use lib.Ieee.{Float, nan, inf, fin, binary64, fits, is_nan, to_bits, of_bits}
use lib.Ieee.Bits.{of_bits-to_bits}
use Rattle.std.proofs.lemmas.Bool.{both_ways}

pub same_bits : (x y : Float) → T (fits binary64 x) → T (fits binary64 y) → to_bits binary64 x ≡ to_bits binary64 y → x ≡ y
same_bits x y f g e = sym (of_bits-to_bits binary64 x f) ∙ ap (of_bits binary64) e ∙ of_bits-to_bits binary64 y g

nan_from_test : (x : Float) → is_nan x ≡ true → x ≡ nan
unfolding is_nan
nan_from_test nan e = refl
nan_from_test (inf s) e = absurd (both_ways false refl e)
nan_from_test (fin s m k) e = absurd (both_ways false refl e)

pub both_nan : (x y : Float) → is_nan x ≡ true → is_nan y ≡ true → x ≡ y
both_nan x y e f = nan_from_test x e ∙ sym (nan_from_test y f)
