-- The other side of an arc, as arithmetic on the side's number.
use Rattle.std.proofs.Common.{◌≡◌, ℕ, ◌+◌, ◌*◌, ◌/◌, ◌%◌, ap, ◌∙◌, inl, inr, arith}
use lib.Bits.{bit_xor, differ, xor_step, xor_zero_r}
use Rattle.std.proofs.lemmas.Bool.{cases_eq}
use Rattle.rings.specs.Law.{opp}

pub xor_opp : (a : ℕ) → bit_xor a 1 ≡ opp a
xor_opp a =
    xor_step a 1 ∙ ap (λ v. v * 2 + differ (a % 2) 1) (xor_zero_r (a / 2)) ∙
    elim (cases_eq (a % 2) 0) [
      | inl e ↦ ap (λ r. a / 2 * 2 + differ r 1) e ∙ omega arith
      | inr ne ↦ let e : a % 2 ≡ 1 = omega arith in ap (λ r. a / 2 * 2 + differ r 1) e ∙ omega arith
    ]

pub opp_back : (a : ℕ) → opp (opp a) ≡ a
opp_back a = elim (cases_eq (a % 2) 0) [ inl e ↦ omega arith | inr ne ↦ omega arith ]
