-- Two members stand in one circle exactly if they tell the same lowest member.
use Rattle.std.proofs.Common.{◌≡◌, ℕ, ◌<◌, eqb, sym, ◌∙◌, inl, inr}
use Rattle.std.proofs.lemmas.Bool.{cases_eq, cases_Bool, eq-eqb, ne_eqb}
use Rattle.rings.specs.Circles.{rings, meets}
use Rattle.rings.specs.Law.{Ringed, LowAlong, LowNames}
use Rattle.rings.proofs.Ringed.{ringed_circles}
use Rattle.rings.proofs.LowMeets.{low_same}
use Rattle.rings.proofs.Division.{same_ring}

pub meets_low : (f low : ℕ → ℕ) (n : ℕ) → Ringed f n → LowAlong f low n → LowNames f low n → (s t : ℕ) → s < n → t < n → meets f n s t ≡ eqb (low s) (low t)
meets_low f low n r along named s t ls lt =
    elim (cases_eq (low s) (low t)) [
      | inl e ↦ low_same f low n r along named s t ls lt e ∙ sym (eq-eqb (low s) (low t) e)
      | inr ne ↦
          elim (cases_Bool (meets f n s t)) [
            | inl m ↦ absurd (ne (sym (same_ring f low n (rings f n) (ringed_circles f n r) along s t ls lt (λ _. m))))
            | inr m ↦ m ∙ sym (ne_eqb (low s) (low t) ne)
          ]
    ]
