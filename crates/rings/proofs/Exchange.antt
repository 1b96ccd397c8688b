-- Two arcs exchange their numbers.
use Rattle.std.proofs.Common.{◌≡◌, ℕ, ◌+◌, ◌-◌, ◌*◌, ◌/◌, ◌%◌, ◌<◌, sym, ap, ◌∙◌, inl, inr, arith}
use Rattle.std.proofs.lemmas.Bool.{cases_eq}
use Rattle.std.proofs.lemmas.Bool.Decides.{nat_tests}
use Rattle.rings.specs.Law.{opp}
use Rattle.rings.specs.Edits.{swapped, exchanged}

pub swapped_twice : (a z b : ℕ) → swapped a z (swapped a z b) ≡ b
swapped_twice a z b = grind (arith, nat_tests)

pub swapped_low : (a z b n : ℕ) → a < n → z < n → b < n → swapped a z b < n
swapped_low a z b n la lz lb = grind (arith, nat_tests)

pub exchanged_twice : (a z s : ℕ) → exchanged a z (exchanged a z s) ≡ s
exchanged_twice a z s =
    let x = swapped a z (s / 2) in
    let d : (2 * x + s % 2) / 2 ≡ x = omega arith in
    let r : (2 * x + s % 2) % 2 ≡ s % 2 = omega arith in
    ap (λ y. 2 * swapped a z y + (2 * x + s % 2) % 2) d ∙ (ap (λ y. 2 * swapped a z x + y) r ∙ (ap (λ y. 2 * y + s % 2) (swapped_twice a z (s / 2)) ∙ omega arith))

pub exchanged_low : (a z n : ℕ) → n % 2 ≡ 0 → a + a < n → z + z < n → (s : ℕ) → s < n → exchanged a z s < n
exchanged_low a z n even la lz s l =
    let h = swapped_low a z (s / 2) (n / 2) (omega arith) (omega arith) (omega arith) in
    omega (arith, h)

half_opp : (s : ℕ) → opp s / 2 ≡ s / 2
half_opp s = elim (cases_eq (s % 2) 0) [ inl e ↦ omega arith | inr ne ↦ omega arith ]

opp_rest : (s : ℕ) → opp s % 2 ≡ 1 - s % 2
opp_rest s = elim (cases_eq (s % 2) 0) [ inl e ↦ omega arith | inr ne ↦ omega arith ]

opp_bit : (x b : ℕ) → b < 2 → opp (2 * x + b) ≡ 2 * x + (1 - b)
opp_bit x b l = elim (cases_eq b 0) [ inl e ↦ rw e (omega arith) | inr ne ↦ let e : b ≡ 1 = omega arith in rw e (omega arith) ]

opp_of : (x s : ℕ) → opp (2 * x + s % 2) ≡ 2 * x + opp s % 2
opp_of x s = opp_bit x (s % 2) (omega arith) ∙ ap (λ y. 2 * x + y) (sym (opp_rest s))

pub exchanged_opp : (a z s : ℕ) → opp (exchanged a z s) ≡ exchanged a z (opp s)
exchanged_opp a z s = opp_of (swapped a z (s / 2)) s ∙ ap (λ y. 2 * swapped a z y + opp s % 2) (sym (half_opp s))

-- the numbers that change
pub swapped_first : (a z : ℕ) → swapped a z a ≡ z
swapped_first a z = grind (arith, nat_tests)

pub swapped_second : (a z : ℕ) → swapped a z z ≡ a
swapped_second a z = grind (arith, nat_tests)

pub swapped_else : (a z b : ℕ) → (b ≡ a → ⊥) → (b ≡ z → ⊥) → swapped a z b ≡ b
swapped_else a z b na nz = grind (arith, nat_tests)

-- both sides of an arc go with it
pub exchanged_even : (a z k : ℕ) → exchanged a z (k + k) ≡ swapped a z k + swapped a z k
exchanged_even a z k = let d : (k + k) / 2 ≡ k = omega arith in ap (λ (j : ℕ). 2 * swapped a z j + (k + k) % 2) d ∙ omega arith

pub exchanged_odd : (a z k : ℕ) → exchanged a z (k + k + 1) ≡ swapped a z k + swapped a z k + 1
exchanged_odd a z k = let d : (k + k + 1) / 2 ≡ k = omega arith in ap (λ (j : ℕ). 2 * swapped a z j + (k + k + 1) % 2) d ∙ omega arith

pub exchanged_unturned : (a z : ℕ) → exchanged a z (a + a) ≡ z + z
exchanged_unturned a z = exchanged_even a z a ∙ ap (λ (y : ℕ). y + y) (swapped_first a z)

pub exchanged_turned : (a z : ℕ) → exchanged a z (a + a + 1) ≡ z + z + 1
exchanged_turned a z = exchanged_odd a z a ∙ ap (λ (y : ℕ). y + y + 1) (swapped_first a z)

pub exchanged_last_unturned : (a z : ℕ) → exchanged a z (z + z) ≡ a + a
exchanged_last_unturned a z = exchanged_even a z z ∙ ap (λ (y : ℕ). y + y) (swapped_second a z)

pub exchanged_last_turned : (a z : ℕ) → exchanged a z (z + z + 1) ≡ a + a + 1
exchanged_last_turned a z = exchanged_odd a z z ∙ ap (λ (y : ℕ). y + y + 1) (swapped_second a z)

pub exchanged_else : (a z s : ℕ) → (s / 2 ≡ a → ⊥) → (s / 2 ≡ z → ⊥) → exchanged a z s ≡ s
exchanged_else a z s na nz = ap (λ y. 2 * y + s % 2) (swapped_else a z (s / 2) na nz) ∙ omega arith
