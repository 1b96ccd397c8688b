-- Numbers below n that all differ are at most n.
use Rattle.std.proofs.Common.{◌≡◌, ℕ, zero, suc, ◌<◌, ◌≤◌, cond, eqb, List, length, get_or, sym, ◌∙◌, inl, inr, arith, ne_eqb}
use Rattle.std.proofs.lemmas.Bool.{cases_eq, eq-eqb}
use Rattle.pages.specs.Paging.{Below, Apart}

-- f, with v in the place of n
abbrev moved : (ℕ → ℕ) → ℕ → ℕ → ℕ → ℕ
moved f n v k = cond (eqb (f k) n) v (f k)

moved_there : (f : ℕ → ℕ) (n v k : ℕ) → f k ≡ n → moved f n v k ≡ v
moved_there f n v k e = rw (eq-eqb (f k) n e)

moved_else : (f : ℕ → ℕ) (n v k : ℕ) → (f k ≡ n → ⊥) → moved f n v k ≡ f k
moved_else f n v k e = rw (ne_eqb (f k) n e)

pub at_most : (m n : ℕ) (f : ℕ → ℕ) → ((k : ℕ) → k < m → f k < n) → ((a b : ℕ) → a < m → b < m → f a ≡ f b → a ≡ b) → m ≤ n
at_most zero n f low one = omega arith
at_most (suc m) zero f low one = absurd (omega (arith, low 0 (omega arith)))
at_most (suc m) (suc n) f low one =
    let g = moved f n (f m) in
    let below : (k : ℕ) → k < m → g k < n = λ k l.
    elim (cases_eq (f k) n) [
      | inl e ↦
          elim (cases_eq (f m) n) [
            | inl d ↦ absurd (omega (arith, one k m (omega arith) (omega arith) (e ∙ sym d)))
            | inr d ↦ omega (arith, moved_there f n (f m) k e, low m (omega arith))
          ]
      | inr d ↦ omega (arith, moved_else f n (f m) k d, low k (omega arith))
    ]
    in
    let apart : (a b : ℕ) → a < m → b < m → g a ≡ g b → a ≡ b = λ a b la lb e.
    elim (cases_eq (f a) n) [
      | inl ea ↦
          elim (cases_eq (f b) n) [
            | inl eb ↦ one a b (omega arith) (omega arith) (ea ∙ sym eb)
            | inr nb ↦ absurd (omega (arith, one m b (omega arith) (omega arith) (sym (moved_there f n (f m) a ea) ∙ (e ∙ moved_else f n (f m) b nb))))
          ]
      | inr na ↦
          elim (cases_eq (f b) n) [
            | inl eb ↦ absurd (omega (arith, one a m (omega arith) (omega arith) (sym (moved_else f n (f m) a na) ∙ (e ∙ moved_there f n (f m) b eb))))
            | inr nb ↦ one a b (omega arith) (omega arith) (sym (moved_else f n (f m) a na) ∙ (e ∙ moved_else f n (f m) b nb))
          ]
    ]
    in
    omega (arith, at_most m n g below apart)

-- so a list of pages has at most 128
pub few : (ps : List ℕ) → Below ps (length ps) → Apart ps (length ps) → length ps ≤ 128
few ps below apart = at_most (length ps) 128 (λ k. get_or ps k 0) below (λ a b p q e. apart a b (p, q, e))
