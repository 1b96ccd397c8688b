-- The lines of the wanted records, one more and none more.
use Rattle.std.proofs.Common.{◌≡◌, ℕ, zero, suc, ◌+◌, ◌<◌, ◌≤◌, Bool, true, false, List, [], ◌++◌, sym, ap, ◌∙◌, inl, inr, add-one, arith}
use Rattle.std.proofs.lemmas.List.{append_assoc, append-nil}
use Rattle.std.proofs.lemmas.Bool.{cases_eq, cond-true, cond-false}
use Rattle.record_report.specs.Reports.{lines}

-- the lines up to a record that is wanted
pub lines_more : (wanted : ℕ → Bool) (text : ℕ → List ℕ) (start : List ℕ) (f : ℕ) → wanted f ≡ true → (start ++ lines wanted text f) ++ text f ≡ start ++ lines wanted text (f + 1)
lines_more wanted text start f h = rw add-one (append_assoc start (lines wanted text f) (text f) ∙ ap (λ t. start ++ (lines wanted text f ++ t)) (sym (cond-true (wanted f) (text f) [] h)))

-- where none is wanted from k on, nothing is added
pub lines_none : (wanted : ℕ → Bool) (text : ℕ → List ℕ) (k f : ℕ) → k ≤ f → ((i : ℕ) → i < f → k ≤ i → wanted i ≡ false) → lines wanted text f ≡ lines wanted text k
lines_none wanted text k zero h none = let e : k ≡ 0 = omega arith in rw e
lines_none wanted text k (suc f) h none =
    elim (cases_eq k (suc f)) [
      | inl e ↦ rw e
      | inr ne ↦
          ap (λ t. lines wanted text f ++ t) (cond-false (wanted f) (text f) [] (none f (omega arith) (omega arith)))
          ∙ append-nil (lines wanted text f) ∙ lines_none wanted text k f (omega arith) (λ i l m. none i (omega arith) m)
    ]

-- a head, then lines, then a foot
pub joined : (l : List ℕ) {s t u v h f : List ℕ} → s ≡ h → t ≡ s ++ l → v ≡ f → u ≡ t ++ v → u ≡ h ++ (l ++ f)
joined l {t = t} {h = h} {f = f} a b c d = d ∙ ap (λ x. t ++ x) c ∙ ap (λ x. x ++ f) (b ∙ ap (λ x. x ++ l) a) ∙ append_assoc h l f
