-- How many records are wanted, and the loop that goes from one that meets a window to the next.
use Rattle.std.proofs.Common.{◌≡◌, ℕ, zero, suc, ◌+◌, ◌<◌, ◌≤◌, Bool, true, false, Some, None, Result, sym, refl, ap, ◌∙◌, inl, inr, add-one, arith}
use Rattle.std.proofs.lemmas.Bool.{cases_eq, cond-true, cond-false}
use Rattle.refusal.specs.declared.Refusal.{Refusal}
use Rattle.boxes.specs.declared.edges.Edges.{Edges}
use Rattle.boxes.specs.declared.bounds.Bounds.{Bounds}
use Rattle.boxes.specs.Boxes.{edges_of}
use Rattle.tables.specs.Windows.{Meeting, met, Lowest, tally}
use Rattle.tables.proofs.MetLaws.{meeting_from_met, met_from_meeting}

pub tally_more : (wanted : ℕ → Bool) (f : ℕ) → wanted f ≡ true → tally wanted f + 1 ≡ tally wanted (f + 1)
tally_more wanted f h = ap (λ t. tally wanted f + t) (sym (cond-true (wanted f) 1 0 h)) ∙ sym (ap (tally wanted) (add-one f))

pub tally_none : (wanted : ℕ → Bool) (k f : ℕ) → k ≤ f → ((i : ℕ) → i < f → k ≤ i → wanted i ≡ false) → tally wanted f ≡ tally wanted k
tally_none wanted k zero h none = let e : k ≡ 0 = omega arith in rw e
tally_none wanted k (suc f) h none =
    elim (cases_eq k (suc f)) [
      | inl e ↦ rw e
      | inr ne ↦
          ap (λ t. tally wanted f + t) (cond-false (wanted f) 1 0 (none f (omega arith) (omega arith)))
          ∙ omega (arith, tally_none wanted k f (omega arith) (λ i l m. none i (omega arith) m))
    ]

pub tally_every : (n : ℕ) → tally (λ _. true) n ≡ n
tally_every zero = refl
tally_every (suc n) = omega (arith, tally_every n)

-- a test that is not true is false
fails : (b : Bool) → (b ≡ true → ⊥) → b ≡ false
fails true f = absurd (f refl)
fails false f = refl

module _ (boxes : ℕ → Result Edges Refusal) (w : Bounds) where
  abbrev wanted : ℕ → Bool
  wanted i = met (boxes i) (edges_of w)

  pub none_between : (k f : ℕ) → ((i : ℕ) → i < f → k ≤ i → Meeting (boxes i) (edges_of w) → ⊥) → (i : ℕ) → i < f → k ≤ i → wanted i ≡ false
  none_between k f none i l m = fails (wanted i) (λ e. none i l m (meeting_from_met (boxes i) w e))

  pub count_turn : (count k f n : ℕ) → Lowest boxes count k (edges_of w) (Some f) → n ≤ k → n ≡ tally wanted k
      → (n + 1 ≤ f + 1) × (f + 1 ≤ count) × (n + 1 ≡ tally wanted (f + 1))
  count_turn count k f n (low, high, here, none) few t = (
    omega arith,
    omega arith,
    ap (λ v. v + 1) (t ∙ sym (tally_none wanted k f low (none_between k f none))) ∙ tally_more wanted f (met_from_meeting (boxes f) w here),
  )

  pub count_end : (count k n : ℕ) → Lowest boxes count k (edges_of w) None → k ≤ count → n ≡ tally wanted k → n ≡ tally wanted count
  count_end count k n none high t = t ∙ sym (tally_none wanted k count high (none_between k count none))
