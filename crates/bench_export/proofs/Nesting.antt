-- Islands one within the other, and a listing made over again.
use Rattle.std.proofs.Common.{◌≡◌, ℕ, zero, suc, ◌+◌, ◌<◌, ◌≤◌, false, leb, List, ◌++◌, length, drop, pos, Ok, Err, Result, sym, refl, ap, ◌∙◌, inl, inr, add-one, arith}
use lib.Ieee.{fin, binary64, of_bits}
use Rattle.std.proofs.lemmas.List.{length-append, drop_at}
use Rattle.std.proofs.lemmas.Bool.{cases_eq, cases_lt, le-leb, lt-leb, cond-true, cond-false}
use Rattle.refusal.specs.declared.Refusal.{Refusal}
use Rattle.topology.specs.States.{State}
use Rattle.topology.specs.Islands.{island_outcome}
use Rattle.listing.specs.Texts.{text_leaves}
use Rattle.bench_export.specs.Nestings.{triangle, island_within, nested}

pub nought_is : of_bits binary64 0 ≡ fin false 0 (pos 0)
unfolding of_bits
nought_is = refl

pub one_is : of_bits binary64 4607182418800017408 ≡ fin false 1 (pos 0)
unfolding of_bits
one_is = refl

pub nested_more : (m s : State) (k : ℕ) → ◌≡◌ {A = Result State Refusal} (Ok s) (nested k m) → island_outcome s k triangle ≡ nested (k + 1) m
nested_more m s k h = ap (island_within k) h ∙ sym (ap (λ (j : ℕ). nested j m) (add-one k))

pub nested_refused : (m : State) (e : Refusal) (n k : ℕ) → k ≤ n → ◌≡◌ {A = Result State Refusal} (Err e) (nested k m) → ◌≡◌ {A = Result State Refusal} (Err e) (nested n m)
nested_refused m e zero k l h = let q : k ≡ 0 = omega arith in h ∙ ap (λ (j : ℕ). nested j m) q
nested_refused m e (suc n) k l h =
    elim (cases_eq k (suc n)) [
      | inl q ↦ h ∙ ap (λ (j : ℕ). nested j m) q
      | inr ne ↦ ap (island_within n) (nested_refused m e n k (omega arith) h)
    ]

-- ---- a text put twice

leaves_fit : (text out : List ℕ) → length text ≤ length out → text_leaves text out ≡ text ++ drop (length text) out
leaves_fit text out h = cond-true (leb (length text) (length out)) (text ++ drop (length text) out) out (le-leb (length text) (length out) h)

leaves_all : (text out : List ℕ) → length out < length text → text_leaves text out ≡ out
leaves_all text out h = cond-false (leb (length text) (length out)) (text ++ drop (length text) out) out (lt-leb (length text) (length out) h)

pub leaves_again : (text out : List ℕ) → text_leaves text (text_leaves text out) ≡ text_leaves text out
leaves_again text out =
    elim (cases_lt (length out) (length text)) [
      | inl l ↦ ap (text_leaves text) (leaves_all text out l)
      | inr g ↦
          let e = leaves_fit text out g in
          let f : length text ≤ length (text ++ drop (length text) out) = omega (arith, length-append text (drop (length text) out)) in
          ap (text_leaves text) e ∙ leaves_fit text (text ++ drop (length text) out) f
          ∙ ap (λ (xs : List ℕ). text ++ xs) (drop_at text (drop (length text) out) (length text) refl) ∙ sym e
    ]
