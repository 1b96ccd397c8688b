-- Counting the sides that are the lowest of their rings.
use Rattle.std.specs.Option.{ok_or, option_map}
use Rattle.std.proofs.Common.{◌≡◌, ℕ, Option, refl, ◌<◌, ◌≤◌, cond, ltb, List, length, get_or, Some, None, slice_get, inl, inr, Ok, Err, Result, sym, ap, ◌∙◌, arith}
use Rattle.std.proofs.lemmas.Bool.{cases_lt, lt-ltb, le-ltb, cond-true, cond-false}
use Rattle.std.proofs.lemmas.Option.{slice_get_within, get_or_from_slice_get, slice_get-get_or}
use Rattle.refusal.specs.declared.Refusal.{Refusal}
use Rattle.refusal.specs.declared.Refusal.TheVariants.{NoSuchElement}
use Rattle.rings.specs.Circles.{kept, rings, starts}
use Rattle.rings.proofs.Lows.{starts_kept, length_names}
use Rattle.topology.specs.declared.side.Side.{Side}
use Rattle.topology.specs.Rows.{next_of, polygon_of, low_of, tells}
use Rattle.topology.specs.MapLaw.{InRings, LowAlong, LowBelow, LowNames}

past_none : (xs : List ℕ) (k : ℕ) → slice_get xs k ≡ None → length xs ≤ k
past_none xs k h =
    elim (cases_lt k (length xs)) [
      | inl l ↦ absurd (let e = sym h ∙ slice_get-get_or xs k 0 l in let z : ◌≡◌ {A = ℕ} 0 1 = cc in omega arith)
      | inr g ↦ g
    ]

module _ (us : List Side) (n : ℕ) (r : InRings us n) (along : LowAlong us n) (below : LowBelow us n) (named : LowNames us n) where
  start_list : starts (rings (next_of us) n) ≡ kept (tells us) n
  start_list = starts_kept (next_of us) (low_of us) n r along below named

  pub count_kept : length (kept (tells us) n) ≡ length (rings (next_of us) n)
  count_kept = ap length (sym start_list) ∙ length_names (λ x. x) (rings (next_of us) n)

  -- the k-th ring, by the k-th of those that are kept
  ring_told : (k s : ℕ) → slice_get (kept (tells us) n) k ≡ Some s →
      ◌≡◌ {A = Result (ℕ × ℕ) Refusal} (Ok (polygon_of us s, s))
      (cond (ltb k (length (rings (next_of us) n))) (Ok (polygon_of us (get_or (starts (rings (next_of us) n)) k 0), get_or (starts (rings (next_of us) n)) k 0)) (Err NoSuchElement))
  ring_told k s h =
      let e : get_or (starts (rings (next_of us) n)) k 0 ≡ s = ap (λ (xs : List ℕ). get_or xs k 0) start_list ∙ get_or_from_slice_get (kept (tells us) n) k s 0 h in
      let l : k < length (rings (next_of us) n) = omega (arith, count_kept, slice_get_within (kept (tells us) n) k s h) in
      ap (λ (v : ℕ). Ok (polygon_of us v, v)) (sym e) ∙ sym (cond-true (ltb k (length (rings (next_of us) n))) _ (Err NoSuchElement) (lt-ltb k _ l))

  ring_none : (k : ℕ) → slice_get (kept (tells us) n) k ≡ None →
      ◌≡◌ {A = Result (ℕ × ℕ) Refusal} (Err NoSuchElement)
      (cond (ltb k (length (rings (next_of us) n))) (Ok (polygon_of us (get_or (starts (rings (next_of us) n)) k 0), get_or (starts (rings (next_of us) n)) k 0)) (Err NoSuchElement))
  ring_none k h = sym (cond-false (ltb k (length (rings (next_of us) n))) _ (Err NoSuchElement) (le-ltb k _ (omega (arith, count_kept, past_none (kept (tells us) n) k h))))

  told_or_none : (k : ℕ) (o : Option ℕ) → slice_get (kept (tells us) n) k ≡ o →
      ◌≡◌ {A = Result (ℕ × ℕ) Refusal} (ok_or (option_map (λ (s : ℕ). (polygon_of us s, s)) o) NoSuchElement)
      (cond (ltb k (length (rings (next_of us) n))) (Ok (polygon_of us (get_or (starts (rings (next_of us) n)) k 0), get_or (starts (rings (next_of us) n)) k 0)) (Err NoSuchElement))
  told_or_none k None h = ring_none k h
  told_or_none k (Some s) h = ring_told k s h

  pub ring_found : (k : ℕ) →
      ◌≡◌ {A = Result (ℕ × ℕ) Refusal} (ok_or (option_map (λ (s : ℕ). (polygon_of us s, s)) (slice_get (kept (tells us) n) k)) NoSuchElement)
      (cond (ltb k (length (rings (next_of us) n))) (Ok (polygon_of us (get_or (starts (rings (next_of us) n)) k 0), get_or (starts (rings (next_of us) n)) k 0)) (Err NoSuchElement))
  ring_found k = told_or_none k _ refl
