-- Rows that are told one after the other.
use Rattle.std.proofs.Common.{◌≡◌, ℕ, ◌+◌, ◌<◌, ◌≤◌, List, ◌++◌, map, length, get_or, take, drop, set, Result, sym, ap, ◌∙◌, arith, zero-add}
use Rattle.std.proofs.lemmas.List.{length-map, length-take, places, take_all, append-nil}
use Rattle.std.proofs.Math.ListN.{drop_of_length-le}
use Rattle.std.proofs.lemmas.List.FromFn.{length-enumerate_from, get_or-enumerate_from}
use Rattle.std.specs.List.{enumerate_from}
use Rattle.std.specs.Result.{result_unwrap_or}
use Rattle.refusal.specs.declared.Refusal.{Refusal}
use Rattle.topology.specs.States.{State}
use Rattle.bench_export.specs.declared.told.SideTold.{SideTold}
use Rattle.bench_export.specs.Telling.{told_about, told_at, told_after}
use Rattle.bench_export.proofs.Sheeting.{put_more}

-- the row that comes next is still as it was
next_row : {X : Type 0} (ys zs rows : List X) (k : ℕ) (d : X) → length ys ≡ k → k < length zs → rows ≡ ys ++ drop k zs → get_or rows k d ≡ get_or zs k d
next_row ys zs rows k d n h e = ap (λ xs. get_or xs k d) e ∙ grind (arith, places)

module _ (m : State) (was told : List SideTold) (k : ℕ) (e : told ≡ map (told_at m) (take k (enumerate_from 0 was)) ++ drop k was) where
  pub told_more : (d v : SideTold) (r : Result SideTold Refusal) → k < length was → r ≡ told_about m k → v ≡ result_unwrap_or r (get_or told k d) →
      set told k v ≡ map (told_at m) (take (k + 1) (enumerate_from 0 was)) ++ drop (k + 1) was
  told_more d v r h q p =
      let n = length-enumerate_from 0 was in
      let front : length (map (told_at m) (take k (enumerate_from 0 was))) ≡ k = simp (length-map, length-take) (omega (arith, n)) in
      let row = next_row (map (told_at m) (take k (enumerate_from 0 was))) was told k d front h e in
      put_more (told_at m) (enumerate_from 0 was) was told k (0, d) v (omega (arith, n)) (sym n) e
      (p ∙ ap (λ x. result_unwrap_or x (get_or told k d)) q ∙ ap (λ x. result_unwrap_or (told_about m k) x) row
      ∙ ap (λ (j : ℕ). told_at m (j, get_or was k d)) (sym (zero-add k)) ∙ sym (ap (told_at m) (get_or-enumerate_from 0 was k (0, d) h)))

  pub told_all : length was ≤ k → told ≡ told_after m was
  told_all g =
      let n = length-enumerate_from 0 was in
      e
      ∙ ap (λ xs. map (told_at m) xs ++ drop k was) (take_all k (enumerate_from 0 was) (omega (arith, n)))
      ∙ ap (λ ys. map (told_at m) (enumerate_from 0 was) ++ ys) (drop_of_length-le was g)
      ∙ append-nil (map (told_at m) (enumerate_from 0 was))
