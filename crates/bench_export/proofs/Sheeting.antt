-- Islands that are added and parted one after the other.
use Rattle.std.proofs.Common.{◌≡◌, ℕ, suc, ◌+◌, ◌-◌, ◌<◌, List, [], ◌∷◌, ◌++◌, map, length, get_or, take, drop, set, Ok, Err, Result, sym, ap, ◌∙◌, arith}
use Rattle.std.proofs.lemmas.List.{length-map, length-take, map-append, take_more, drop_more, set-append_right, append_assoc}
use Rattle.refusal.specs.declared.Refusal.{Refusal}
use Rattle.topology.specs.declared.vertex.Vertex.{Vertex}
use Rattle.topology.specs.States.{State}
use Rattle.topology.specs.Questions.{arc_count}
use Rattle.topology.specs.Islands.{island_outcome}
use Rattle.bench_export.specs.Sheets.{followed, parted, islands_outcome}

-- one row more is what a function says of the next element
pub put_more : {X Y : Type 0} (f : X → Y) (xs : List X) (ys rows : List Y) (k : ℕ) (d : X) (v : Y) → k < length xs → length ys ≡ length xs → rows ≡ map f (take k xs) ++ drop k ys → v ≡ f (get_or xs k d) →
    set rows k v ≡ map f (take (k + 1) xs) ++ drop (k + 1) ys
put_more f xs ys rows k d v h e r q =
    let n : length (map f (take k xs)) ≡ k = simp (length-map, length-take) (omega arith) in
    let z : k - k ≡ 0 = omega arith in
    ap (λ zs. set zs k v) r
    ∙ set-append_right (map f (take k xs)) (drop k ys) k k v n (omega arith)
    ∙ ap (λ (i : ℕ). map f (take k xs) ++ set (drop k ys) i v) z
    ∙ ap (λ zs. map f (take k xs) ++ set zs 0 v) (drop_more ys k v (omega arith))
    ∙ sym (append_assoc (map f (take k xs)) (v ∷ []) (drop (k + 1) ys))
    ∙ ap (λ w. (map f (take k xs) ++ w ∷ []) ++ drop (k + 1) ys) q
    ∙ ap (λ zs. zs ++ drop (k + 1) ys) (sym (ap (map f) (take_more xs k d h) ∙ map-append f (take k xs) (get_or xs k d ∷ [])))

module _ (m : State) (k n : ℕ) (run : List Vertex) (cuts : List ℕ) (l : k < n) where
  abbrev onward : Result State Refusal → Result State Refusal
  onward o = followed (followed o (parted (arc_count m) cuts)) (islands_outcome (k + 1) (n - (k + 1)) run cuts)

  next_island : islands_outcome k (n - k) run cuts m ≡ onward (island_outcome m k run)
  next_island = let e : n - k ≡ suc (n - (k + 1)) = omega arith in ap (λ (j : ℕ). islands_outcome k j run cuts m) e

  pub island_refused : (e : Refusal) → ◌≡◌ {A = Result State Refusal} (Err e) (island_outcome m k run) → islands_outcome k (n - k) run cuts m ≡ Err e
  island_refused e h = next_island ∙ sym (ap onward h)

  module _ (a : ℕ) (s : State) (h : ◌≡◌ {A = Result State Refusal} (Ok s) (island_outcome m k run)) (q : a ≡ arc_count m) where
    next_parts : islands_outcome k (n - k) run cuts m ≡ followed (parted a cuts s) (islands_outcome (k + 1) (n - (k + 1)) run cuts)
    next_parts = next_island ∙ sym (ap onward h) ∙ ap (λ (b : ℕ). followed (parted b cuts s) (islands_outcome (k + 1) (n - (k + 1)) run cuts)) (sym q)

    pub part_refused : (e : Refusal) → ◌≡◌ {A = Result State Refusal} (Err e) (parted a cuts s) → islands_outcome k (n - k) run cuts m ≡ Err e
    part_refused e p = next_parts ∙ sym (ap (λ o. followed o (islands_outcome (k + 1) (n - (k + 1)) run cuts)) p)

    pub island_added : (t : State) → ◌≡◌ {A = Result State Refusal} (Ok t) (parted a cuts s) → islands_outcome k (n - k) run cuts m ≡ islands_outcome (k + 1) (n - (k + 1)) run cuts t
    island_added t p = next_parts ∙ sym (ap (λ o. followed o (islands_outcome (k + 1) (n - (k + 1)) run cuts)) p)
