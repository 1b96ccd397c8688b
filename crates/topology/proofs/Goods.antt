-- A run whose vertices are all finite.
use Rattle.std.proofs.Common.{◌≡◌, ℕ, zero, suc, ◌<◌, true, false, List, [], ◌∷◌, length, get_or, refl, arith}
use Rattle.std.proofs.lemmas.Bool.{and_from, and_left, and_right}
use Rattle.topology.specs.declared.vertex.Vertex.{Vertex}
use Rattle.topology.specs.Rows.{no_vertex, good}
use Rattle.topology.specs.Islands.{all_good}

pub all_from : (run : List Vertex) → ((i : ℕ) → i < length run → good (get_or run i no_vertex) ≡ true) → all_good run ≡ true
all_from [] h = refl
all_from (v ∷ vs) h = and_from (good v) (all_good vs) (h 0 (omega arith)) (all_from vs (λ i l. h (suc i) (omega arith)))

pub not_all : (run : List Vertex) (i : ℕ) → i < length run → good (get_or run i no_vertex) ≡ false → all_good run ≡ false
not_all [] i l h = absurd (omega arith)
not_all (v ∷ vs) zero l h = and_left (good v) (all_good vs) h
not_all (v ∷ vs) (suc i) l h = and_right (good v) (all_good vs) (not_all vs i (omega arith) h)
