-- The listing of a map of nested islands, for a caller in another language.
use Rattle.std.specs.Prelude.{ℕ, zero, suc, false, List, [], ◌∷◌, pos, Ok, Err, Result, Float}
use Rattle.std.specs.Float.{fin}
use Rattle.refusal.specs.declared.Refusal.{Refusal}
use Rattle.topology.specs.declared.vertex.Vertex.{Vertex}
use Rattle.topology.specs.declared.hand.Hand.TheVariants.{Right}
use Rattle.topology.specs.States.{State, blank}
use Rattle.topology.specs.Islands.{island_outcome}
use Rattle.listing.specs.Texts.{listing, text_outcome, text_leaves}
use Rattle.bench_export.specs.Meetings.{refused_count}

-- the doubles 0 and 1
abbrev nought : Float
nought = fin false 0 (pos 0)

abbrev one : Float
one = fin false 1 (pos 0)

-- around a triangle: (0, 0) (0, 1) (1, 0) (0, 0)
abbrev pub triangle : List Vertex
triangle = record { x = nought; y = nought } ∷ record { x = nought; y = one } ∷ record { x = one; y = nought } ∷ record { x = nought; y = nought } ∷ []

abbrev pub island_within : ℕ → Result State Refusal → Result State Refusal
island_within p (Ok m) = island_outcome m p triangle
island_within p (Err e) = Err e

-- so many islands, each in the polygon of the one before
abbrev pub nested : ℕ → State → Result State Refusal
nested zero m = Ok m
nested (suc k) m = island_within k (nested k m)

abbrev pub size_or_refused : Result ℕ Refusal → ℕ
size_or_refused (Ok n) = n
size_or_refused (Err e) = refused_count

-- how long the listing is, or the number that stands for a refusal
abbrev pub listed_size : ℕ → Result State Refusal → ℕ
listed_size room (Ok m) = size_or_refused (text_outcome (listing m) room)
listed_size room (Err e) = refused_count

abbrev pub listed_leaves : List ℕ → Result State Refusal → List ℕ
listed_leaves out (Ok m) = text_leaves (listing m) out
listed_leaves out (Err e) = out

-- in tables of 32,768 sides and 65,536 vertices
abbrev pub nest : ℕ → Result State Refusal
nest islands = nested islands (blank Right 32768 65536)
