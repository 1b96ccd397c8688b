-- Sheets of islands that are parted, for a caller in another language.
use Rattle.std.specs.Prelude.{ℕ, zero, suc, ◌+◌, cond, List, [], ◌∷◌, map, length, Ok, Err, Result, nat_le}
use Rattle.refusal.specs.declared.Refusal.{Refusal}
use Rattle.refusal.specs.declared.Refusal.TheVariants.{NoRoom}
use Rattle.topology.specs.declared.vertex.Vertex.{Vertex}
use Rattle.topology.specs.States.{State}
use Rattle.topology.specs.Questions.{arc_count}
use Rattle.topology.specs.Islands.{island_outcome}
use Rattle.topology.specs.Splits.{split_outcome}
use Rattle.bench_export.specs.declared.sheets.Place.{Place}

abbrev pub vertex_of : Place → Vertex
vertex_of p = record { x = p.x; y = p.y }

-- an edit, and the next one where it was taken
abbrev pub followed : Result State Refusal → (State → Result State Refusal) → Result State Refusal
followed (Ok m) f = f m
followed (Err e) f = Err e

-- arc a split at one vertex after the other
abbrev pub parted : ℕ → List ℕ → State → Result State Refusal
parted a [] m = Ok m
parted a (k ∷ ks) m = followed (split_outcome m a k) (parted a ks)

-- an island in polygon p, parted
abbrev pub island_parted : ℕ → List Vertex → List ℕ → State → Result State Refusal
island_parted p run cuts m = followed (island_outcome m p run) (parted (arc_count m) cuts)

-- so many islands of one run, each in the polygon of the one before, from polygon p on, and each parted
abbrev pub islands_outcome : ℕ → ℕ → List Vertex → List ℕ → State → Result State Refusal
islands_outcome p zero run cuts m = Ok m
islands_outcome p (suc n) run cuts m = followed (island_parted p run cuts m) (islands_outcome (p + 1) n run cuts)

-- so many islands round places, where a run of so many vertices has room
abbrev pub sheet_outcome : ℕ → ℕ → List Place → List ℕ → State → Result State Refusal
sheet_outcome room islands places cuts m = cond (nat_le (length places) room) (islands_outcome 0 islands (map vertex_of places) cuts m) (Err NoRoom)
