-- The listing of a path of arcs, for a caller in another language.
use Rattle.std.specs.Prelude.{ℕ, List, Result}
use Rattle.refusal.specs.declared.Refusal.{Refusal}
use Rattle.topology.specs.declared.hand.Hand.TheVariants.{Right}
use Rattle.topology.specs.States.{State, blank}
use Rattle.topology.specs.Dissolves.{dissolve_outcome}
use Rattle.bench_export.specs.declared.sheets.Place.{Place}
use Rattle.bench_export.specs.Sheets.{followed, sheet_outcome}

-- an island round places, parted, without its first arc
abbrev pub path_outcome : ℕ → List Place → List ℕ → State → Result State Refusal
path_outcome room places cuts m = followed (sheet_outcome room 1 places cuts m) (λ s. dissolve_outcome s 0)

-- in tables of 32,768 sides and 65,536 vertices, with room for a run of 32,768 vertices
abbrev pub path : List Place → List ℕ → Result State Refusal
path places cuts = path_outcome 32768 places cuts (blank Right 32768 65536)
