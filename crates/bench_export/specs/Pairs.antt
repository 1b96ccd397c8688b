-- Edits in pairs, for a caller in another language.
use Rattle.std.specs.Prelude.{ℕ, ◌+◌, List, [], ◌∷◌, Ok, Err, Result}
use Rattle.refusal.specs.declared.Refusal.{Refusal}
use Rattle.topology.specs.declared.vertex.Vertex.{Vertex}
use Rattle.topology.specs.declared.hand.Hand.TheVariants.{Right}
use Rattle.topology.specs.declared.arc_side.ArcSide.TheVariants.{Unturned}
use Rattle.topology.specs.States.{State, blank}
use Rattle.topology.specs.Questions.{vertex_at}
use Rattle.topology.specs.Splits.{split_outcome}
use Rattle.topology.specs.Joins.{join_outcome}
use Rattle.topology.specs.Divisions.{divide_outcome}
use Rattle.topology.specs.Dissolves.{dissolve_outcome}
use Rattle.bench_export.specs.declared.sheets.Place.{Place}
use Rattle.bench_export.specs.declared.told.SideTold.{SideTold}
use Rattle.bench_export.specs.declared.pairs.Chord.{Chord}
use Rattle.bench_export.specs.declared.pairs.Parting.{Parting}
use Rattle.bench_export.specs.Sheets.{followed, sheet_outcome}
use Rattle.bench_export.specs.Telling.{told_after}

-- where both vertices are there, a ring divided from the start of arc a to that of arc b by the run of the two
abbrev pub divided_by : ℕ → ℕ → State → Result Vertex Refusal → Result Vertex Refusal → Result State Refusal
divided_by a b m (Ok v) (Ok w) = divide_outcome m (a + a) (b + b) (v ∷ w ∷ []) Unturned
divided_by a b m (Ok v) (Err e) = Err e
divided_by a b m (Err e) w = Err e

-- by a straight arc between the starts of arcs a and b
abbrev pub divide_between : ℕ → ℕ → State → Result State Refusal
divide_between a b m = divided_by a b m (vertex_at m a 0) (vertex_at m b 0)

-- a division, and then a dissolve
abbrev pub chord_outcome : Chord → State → Result State Refusal
chord_outcome c m = followed (divide_between c.from c.to m) (λ s. dissolve_outcome s c.gone)

-- a split, and then a join
abbrev pub parting_outcome : Parting → State → Result State Refusal
parting_outcome p m = followed (split_outcome m p.arc p.vertex) (λ s. join_outcome s p.node)

-- one pair after the other, where `outcome` is what one of them does
abbrev pub pairs_outcome : {X : Type 0} → (X → State → Result State Refusal) → List X → State → Result State Refusal
pairs_outcome outcome [] m = Ok m
pairs_outcome outcome (p ∷ ps) m = followed (outcome p m) (pairs_outcome outcome ps)

-- a sheet in tables of 32,768 sides and 131,072 vertices, with room for a run of 65,536 vertices, edited in pairs
abbrev pub pair_sheet : {X : Type 0} → (X → State → Result State Refusal) → ℕ → List Place → List ℕ → List X → Result State Refusal
pair_sheet outcome islands places cuts pairs = followed (sheet_outcome 65536 islands places cuts (blank Right 32768 131072)) (pairs_outcome outcome pairs)

-- divided and dissolved
abbrev pub chord_sheet : ℕ → List Place → List ℕ → List Chord → Result State Refusal
chord_sheet = pair_sheet chord_outcome

-- split and joined
abbrev pub parted_sheet : ℕ → List Place → List ℕ → List Parting → Result State Refusal
parted_sheet = pair_sheet parting_outcome

-- what is told about the sides; where an edit is refused, nothing is
abbrev pub sheet_told : List SideTold → Result State Refusal → List SideTold
sheet_told told (Ok m) = told_after m told
sheet_told told (Err e) = told
