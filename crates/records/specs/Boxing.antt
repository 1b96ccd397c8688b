-- The boxes of records.
use Rattle.std.specs.Prelude.{ℕ, cond, List, Ok, Err, Result}
use Rattle.refusal.specs.declared.Refusal.{Refusal}
use Rattle.refusal.specs.declared.Refusal.TheVariants.{UnfitBox}
use Rattle.media.specs.Runs.{run}
use Rattle.kinds.specs.declared.kind.Kind.{Kind}
use Rattle.boxes.specs.declared.edges.Edges.{Edges}
use Rattle.boxes.specs.Boxes.{fair_edges}
use Rattle.records.specs.declared.shape.Shape.{Shape}
use Rattle.records.specs.Parts.{record_outcome}

abbrev boxed_by : (List ℕ → Edges) → List ℕ → Result (ℕ × ℕ) Refusal → Result Edges Refusal
boxed_by edges bs (Ok (at, n)) = cond (fair_edges (edges (run bs at n))) (Ok (edges (run bs at n))) (Err UnfitBox)
boxed_by edges bs (Err e) = Err e

-- The box of record k, where edges says what a record's bytes tell of it: 20 when there is no such record,
-- then 10 when what is stored is not finite and in order.
abbrev pub box_outcome : Kind → (List ℕ → Edges) → List ℕ → Shape → ℕ → Result Edges Refusal
box_outcome kind edges bs s k = boxed_by edges bs (record_outcome kind bs s k)
