-- What is answered to a request for the records of a file.
use Rattle.std.specs.Prelude.{◌≡◌, ℕ, Bool, cond, List, Some, None, Ok, Err, String, string_bytes, Option, Result}
use Rattle.refusal.specs.declared.Refusal.{Refusal}
use Rattle.refusal.specs.declared.Refusal.TheVariants.{UnfitBox}
use Rattle.boxes.specs.declared.edges.Edges.{Edges}
use Rattle.kinds.specs.declared.kind.Kind.{Kind}
use Rattle.kinds.specs.declared.kind.Kind.TheVariants.{Points, Arcs, Nodes, Polygons}
use Rattle.boxes.specs.Boxes.{edges_at, point_at, fair_edges}
use Rattle.records.specs.declared.shape.Shape.{Shape}
use Rattle.records.specs.Parts.{record_outcome, list_outcome}
use Rattle.views.specs.Shapes.{view_outcome}
use Rattle.records.specs.Boxing.{box_outcome}
use Rattle.tables.specs.Windows.{met}
use Rattle.record_answer.specs.declared.unanswered.Unanswered.{Unanswered}
use Rattle.record_answer.specs.declared.unanswered.Unanswered.TheVariants.{NoMemory, Refused, NoBoxes}
use Rattle.record_lines.specs.Texts.{line}
use Rattle.record_report.specs.Reports.{report_text, every}

-- the report on the wanted records of a file
abbrev pub text_on : Kind → List ℕ → Shape → (ℕ → Bool) → List ℕ
text_on kind bs s wanted = report_text kind s.version s.count wanted (line (record_outcome kind bs s) (list_outcome kind bs s))

-- the records whose box meets a window, where edges says what a record's bytes tell of its box
abbrev pub meeting : Kind → (List ℕ → Edges) → List ℕ → Shape → Edges → ℕ → Bool
meeting kind edges bs s window k = met (box_outcome kind edges bs s k) window

-- the records wanted: all, or those that meet the window
abbrev pub wanted_by : Kind → (List ℕ → Edges) → List ℕ → Shape → Option Edges → ℕ → Bool
wanted_by kind edges bs s None = every
wanted_by kind edges bs s (Some e) = meeting kind edges bs s e

abbrev pub by_window : Kind → List ℕ → Shape → Edges → Option (List ℕ)
by_window Points bs s e = Some (text_on Points bs s (meeting Points (λ r. point_at r 0) bs s e))
by_window Arcs bs s e = Some (text_on Arcs bs s (meeting Arcs (λ r. edges_at r 0) bs s e))
by_window Nodes bs s e = None
by_window Polygons bs s e = Some (text_on Polygons bs s (meeting Polygons (λ r. edges_at r 0) bs s e))

abbrev pub by_view : List ℕ → Option Edges → Result (Kind × Shape) Refusal → Result (Option (List ℕ)) Refusal
by_view bs window (Err e) = Err e
by_view bs None (Ok (kind, s)) = Ok (Some (text_on kind bs s every))
by_view bs (Some e) (Ok (kind, s)) = cond (fair_edges e) (Ok (by_window kind bs s e)) (Err UnfitBox)

-- The answer for a file, a letter, an arc count and a window, if one is given: the refusal of the view, then 10 for the window,
-- then the report, on all records or on those that meet the window. Nodes have no boxes, so with a window there is no report on them.
abbrev pub answer_outcome : List ℕ → ℕ → ℕ → Option Edges → Result (Option (List ℕ)) Refusal
answer_outcome bs letter arcs window = by_view bs window (view_outcome bs letter arcs)

-- why there is no report agrees with the outcome, so far as memory does not run out
abbrev pub Unreported : Result (Option (List ℕ)) Refusal → Unanswered → Type 0
Unreported o NoMemory = Unit {0}
Unreported o (Refused e) = o ≡ Err e
Unreported o NoBoxes = o ≡ Ok None

-- An answer agrees with its outcome, so far as memory does not run out.
abbrev pub Answered : {Z : Type 0} → Result (Option (List ℕ)) Refusal → Result (String Z) Unanswered → Type 0
Answered o (Ok s) = o ≡ Ok (Some (string_bytes s))
Answered o (Err e) = Unreported o e
