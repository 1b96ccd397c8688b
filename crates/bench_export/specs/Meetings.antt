-- How many arcs of a file meet a window, for a caller in another language.
use Rattle.std.specs.Prelude.{ℕ, cond, List, Ok, Err, Result}
use Rattle.refusal.specs.declared.Refusal.{Refusal}
use Rattle.boxes.specs.declared.edges.Edges.{Edges}
use Rattle.kinds.specs.declared.kind.Kind.{Kind}
use Rattle.kinds.specs.declared.kind.Kind.TheVariants.{Points, Arcs, Nodes, Polygons}
use Rattle.boxes.specs.Boxes.{edges_at, fair_edges}
use Rattle.records.specs.declared.shape.Shape.{Shape}
use Rattle.views.specs.Shapes.{view_outcome}
use Rattle.records.specs.Boxing.{box_outcome}
use Rattle.tables.specs.Windows.{met, tally}

-- the largest number of 64 bits stands for a refusal
abbrev pub refused_count : ℕ
refused_count = 18446744073709551615

-- the arcs of a file whose records have a place
abbrev pub among : List ℕ → Shape → Edges → ℕ
among bs s e = cond (fair_edges e) (tally (λ k. met (box_outcome Arcs (λ r. edges_at r 0) bs s k) e) s.count) refused_count

abbrev by_view : List ℕ → Edges → Result (Kind × Shape) Refusal → ℕ
by_view bs e (Err r) = refused_count
by_view bs e (Ok (Points, s)) = refused_count
by_view bs e (Ok (Arcs, s)) = among bs s e
by_view bs e (Ok (Nodes, s)) = refused_count
by_view bs e (Ok (Polygons, s)) = refused_count

-- an ARC file (the letter A) and a window
abbrev pub arcs_meeting : List ℕ → Edges → ℕ
arcs_meeting bs e = by_view bs e (view_outcome bs 65 0)
