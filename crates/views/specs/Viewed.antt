-- What a view shows.
use Rattle.std.specs.Prelude.{◌≡◌, ℕ, ◌+◌, ◌*◌, ◌<◌, List, Ok, Err, Result}
use Rattle.refusal.specs.declared.Refusal.{Refusal}
use Rattle.kinds.specs.declared.kind.Kind.{Kind}
use Rattle.kinds.specs.declared.kind.Kind.TheVariants.{Points, Arcs, Nodes, Polygons}
use Rattle.records.specs.declared.shape.Shape.{Shape}
use Rattle.views.specs.declared.view.View.{View}
use Rattle.views.specs.declared.view.View.TheVariants.{OfPoints, OfArcs, OfNodes, OfPolygons}
use Rattle.records.specs.Parts.{record_outcome}
use Rattle.kinds.specs.Sizes.{record_size}
use Rattle.layout.specs.Versions.{width}

abbrev pub file_seen : View → List ℕ
file_seen (OfPoints t) = t.file.now
file_seen (OfArcs t) = t.file.now
file_seen (OfNodes t) = t.file.now
file_seen (OfPolygons t) = t.file.now

abbrev pub kind_seen : View → Kind
kind_seen (OfPoints t) = Points
kind_seen (OfArcs t) = Arcs
kind_seen (OfNodes t) = Nodes
kind_seen (OfPolygons t) = Polygons

abbrev pub shape_seen : View → Shape
shape_seen (OfPoints t) = t.shape
shape_seen (OfArcs t) = t.shape
shape_seen (OfNodes t) = t.shape
shape_seen (OfPolygons t) = t.shape

-- every record is a part of the file
abbrev pub Whole : Kind → List ℕ → Shape → Type 0
Whole kind bs s = (k : ℕ) → k < s.count → record_outcome kind bs s k ≡ Ok (s.first + k * record_size kind (width s.version), record_size kind (width s.version))

-- Making a view of a file agrees with its outcome, and every record of the view is a part of the file.
abbrev pub Viewed : List ℕ → Result (Kind × Shape) Refusal → Result View Refusal → Type 0
Viewed bs o (Ok v) = (file_seen v ≡ bs) × (o ≡ Ok (kind_seen v, shape_seen v)) × Whole (kind_seen v) bs (shape_seen v)
Viewed bs o (Err e) = o ≡ Err e
