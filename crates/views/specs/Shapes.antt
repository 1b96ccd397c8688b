-- What making a view answers.
use Rattle.std.specs.Prelude.{ℕ, ◌+◌, ◌*◌, cond, List, length, Ok, Err, Result, nat_le}
use Rattle.refusal.specs.declared.Refusal.{Refusal}
use Rattle.refusal.specs.declared.Refusal.TheVariants.{PastEnd}
use Rattle.kinds.specs.declared.kind.Kind.{Kind}
use Rattle.kinds.specs.declared.kind.Kind.TheVariants.{Points, Arcs, Nodes, Polygons}
use Rattle.headers.specs.declared.header.Header.{Header}
use Rattle.kinds.specs.Sizes.{header_size, sides_size, record_size}
use Rattle.layout.specs.Versions.{width}
use Rattle.kinds.specs.Letters.{kind_by_letter}
use Rattle.headers.specs.Heads.{header_outcome}
use Rattle.records.specs.declared.shape.Shape.{Shape}

-- where the records begin: after the header, and in a POL after the sides of the arcs
abbrev pub first_place : Kind → ℕ → ℕ → ℕ
first_place Points w arcs = header_size w
first_place Arcs w arcs = header_size w
first_place Nodes w arcs = header_size w
first_place Polygons w arcs = header_size w + arcs * sides_size w

abbrev pub shape_of : Header → ℕ → Shape
shape_of h arcs = record { version = h.version; first = first_place h.kind (width h.version) arcs; count = h.count }

-- where the records end
abbrev pub records_end : Kind → Shape → ℕ
records_end kind s = s.first + s.count * record_size kind (width s.version)

-- the kind and the place of the records of a file of so many bytes, by its header
abbrev pub placed_by : Header → ℕ → ℕ → Result (Kind × Shape) Refusal
placed_by h arcs size = cond (nat_le (records_end h.kind (shape_of h arcs)) size) (Ok (h.kind, shape_of h arcs)) (Err PastEnd)

abbrev by_header : List ℕ → ℕ → Result Header Refusal → Result (Kind × Shape) Refusal
by_header bs arcs (Ok h) = placed_by h arcs (length bs)
by_header bs arcs (Err e) = Err e

-- A view is made: 1 for the header, 4 for a kind or a letter that does not fit, 5 for the version, then 1 when the records pass the end.
abbrev pub view_outcome : List ℕ → ℕ → ℕ → Result (Kind × Shape) Refusal
view_outcome bs letter arcs = by_header bs arcs (header_outcome bs (kind_by_letter letter))
