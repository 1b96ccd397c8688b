-- Every size of the format, as a function of the number width: 4 bytes in edition 1.1, 8 in edition 2.0.
use Rattle.std.specs.Prelude.{ℕ, ◌+◌, ◌*◌}
use Rattle.kinds.specs.declared.kind.Kind.{Kind}
use Rattle.kinds.specs.declared.kind.Kind.TheVariants.{Points, Arcs, Nodes, Polygons}
use Rattle.kinds.specs.declared.sizes.Sizes.{Sizes}

abbrev pub header_size : ℕ → ℕ
header_size w = 40 + 2 * w

-- the two polygons of an arc, in a POL
abbrev pub sides_size : ℕ → ℕ
sides_size w = 2 * w

abbrev pub record_size : Kind → ℕ → ℕ
record_size Points w = 16
record_size Arcs w = 40 + 4 * w
record_size Nodes w = 4 + w
record_size Polygons w = 48 + 4 * w

-- an entry of an element's list: a vertex, an arc number, a VFG byte and an arc number. A point has no list.
abbrev pub entry_size : Kind → ℕ → ℕ
entry_size Points w = 0
entry_size Arcs w = 16
entry_size Nodes w = w
entry_size Polygons w = 1 + w

abbrev pub sizes : ℕ → Sizes
sizes w = record {
  number = w;
  header = header_size w;
  sides = sides_size w;
  point = record_size Points w;
  arc = record_size Arcs w;
  node = record_size Nodes w;
  polygon = record_size Polygons w;
  vertex = entry_size Arcs w;
  entry = entry_size Polygons w;
}
