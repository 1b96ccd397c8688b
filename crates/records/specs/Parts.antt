-- Where records and their lists lie. A part of a file is told by its place and its length; sums and products are exact.
use Rattle.std.specs.Prelude.{ℕ, ◌+◌, ◌*◌, cond, List, Ok, Err, Result, nat_lt}
use Rattle.refusal.specs.declared.Refusal.{Refusal}
use Rattle.refusal.specs.declared.Refusal.TheVariants.{NoSuchElement}
use Rattle.kinds.specs.declared.kind.Kind.{Kind}
use Rattle.kinds.specs.declared.kind.Kind.TheVariants.{Points, Arcs, Nodes, Polygons}
use Rattle.editions.specs.Numbers.{number_at}
use Rattle.kinds.specs.Sizes.{record_size, entry_size}
use Rattle.layout.specs.Versions.{width}
use Rattle.tables.specs.Extents.{part_outcome}
use Rattle.records.specs.declared.shape.Shape.{Shape}

-- Record k: 20 when there is none.
abbrev pub record_outcome : Kind → List ℕ → Shape → ℕ → Result (ℕ × ℕ) Refusal
record_outcome kind bs s k =
    cond (nat_lt k s.count)
    (part_outcome bs (s.first + k * record_size kind (width s.version)) (record_size kind (width s.version)))
    (Err NoSuchElement)

-- how many entries the list of the record at a place has, and where they begin
abbrev pub entries : Kind → ℕ → List ℕ → ℕ → ℕ
entries Points w bs at = 0
entries Arcs w bs at = number_at w bs (at + 32)
entries Nodes w bs at = number_at 2 bs at
entries Polygons w bs at = number_at w bs (at + 32)

abbrev pub list_start : Kind → ℕ → List ℕ → ℕ → ℕ
list_start Points w bs at = 0
list_start Arcs w bs at = number_at w bs (at + (32 + w))
list_start Nodes w bs at = number_at w bs (at + 4)
list_start Polygons w bs at = number_at w bs (at + (32 + 3 * w))

abbrev list_from : Kind → ℕ → List ℕ → Result (ℕ × ℕ) Refusal → Result (ℕ × ℕ) Refusal
list_from kind w bs (Ok (at, n)) = part_outcome bs (list_start kind w bs at) (entries kind w bs at * entry_size kind w)
list_from kind w bs (Err e) = Err e

-- The list of record k: 20 when there is no such record, then 1 when the list passes the end. A point's list is empty, at 0.
abbrev pub list_outcome : Kind → List ℕ → Shape → ℕ → Result (ℕ × ℕ) Refusal
list_outcome kind bs s k = list_from kind (width s.version) bs (record_outcome kind bs s k)
