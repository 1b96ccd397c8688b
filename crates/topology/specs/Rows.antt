-- The rows of a map: sides and vertices.
use Rattle.std.specs.Prelude.{ℕ, Bool, ◌&&◌, List, ◌==◌, slice_index_or}
use Rattle.std.specs.Float.Ieee.{eq}
use Rattle.std.specs.Float.{float_is_finite, nan}
use Rattle.topology.specs.declared.side.Side.{Side}
use Rattle.topology.specs.declared.vertex.Vertex.{Vertex}

-- what stands past the end of a table
abbrev pub no_side : Side
no_side = record { node = 0; row = 0; polygon = 0; next = 0; low = 0 }

abbrev pub no_vertex : Vertex
no_vertex = record { x = nan; y = nan }

-- the side after s in its ring
abbrev pub next_of : List Side → ℕ → ℕ
next_of us s = (slice_index_or us s no_side).next

-- the node where s begins
abbrev pub node_of : List Side → ℕ → ℕ
node_of us s = (slice_index_or us s no_side).node

abbrev pub polygon_of : List Side → ℕ → ℕ
polygon_of us s = (slice_index_or us s no_side).polygon

-- the row of the vertex where s begins
abbrev pub row_of : List Side → ℕ → ℕ
row_of us s = (slice_index_or us s no_side).row

-- the lowest side of the ring of s, as the row tells it
abbrev pub low_of : List Side → ℕ → ℕ
low_of us s = (slice_index_or us s no_side).low

-- both coordinates are finite
abbrev pub good : Vertex → Bool
good v = float_is_finite v.x && float_is_finite v.y

-- two vertices share a place when both doubles compare equal
abbrev pub same_place : Vertex → Vertex → Bool
same_place v w = eq v.x w.x && eq v.y w.y

-- the vertex where s begins
abbrev pub start_of : List Side → List Vertex → ℕ → Vertex
start_of us vs s = slice_index_or vs (row_of us s) no_vertex

-- whether s is the lowest side of its ring
abbrev pub tells : List Side → ℕ → Bool
tells us s = low_of us s == s
