-- The law of a map: us are its sides, n of them, and vs its vertices in use.
use Rattle.std.specs.Prelude.{◌≡◌, ℕ, ◌+◌, ◌<◌, ◌≤◌, true, ◌&&◌, List, length, ◌==◌, nat_lt, slice_index_or}
use Rattle.rings.specs.Circles.{one_if, occ, names, rings}
use Rattle.rings.specs.Law.{turn, Ringed, Closes, Along, Noded}
use Rattle.topology.specs.declared.side.Side.{Side}
use Rattle.topology.specs.declared.vertex.Vertex.{Vertex}
use Rattle.topology.specs.Rows.{no_vertex, next_of, node_of, polygon_of, row_of, low_of, good, same_place, start_of}

-- every side stands in exactly one ring, once
abbrev pub InRings : List Side → ℕ → Type 0
InRings us n = Ringed (next_of us) n

-- the turns about the nodes part the sides too
abbrev pub InTurns : List Side → ℕ → Type 0
InTurns us n = Ringed (turn (next_of us)) n

-- every ring closes: a side ends, where its opposite begins, at the node where its next begins
abbrev pub RingsClose : List Side → ℕ → Type 0
RingsClose us n = Closes (next_of us) (node_of us) n

-- a ring stands under one polygon
abbrev pub OnePolygon : List Side → ℕ → Type 0
OnePolygon us n = Along (next_of us) (polygon_of us) n

-- each node has one turn, so the turn meets every side that begins there, and every node has an end
abbrev pub OneTurn : List Side → ℕ → ℕ → Type 0
OneTurn us n nodes = Noded (next_of us) (node_of us) n nodes

-- each side's polygon is one of the map's
abbrev pub PolygonsKnown : List Side → ℕ → ℕ → Type 0
PolygonsKnown us n polygons = (s : ℕ) → s < n → polygon_of us s < polygons

-- every polygon except 0 has a ring
abbrev pub PolygonsHaveRings : List Side → ℕ → ℕ → Type 0
PolygonsHaveRings us n polygons = (p : ℕ) → 0 < p → p < polygons → 0 < occ p (names (polygon_of us) (rings (next_of us) n))

-- arc ends at one node share a place
abbrev pub EndsTogether : List Side → List Vertex → ℕ → Type 0
EndsTogether us vs n = (s t : ℕ) → ((s < n) × (t < n) × (node_of us s ≡ node_of us t)) → same_place (start_of us vs s) (start_of us vs t) ≡ true

-- every vertex in use is finite
abbrev pub AllFinite : List Vertex → Type 0
AllFinite vs = (i : ℕ) → i < length vs → good (slice_index_or vs i no_vertex) ≡ true

-- every arc has at least two vertices, all in use
abbrev pub RunsStand : List Side → List Vertex → ℕ → Type 0
RunsStand us vs n = (a : ℕ) → a + a + 1 < n → (row_of us (a + a) < row_of us (a + a + 1)) × (row_of us (a + a + 1) < length vs)

-- the rows tell the lowest side of each ring: one side along the ring, at most each of its sides, and named by that one ring
abbrev pub LowAlong : List Side → ℕ → Type 0
LowAlong us n = Along (next_of us) (low_of us) n

abbrev pub LowBelow : List Side → ℕ → Type 0
LowBelow us n = (s : ℕ) → s < n → low_of us s ≤ s

abbrev pub LowNames : List Side → ℕ → Type 0
LowNames us n = (v : ℕ) → occ v (names (low_of us) (rings (next_of us) n)) ≡ one_if (nat_lt v n && low_of us v == v)
