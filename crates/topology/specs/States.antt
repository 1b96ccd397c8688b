-- What a map means: its hand, its rows in use, its counts, and the room that its tables have.
use Rattle.std.specs.Prelude.{ℕ, List, [], length, take}
use Rattle.topology.specs.declared.side.Side.{Side}
use Rattle.topology.specs.declared.vertex.Vertex.{Vertex}
use Rattle.topology.specs.declared.hand.Hand.{Hand}
use Rattle.topology.specs.declared.map.Map.{Map}

pub record State : Type 0 where
  pub hand : Hand
  pub sides : List Side
  pub vertices : List Vertex
  pub nodes : ℕ
  pub polygons : ℕ
  -- how many rows the two tables have
  pub side_rows : ℕ
  pub vertex_rows : ℕ

abbrev pub state_of : Map → State
state_of m = record {
  hand = m.hand;
  sides = take m.sides.used m.sides.rows.now;
  vertices = take m.vertices.used m.vertices.rows.now;
  nodes = m.nodes;
  polygons = m.polygons;
  side_rows = length m.sides.rows.now;
  vertex_rows = length m.vertices.rows.now;
}

-- no arcs, and one polygon, 0
abbrev pub blank : Hand → ℕ → ℕ → State
blank hand side_rows vertex_rows = record { hand = hand; sides = []; vertices = []; nodes = 0; polygons = 1; side_rows = side_rows; vertex_rows = vertex_rows }
