-- The whole law of a map, over its sides us, n of them, and its vertices vs.
use Rattle.std.specs.Prelude.{◌≡◌, ℕ, ◌+◌, ◌%◌, ◌<◌, ◌≤◌, List}
use Rattle.topology.specs.declared.side.Side.{Side}
use Rattle.topology.specs.declared.vertex.Vertex.{Vertex}
use Rattle.topology.specs.MapLaw.{InRings, InTurns, RingsClose, OnePolygon, OneTurn, PolygonsKnown, PolygonsHaveRings, EndsTogether, AllFinite, RunsStand, LowAlong, LowBelow, LowNames}

pub record Lawful (us : List Side) (vs : List Vertex) (n nodes polygons : ℕ) : Type 0 where
  pub paired : n % 2 ≡ 0
  pub polygon_zero : 0 < polygons
  pub polygons_few : polygons ≤ n + 1
  pub nodes_few : nodes ≤ n
  pub in_rings : InRings us n
  pub in_turns : InTurns us n
  pub rings_close : RingsClose us n
  pub one_polygon : OnePolygon us n
  pub one_turn : OneTurn us n nodes
  pub polygons_known : PolygonsKnown us n polygons
  pub polygons_have_rings : PolygonsHaveRings us n polygons
  pub ends_together : EndsTogether us vs n
  pub all_finite : AllFinite vs
  pub runs_stand : RunsStand us vs n
  pub low_along : LowAlong us n
  pub low_below : LowBelow us n
  pub low_names : LowNames us n
