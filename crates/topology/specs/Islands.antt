-- Island: a closed arc at a node of its own, with a polygon on its unturned side.
use Rattle.std.specs.Prelude.{◌≡◌, ℕ, suc, ◌<◌, ◌+◌, ◌-◌, Bool, cond, ◌&&◌, List, [], ◌∷◌, ◌++◌, length, Ok, Err, Result, nat_le, nat_lt, slice_index_or}
use Rattle.std.specs.List.{list_all}
use Rattle.refusal.specs.declared.Refusal.{Refusal}
use Rattle.refusal.specs.declared.Refusal.TheVariants.{NoSuchElement, UnfitRun, NoRoom}
use Rattle.rings.specs.Circles.{ring}
use Rattle.rings.specs.Law.{turn}
use Rattle.topology.specs.declared.side.Side.{Side}
use Rattle.topology.specs.declared.vertex.Vertex.{Vertex}
use Rattle.topology.specs.Rows.{no_vertex, next_of, polygon_of, good, same_place}
use Rattle.topology.specs.States.{State}
use Rattle.topology.specs.Questions.{rings_of}

-- each vertex of a run is finite
abbrev pub all_good : List Vertex → Bool
all_good run = list_all good run

-- a run that makes a closed arc: at least four vertices, its ends at one place, all finite
abbrev pub closed_run : List Vertex → Bool
closed_run run = nat_le 4 (length run) && same_place (slice_index_or run 0 no_vertex) (slice_index_or run (length run - 1) no_vertex) && all_good run

-- there is room for one arc more: in the table, and below 16,384 arcs
abbrev pub arc_room : State → Bool
arc_room m = nat_le (length m.sides + 2) m.side_rows && nat_le (length m.sides + 2) 32768

-- there is room for k vertices more
abbrev pub vertex_room : State → ℕ → Bool
vertex_room m k = nat_le (length m.vertices + k) m.vertex_rows && nat_le (length m.vertices + k) 1048576

-- the unturned side, under the new polygon, and the turned one; each is a ring alone, and both begin at the new node
abbrev pub unturned : ℕ → ℕ → ℕ → ℕ → Side
unturned n node row polygon = record { node = node; row = row; polygon = polygon; next = n; low = n }

abbrev pub turned : ℕ → ℕ → ℕ → ℕ → Side
turned n node row polygon = record { node = node; row = row; polygon = polygon; next = n + 1; low = n + 1 }

abbrev pub island : State → ℕ → List Vertex → State
island m p run = record {
  hand = m.hand;
  sides = m.sides ++ unturned (length m.sides) m.nodes (length m.vertices) m.polygons
      ∷ turned (length m.sides) m.nodes (length m.vertices + (length run - 1)) p ∷ [];
  vertices = m.vertices ++ run;
  nodes = m.nodes + 1;
  polygons = m.polygons + 1;
  side_rows = m.side_rows;
  vertex_rows = m.vertex_rows;
}

-- Island (polygon, run): 20 for no such polygon, then 21 for a run that makes no closed arc, then 22 for no room.
abbrev pub island_outcome : State → ℕ → List Vertex → Result State Refusal
island_outcome m p run =
    cond (nat_lt p m.polygons)
    (cond (closed_run run) (cond (arc_room m && vertex_room m (length run)) (Ok (island m p run)) (Err NoRoom)) (Err UnfitRun))
    (Err NoSuchElement)

-- There are two rings more, each of one side, and all other rings stand as they did; so do the turns, and the two sides stand in one turn of
-- their own. There is one polygon more: the unturned side stands under it, the turned one under polygon p, and all others under their own.
pub record IslandAdded (was is : State) (p : ℕ) : Type 0 where
  pub two_more : length (rings_of is) ≡ length (rings_of was) + 2
  pub unturned_ring : ring (next_of is.sides) (length is.sides) (length was.sides) ≡ length was.sides ∷ []
  pub turned_ring : ring (next_of is.sides) (length is.sides) (suc (length was.sides)) ≡ suc (length was.sides) ∷ []
  pub rings : (k : ℕ) → k < length was.sides → ring (next_of is.sides) (length is.sides) k ≡ ring (next_of was.sides) (length was.sides) k
  pub own_turn : ring (turn (next_of is.sides)) (length is.sides) (length was.sides) ≡ length was.sides ∷ suc (length was.sides) ∷ []
  pub turns : (k : ℕ) → k < length was.sides →
      ring (turn (next_of is.sides)) (length is.sides) k ≡ ring (turn (next_of was.sides)) (length was.sides) k
  pub one_more_polygon : is.polygons ≡ was.polygons + 1
  pub unturned_under : polygon_of is.sides (length was.sides) ≡ was.polygons
  pub turned_under : polygon_of is.sides (suc (length was.sides)) ≡ p
  pub others_under : (k : ℕ) → k < length was.sides → polygon_of is.sides k ≡ polygon_of was.sides k
