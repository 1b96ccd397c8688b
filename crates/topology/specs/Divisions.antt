-- Division: an arc between the starts of two sides of one ring makes two rings of it.
use Rattle.std.specs.Prelude.{◌≡◌, ℕ, suc, ◌+◌, ◌-◌, ◌<◌, Bool, false, cond, ◌&&◌, List, [], ◌∷◌, ◌++◌, map, length, Ok, Err, Result, ◌==◌, nat_le, nat_lt, slice_index_or, min, fold}
use Rattle.std.specs.List.{range_with_len}
use Rattle.refusal.specs.declared.Refusal.{Refusal}
use Rattle.refusal.specs.declared.Refusal.TheVariants.{NoSuchElement, SidesInTwoRings, UnfitRun, RunEndsElsewhere, NoRoom}
use Rattle.rings.specs.Circles.{one_if, walk, ring, meets}
use Rattle.rings.specs.Law.{turn}
use Rattle.rings.specs.LetIn.{let_in, divide_after}
use Rattle.topology.specs.declared.side.Side.{Side}
use Rattle.topology.specs.declared.vertex.Vertex.{Vertex}
use Rattle.topology.specs.declared.arc_side.ArcSide.{ArcSide}
use Rattle.topology.specs.declared.arc_side.ArcSide.TheVariants.{Unturned, Turned}
use Rattle.topology.specs.Rows.{no_side, no_vertex, next_of, node_of, polygon_of, low_of, same_place, start_of}
use Rattle.topology.specs.States.{State}
use Rattle.topology.specs.Questions.{rings_of}
use Rattle.topology.specs.Islands.{all_good, arc_room, vertex_room}

-- the lowest of a number and those of a list
abbrev pub lowest_of : ℕ → List ℕ → ℕ
lowest_of x ys = fold min x ys

-- the lowest side of the ring of s
abbrev pub ring_low : List Side → ℕ → ℕ
ring_low us s = lowest_of s (walk (next_of us) (length us) s s)

-- a side that is told its polygon and the lowest side of its ring
abbrev pub told_side : ℕ → ℕ → Side → Side
told_side polygon low s = record { node = s.node; row = s.row; polygon = polygon; next = s.next; low = low }

-- side k, told so if it stands in the ring of s
abbrev pub told_at : List Side → ℕ → ℕ → ℕ → ℕ → Side
told_at us s polygon low k = cond (meets (next_of us) (length us) s k) (told_side polygon low (slice_index_or us k no_side)) (slice_index_or us k no_side)

-- each side of the ring of s is told the polygon and the lowest side of the ring; all others stay as they were
abbrev pub ring_told : List Side → ℕ → ℕ → List Side
ring_told us s polygon = map (told_at us s polygon (ring_low us s)) (range_with_len 0 (length us))

-- what came before the first side leads to the new unturned side n, and what came before the second to the new turned side n + 1
abbrev pub relinked : ℕ → ℕ → ℕ → Side → Side
relinked n first second s = record {
  node = s.node;
  row = s.row;
  polygon = s.polygon;
  next = cond (s.next == first) n (cond (s.next == second) (n + 1) s.next);
  low = s.low;
}

-- the new unturned side begins where the first side does, and leads on to the second
abbrev pub unturned_to : List Side → ℕ → ℕ → ℕ → Side
unturned_to us first second row = record { node = node_of us first; row = row; polygon = polygon_of us first; next = second; low = low_of us first }

-- the new turned side begins where the second side does, and leads on to the first; where both are one side, it is a ring alone
abbrev pub turned_to : List Side → ℕ → ℕ → ℕ → Side
turned_to us first second row = record {
  node = node_of us second;
  row = row;
  polygon = polygon_of us first;
  next = cond (first == second) (length us + 1) first;
  low = low_of us first;
}

-- the sides and two more, linked; the two new rings are still to be told their polygons and their lowest sides
abbrev pub linked : List Side → ℕ → ℕ → ℕ → ℕ → List Side
linked us first second row last = map (relinked (length us) first second) us ++ unturned_to us first second row ∷ turned_to us first second last ∷ []

-- the ring of the named new side gets the new polygon, and that of the other keeps the old one
abbrev pub unturned_polygon : ArcSide → ℕ → ℕ → ℕ
unturned_polygon Unturned new old = new
unturned_polygon Turned new old = old

abbrev pub turned_polygon : ArcSide → ℕ → ℕ → ℕ
turned_polygon Unturned new old = old
turned_polygon Turned new old = new

-- the sides after a division, where the new arc's vertices are those from one row to another
abbrev pub divided_sides : List Side → ℕ → ℕ → ℕ → ℕ → ArcSide → ℕ → List Side
divided_sides us first second row last named new =
    ring_told
    (ring_told (linked us first second row last) (length us) (unturned_polygon named new (polygon_of us first)))
    (length us + 1) (turned_polygon named new (polygon_of us first))

-- at least two vertices, all finite
abbrev pub fit_run : List Vertex → Bool
fit_run run = nat_le 2 (length run) && all_good run

-- the run leads from the start of the first side to that of the second
abbrev pub leads : State → ℕ → ℕ → List Vertex → Bool
leads m first second run =
    same_place (slice_index_or run 0 no_vertex) (start_of m.sides m.vertices first)
    && same_place (slice_index_or run (length run - 1) no_vertex) (start_of m.sides m.vertices second)

abbrev pub divided : State → ℕ → ℕ → List Vertex → ArcSide → State
divided m first second run named = record {
  hand = m.hand;
  sides = divided_sides m.sides first second (length m.vertices) (length m.vertices + (length run - 1)) named m.polygons;
  vertices = m.vertices ++ run;
  nodes = m.nodes;
  polygons = m.polygons + 1;
  side_rows = m.side_rows;
  vertex_rows = m.vertex_rows;
}

-- Divide (first side, second side, run, named new side): 20 for no such side, then 27 when the two stand in two rings, then 21 for under two vertices
-- or one not finite, then 28 when the run's ends lie elsewhere than those starts, then 22 for no room.
abbrev pub divide_outcome : State → ℕ → ℕ → List Vertex → ArcSide → Result State Refusal
divide_outcome m first second run named =
    cond (nat_lt first (length m.sides) && nat_lt second (length m.sides))
    (cond (meets (next_of m.sides) (length m.sides) first second)
    (cond (fit_run run)
    (cond (leads m first second run)
    (cond (arc_room m && vertex_room m (length run)) (Ok (divided m first second run named)) (Err NoRoom))
    (Err RunEndsElsewhere))
    (Err UnfitRun))
    (Err SidesInTwoRings))
    (Err NoSuchElement)

-- The ring of the two sides becomes two: there is one ring more; the two sides of the new arc stand in two rings; each old side stands in just one of
-- these if it stood in the ring of the two, and else in none; and all other rings stay as they were. The new unturned side leads on to the second
-- side and on up to what came before the first; the new turned one to the first and on up to what came before the second, and where both are
-- one side it is alone. In the turns each new side stands before the side whose start it has. There is one polygon more, the ring of the named
-- new side stands under it and that of the other under the old one; a ring has one polygon, so this tells it of all their sides.
pub record RingDivided (was is : State) (first second : ℕ) (named : ArcSide) : Type 0 where
  pub one_more : length (rings_of is) ≡ length (rings_of was) + 1
  pub apart : meets (next_of is.sides) (length is.sides) (length was.sides) (length was.sides + 1) ≡ false
  pub just_one : (k : ℕ) → k < length was.sides →
      one_if (meets (next_of is.sides) (length is.sides) (length was.sides) k)
      + one_if (meets (next_of is.sides) (length is.sides) (length was.sides + 1) k)
      ≡ one_if (meets (next_of was.sides) (length was.sides) first k)
  pub others_stay : (k : ℕ) → k < length was.sides → meets (next_of was.sides) (length was.sides) first k ≡ false →
      ring (next_of is.sides) (length is.sides) k ≡ ring (next_of was.sides) (length was.sides) k
  pub unturned_ring : ring (next_of is.sides) (length is.sides) (length was.sides)
      ≡ length was.sides ∷ second ∷ walk (next_of was.sides) (length was.sides) first second
  pub turned_ring : ring (next_of is.sides) (length is.sides) (suc (length was.sides))
      ≡ suc (length was.sides) ∷ cond (first == second) [] (first ∷ walk (next_of was.sides) (length was.sides) second first)
  pub turns : (k : ℕ) → k < length was.sides →
      ring (turn (next_of is.sides)) (length is.sides) k
      ≡ let_in (divide_after (turn (next_of was.sides)) (length was.sides) first second) (ring (turn (next_of was.sides)) (length was.sides) k)
  pub one_more_polygon : is.polygons ≡ was.polygons + 1
  pub unturned_under : polygon_of is.sides (length was.sides) ≡ unturned_polygon named was.polygons (polygon_of was.sides first)
  pub turned_under : polygon_of is.sides (suc (length was.sides)) ≡ turned_polygon named was.polygons (polygon_of was.sides first)
  pub others_under : (k : ℕ) → k < length was.sides → meets (next_of was.sides) (length was.sides) first k ≡ false →
      polygon_of is.sides k ≡ polygon_of was.sides k
