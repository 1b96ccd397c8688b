-- Lift: a closed arc goes, with its node and both its rings.
use Rattle.std.specs.Prelude.{◌≡◌, ℕ, zero, suc, ◌+◌, ◌-◌, ◌/◌, ◌<◌, Bool, true, false, cond, not, ◌&&◌, ◌||◌, List, map, length, take, Ok, Err, Result, ◌==◌, nat_lt, slice_index_or, slice_set, min, max}
use Rattle.refusal.specs.declared.Refusal.{Refusal}
use Rattle.refusal.specs.declared.Refusal.TheVariants.{NoSuchElement, ArcNotClosedAlone, PolygonLosesLastRing}
use Rattle.rings.specs.Circles.{ring, one_if}
use Rattle.rings.specs.Law.{turn}
use Rattle.rings.specs.Edits.{exchanged}
use Rattle.topology.specs.declared.side.Side.{Side}
use Rattle.topology.specs.declared.renumbering.Renumbering.{Renumbering}
use Rattle.topology.specs.Rows.{no_side, next_of, node_of, polygon_of, low_of}
use Rattle.topology.specs.States.{State}
use Rattle.topology.specs.Questions.{arc_count, rings_of}
use Rattle.topology.specs.Renumbered.{renumbered}

-- no side below k, but those of arc a, begins where arc a begins
abbrev pub no_other_begins : List Side → ℕ → ℕ → Bool
no_other_begins us a zero = true
no_other_begins us a (suc k) = no_other_begins us a k && (k / 2 == a || not (node_of us k == node_of us (a + a)))

-- arc a is closed at a node of its own: it ends where it begins, and no other side begins there
abbrev pub closed_alone : List Side → ℕ → Bool
closed_alone us a = node_of us (a + a) == node_of us (a + a + 1) && no_other_begins us a (length us)

-- some side below k, of another arc than a, stands under p or q
abbrev pub other_under : List Side → ℕ → ℕ → ℕ → ℕ → Bool
other_under us a p q zero = false
other_under us a p q (suc k) = other_under us a p q k || (not (k / 2 == a) && (polygon_of us k == p || polygon_of us k == q))

-- the polygons of the two sides of arc a merge into the lower number; that is polygon 0, or another ring is left to it
abbrev pub ring_left : List Side → ℕ → Bool
ring_left us a =
    (min (polygon_of us (a + a)) (polygon_of us (a + a + 1)) == 0)
    || other_under us a (polygon_of us (a + a)) (polygon_of us (a + a + 1)) (length us)

-- the last of the polygons where one goes; where none goes, the gap is its own filling
abbrev pub last_polygon : List Side → ℕ → ℕ → ℕ
last_polygon us polygons a =
    cond (polygon_of us (a + a) == polygon_of us (a + a + 1)) (polygon_of us (a + a)) (polygons - 1)

-- the numbers that change where arc a goes, with its node and, where its sides have two polygons, the higher of them
abbrev pub lift_numbers : List Side → ℕ → ℕ → ℕ → Renumbering
lift_numbers us nodes polygons a = record {
  side = a + a;
  last_side = length us - 2;
  node = node_of us (a + a);
  last_node = nodes - 1;
  polygon = max (polygon_of us (a + a)) (polygon_of us (a + a + 1));
  into = min (polygon_of us (a + a)) (polygon_of us (a + a + 1));
  last_polygon = last_polygon us polygons a;
  low_unturned = low_of us (length us - 2);
  low_turned = low_of us (length us - 1);
}

-- the rows without those of arc a: the last arc's take their place
abbrev pub rows_without : List Side → ℕ → List Side
rows_without us a = take (length us - 2) (slice_set (slice_set us (a + a) (slice_index_or us (length us - 2) no_side)) (a + a + 1) (slice_index_or us (length us - 1) no_side))

abbrev pub lifted_sides : List Side → ℕ → ℕ → ℕ → List Side
lifted_sides us nodes polygons a = map (renumbered (lift_numbers us nodes polygons a)) (rows_without us a)

-- how many polygons are left
abbrev pub polygons_left : List Side → ℕ → ℕ → ℕ
polygons_left us polygons a = cond (polygon_of us (a + a) == polygon_of us (a + a + 1)) polygons (polygons - 1)

abbrev pub lifted : State → ℕ → State
lifted m a = record {
  hand = m.hand;
  sides = lifted_sides m.sides m.nodes m.polygons a;
  vertices = m.vertices;
  nodes = m.nodes - 1;
  polygons = polygons_left m.sides m.polygons a;
  side_rows = m.side_rows;
  vertex_rows = m.vertex_rows;
}

-- Lift (arc): 20 for no such arc, then 23 when it is not closed at a node of its own, then 24 when the polygon that is left is not 0 and would have no ring.
abbrev pub lift_outcome : State → ℕ → Result State Refusal
lift_outcome m a =
    cond (nat_lt a (arc_count m))
    (cond (closed_alone m.sides a) (cond (ring_left m.sides a) (Ok (lifted m a)) (Err PolygonLosesLastRing)) (Err ArcNotClosedAlone))
    (Err NoSuchElement)

-- the number that side s had before arc a went, and the last arc took its number
abbrev pub number_before : State → ℕ → ℕ → ℕ
number_before was a s = exchanged a (arc_count was - 1) s

-- the number that polygon x has once polygons p and q, of so many, are one: both have the lower, and where they are two, the last polygon takes
-- the number of the higher
abbrev pub merged_number : ℕ → ℕ → ℕ → ℕ → ℕ
merged_number p q polygons x = cond (x == p || x == q) (min p q) (cond (x == polygons - 1 && not (p == q)) (max p q) x)

-- there are two rings fewer, those of the arc's sides, and all others stand as they did; so do the turns; the two polygons are one, and where they
-- were two, there is one fewer
pub record RingsLifted (was is : State) (a : ℕ) : Type 0 where
  pub fewer : length (rings_of is) + 2 ≡ length (rings_of was)
  pub rings : (k : ℕ) → k < length is.sides →
      ring (next_of is.sides) (length is.sides) k ≡ map (number_before was a) (ring (next_of was.sides) (length was.sides) (number_before was a k))
  pub turns : (k : ℕ) → k < length is.sides →
      ring (turn (next_of is.sides)) (length is.sides) k ≡ map (number_before was a) (ring (turn (next_of was.sides)) (length was.sides) (number_before was a k))
  pub polygon_gone : is.polygons + one_if (not (polygon_of was.sides (a + a) == polygon_of was.sides (a + a + 1))) ≡ was.polygons
  pub polygons : (k : ℕ) → k < length is.sides →
      polygon_of is.sides k
      ≡ merged_number (polygon_of was.sides (a + a)) (polygon_of was.sides (a + a + 1)) was.polygons (polygon_of was.sides (number_before was a k))
