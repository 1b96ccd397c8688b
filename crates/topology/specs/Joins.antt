-- Join: two arcs that meet at a node where no other ends become one.
use Rattle.std.specs.Prelude.{◌≡◌, ℕ, ◌+◌, ◌-◌, ◌/◌, ◌%◌, ◌<◌, Bool, false, cond, not, List, [], ◌∷◌, ◌++◌, map, length, drop, reverse, Ok, Err, Result, ◌==◌, ◌≢◌, ◌⊎◌, nat_lt, slice_index_or, slice_range}
use Rattle.std.specs.List.{range_with_len}
use Rattle.refusal.specs.declared.Refusal.{Refusal}
use Rattle.refusal.specs.declared.Refusal.TheVariants.{NoSuchElement, NotTwoEndsOfTwoArcs, NoRoom}
use Rattle.rings.specs.Circles.{ring, kept}
use Rattle.rings.specs.Law.{opp, turn}
use Rattle.rings.specs.Edits.{swapped, fill, leave}
use Rattle.rings.specs.LetIn.{without}
use Rattle.topology.specs.declared.side.Side.{Side}
use Rattle.topology.specs.declared.vertex.Vertex.{Vertex}
use Rattle.topology.specs.Rows.{next_of, node_of, polygon_of, row_of, low_of}
use Rattle.topology.specs.States.{State}
use Rattle.topology.specs.Questions.{arc_count, rings_of}
use Rattle.topology.specs.Islands.{vertex_room}
use Rattle.topology.specs.Lifts.{lifted}
use Rattle.topology.specs.Lifts.{number_before}

-- the sides that begin at a node, rising
abbrev pub ends : List Side → ℕ → List ℕ
ends us v = kept (λ s. node_of us s == v) (length us)

-- just two sides, of two arcs
abbrev pub of_two_arcs : List ℕ → Bool
of_two_arcs [] = false
of_two_arcs (s ∷ []) = false
of_two_arcs (s ∷ t ∷ []) = not (t / 2 == s / 2)
of_two_arcs (s ∷ t ∷ u ∷ more) = false

-- only s and t begin at their node, and they are of two arcs, s of the lower one
pub record TwoEnds (us : List Side) (s t : ℕ) : Type 0 where
  pub rising : s < t
  pub below : t < length us
  pub arcs : t / 2 ≢ s / 2
  pub same : node_of us t ≡ node_of us s
  pub only : (k : ℕ) → k < length us → node_of us k ≡ node_of us s → (k ≡ s) ⊎ (k ≡ t)

-- the vertices of arc a
abbrev pub run_of : List Side → List Vertex → ℕ → List Vertex
run_of us vs a = slice_range vs (row_of us (a + a)) (row_of us (a + a + 1) + 1)

-- a list, or the list backwards
abbrev pub turned_if : {X : Type 0} → Bool → List X → List X
turned_if b xs = cond b (reverse xs) xs

-- the vertices along side s
abbrev pub along : List Side → List Vertex → ℕ → List Vertex
along us vs s = turned_if (s % 2 == 1) (run_of us vs (s / 2))

-- the vertices along the opposite of s and on along t, that of the node once
abbrev pub through : List Side → List Vertex → ℕ → ℕ → List Vertex
through us vs s t = along us vs (opp s) ++ drop 1 (along us vs t)

-- .. in the direction of the arc of s
abbrev pub joined_run : List Side → List Vertex → ℕ → ℕ → List Vertex
joined_run us vs s t = turned_if (s % 2 == 0) (through us vs s t)

-- the arc of s has its vertices from one row to another, and s begins where the opposite of t began; each side of the arc of t is a ring
-- alone, at the node where s and t began, and both stand under one polygon
abbrev pub joined_at : List Side → ℕ → ℕ → ℕ → ℕ → ℕ → Side
joined_at us s t first last k = record {
  node = node_of us (swapped s (opp t) k);
  row = cond (k / 2 == s / 2) (cond (k % 2 == 0) first last) (row_of us k);
  polygon = cond (k / 2 == t / 2) (polygon_of us t) (polygon_of us k);
  next = leave (leave (next_of us) (opp t)) t k;
  low = cond (k / 2 == t / 2) k (low_of us k);
}

abbrev pub joined_sides : List Side → ℕ → ℕ → ℕ → ℕ → List Side
joined_sides us s t first last = map (joined_at us s t first last) (range_with_len 0 (length us))

-- the arc of s goes on in place of that of t; the joined run counts whole
abbrev pub gone_on : State → ℕ → ℕ → State
gone_on m s t = record {
  hand = m.hand;
  sides = joined_sides m.sides s t (length m.vertices) (length m.vertices + (length (joined_run m.sides m.vertices s t) - 1));
  vertices = m.vertices ++ joined_run m.sides m.vertices s t;
  nodes = m.nodes;
  polygons = m.polygons;
  side_rows = m.side_rows;
  vertex_rows = m.vertex_rows;
}

-- the lower and the higher side that begin at a node where just two do
abbrev pub lower_end : State → ℕ → ℕ
lower_end m v = slice_index_or (ends m.sides v) 0 0

abbrev pub higher_end : State → ℕ → ℕ
higher_end m v = slice_index_or (ends m.sides v) 1 0

-- the map once the arcs of s and t are one: that of t goes as a closed arc does in a lift, with the node
abbrev pub joined : State → ℕ → ℕ → State
joined m s t = lifted (gone_on m s t) (t / 2)

-- Join (node): 20 for no such node, then 26 unless just two ends, of two arcs, lie there, then 22 for no room for the joined run.
abbrev pub join_outcome : State → ℕ → Result State Refusal
join_outcome m v =
    cond (nat_lt v m.nodes)
    (cond (of_two_arcs (ends m.sides v))
    (cond (vertex_room m (length (joined_run m.sides m.vertices (lower_end m v) (higher_end m v)))) (Ok (joined m (lower_end m v) (higher_end m v))) (Err NoRoom))
    (Err NotTwoEndsOfTwoArcs))
    (Err NoSuchElement)

-- What a join of the arcs of s and t means, where t is of the higher arc. There is one arc fewer and one node fewer, and as many rings and
-- polygons. Side k was number_before k: the last arc has taken the number of that which went. The rings stand as they did, without the two
-- sides of that arc. In the turns s stands where the opposite of t stood, and begins at its node; the others stand where they stood; the last
-- node has taken the number of that which went. Polygons stay. The arc of s has the vertices through both arcs, and the others have theirs.

-- the side that stood before where side k stands in its turn
abbrev pub end_before : State → ℕ → ℕ → ℕ → ℕ
end_before was s t k = swapped s (opp t) (number_before was (t / 2) k)

-- the side that stands where side k stood
abbrev pub end_after : State → ℕ → ℕ → ℕ → ℕ
end_after was s t k = number_before was (t / 2) (swapped s (opp t) k)

pub record Joined (was is : State) (s t : ℕ) : Type 0 where
  pub hand : is.hand ≡ was.hand
  pub arc_gone : arc_count is + 1 ≡ arc_count was
  pub node_gone : is.nodes + 1 ≡ was.nodes
  pub as_many_polygons : is.polygons ≡ was.polygons
  pub as_many_rings : length (rings_of is) ≡ length (rings_of was)
  pub rings : (k : ℕ) → k < length is.sides →
      ring (next_of is.sides) (length is.sides) k
      ≡ map (number_before was (t / 2)) (without t (without (opp t) (ring (next_of was.sides) (length was.sides) (number_before was (t / 2) k))))
  pub turns : (k : ℕ) → k < length is.sides →
      ring (turn (next_of is.sides)) (length is.sides) k
      ≡ map (end_after was s t) (ring (turn (next_of was.sides)) (length was.sides) (end_before was s t k))
  pub nodes : (k : ℕ) → k < length is.sides → node_of is.sides k ≡ fill (node_of was.sides s) (was.nodes - 1) (node_of was.sides (end_before was s t k))
  pub polygons : (k : ℕ) → k < length is.sides → polygon_of is.sides k ≡ polygon_of was.sides (number_before was (t / 2) k)
  pub one_run : run_of is.sides is.vertices (s / 2) ≡ joined_run was.sides was.vertices s t
  pub other_runs : (b : ℕ) → b < arc_count is → (b ≢ s / 2) → run_of is.sides is.vertices b ≡ run_of was.sides was.vertices (swapped (t / 2) (arc_count was - 1) b)
