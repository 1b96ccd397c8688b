-- Split: an arc is parted at one of its vertices by a new node, where both its sides pass through.
use Rattle.std.specs.Prelude.{◌≡◌, ℕ, suc, ◌+◌, ◌-◌, ◌<◌, Bool, cond, ◌&&◌, List, [], ◌∷◌, ◌++◌, map, length, Ok, Err, Result, ◌≢◌, nat_le, nat_lt, slice_index_or, slice_set}
use Rattle.refusal.specs.declared.Refusal.{Refusal}
use Rattle.refusal.specs.declared.Refusal.TheVariants.{NoSuchElement, NotInsideArc, NoRoom}
use Rattle.rings.specs.Circles.{ring}
use Rattle.rings.specs.Law.{turn}
use Rattle.rings.specs.Edits.{fill}
use Rattle.rings.specs.LetIn.{let_in, split_after}
use Rattle.topology.specs.declared.side.Side.{Side}
use Rattle.topology.specs.Rows.{no_side, no_vertex, next_of, node_of, polygon_of, row_of}
use Rattle.topology.specs.States.{State}
use Rattle.topology.specs.Questions.{arc_count, vertex_at, rings_of}
use Rattle.topology.specs.Islands.{arc_room, vertex_room}

-- vertex k of arc a is neither its first nor its last
abbrev pub inside : List Side → ℕ → ℕ → Bool
inside us a k = nat_lt 0 k && nat_lt k (row_of us (a + a + 1) - row_of us (a + a))

-- a row with another next side
abbrev pub leading : ℕ → Side → Side
leading next r = record { node = r.node; row = r.row; polygon = r.polygon; next = next; low = r.low }

-- a row that begins elsewhere
abbrev pub beginning : ℕ → ℕ → Side → Side
beginning node row r = record { node = node; row = row; polygon = r.polygon; next = r.next; low = r.low }

-- what led to side o leads to side top
abbrev pub led : ℕ → ℕ → Side → Side
led o top r = leading (fill top o r.next) r

-- the rows, where what led to the turned side of arc a leads to the new turned side
abbrev pub rows_led : List Side → ℕ → List Side
rows_led us a = map (led (a + a + 1) (length us + 1)) us

-- the unturned side of arc a leads to the new unturned side, which leads on to where it led; the new turned side begins where that of
-- arc a began, and leads to it; the new unturned side and the turned side of arc a begin at the new node, at the row given
abbrev pub split_sides : List Side → ℕ → ℕ → ℕ → List Side
split_sides us node a row =
    slice_set (slice_set (rows_led us a) (a + a) (leading (length us) (slice_index_or (rows_led us a) (a + a) no_side))) (a + a + 1) (beginning node row (slice_index_or (rows_led us a) (a + a + 1) no_side))
    ++ beginning node row (slice_index_or (rows_led us a) (a + a) no_side) ∷ leading (a + a + 1) (slice_index_or us (a + a + 1) no_side) ∷ []

-- the vertex where arc a is parted counts once more
abbrev pub split : State → ℕ → ℕ → State
split m a k = record {
  hand = m.hand;
  sides = split_sides m.sides m.nodes a (row_of m.sides (a + a) + k);
  vertices = m.vertices ++ slice_index_or m.vertices (row_of m.sides (a + a) + k) no_vertex ∷ [];
  nodes = m.nodes + 1;
  polygons = m.polygons;
  side_rows = m.side_rows;
  vertex_rows = m.vertex_rows;
}

-- Split (arc, k): 20 for no such arc, then 25 when vertex k is not inside it, then 22 for no room for an arc or for one vertex.
abbrev pub split_outcome : State → ℕ → ℕ → Result State Refusal
split_outcome m a k =
    cond (nat_lt a (arc_count m))
    (cond (inside m.sides a k) (cond (arc_room m && vertex_room m 1) (Ok (split m a k)) (Err NoRoom)) (Err NotInsideArc))
    (Err NoSuchElement)

-- What a split of arc a at vertex k means. The rings stand in their order, with the new unturned side let in after that of arc a and the
-- new turned one before that of arc a; the turn about the new node has these two sides alone; in the turns about the other nodes the new
-- turned side stands where that of arc a stood. Arc a ends and the new arc begins at the new node, and the new arc ends where arc a ended.
-- Arc a has its vertices up to k, the new arc has them from k on, and the other arcs have theirs. The new sides stand under the polygons of those
-- of arc a, and all others under their own.
pub record Parts (was is : State) (a k : ℕ) : Type 0 where
  pub rings : rings_of is ≡ map (let_in (split_after (next_of was.sides) (length was.sides) (a + a) (a + a + 1))) (rings_of was)
  pub new_turn : ring (turn (next_of is.sides)) (length is.sides) (length was.sides) ≡ length was.sides ∷ (a + a + 1) ∷ []
  pub turns : (s : ℕ) → s < length was.sides →
      ring (turn (next_of is.sides)) (length is.sides) (fill (suc (length was.sides)) (a + a + 1) s)
      ≡ map (fill (suc (length was.sides)) (a + a + 1)) (ring (turn (next_of was.sides)) (length was.sides) s)
  pub ends : (node_of is.sides (a + a + 1) ≡ was.nodes) × (node_of is.sides (length was.sides) ≡ was.nodes)
      × (node_of is.sides (suc (length was.sides)) ≡ node_of was.sides (a + a + 1))
  pub front : (j : ℕ) → vertex_at is a j ≡ cond (nat_le j k) (vertex_at was a j) (Err NoSuchElement)
  pub back : (j : ℕ) → vertex_at is (arc_count was) j ≡ vertex_at was a (k + j)
  pub others : (b j : ℕ) → b < arc_count was → (b ≢ a) → vertex_at is b j ≡ vertex_at was b j
  pub as_many_polygons : is.polygons ≡ was.polygons
  pub unturned_under : polygon_of is.sides (length was.sides) ≡ polygon_of was.sides (a + a)
  pub turned_under : polygon_of is.sides (suc (length was.sides)) ≡ polygon_of was.sides (a + a + 1)
  pub others_under : (s : ℕ) → s < length was.sides → polygon_of is.sides s ≡ polygon_of was.sides s
