-- What each question answers, for every map and every argument.
use Rattle.std.specs.Prelude.{◌≡◌, ℕ, ◌+◌, ◌-◌, ◌/◌, ◌<◌, ◌≤◌, Bool, true, cond, ◌&&◌, List, length, Ok, Err, Result, nat_le, nat_lt, slice_index, slice_index_or}
use Rattle.refusal.specs.declared.Refusal.{Refusal}
use Rattle.refusal.specs.declared.Refusal.TheVariants.{NoSuchElement}
use Rattle.rings.specs.Circles.{Circles, rings, starts, meets, Lowest, Rising}
use Rattle.rings.specs.Law.{turn}
use Rattle.topology.specs.declared.side.Side.{Side}
use Rattle.topology.specs.declared.vertex.Vertex.{Vertex}
use Rattle.topology.specs.Rows.{no_side, no_vertex, next_of, node_of, polygon_of, row_of}
use Rattle.topology.specs.States.{State}

abbrev pub arc_count : State → ℕ
arc_count m = length m.sides / 2

-- taken where there is such an arc
abbrev pub known_arc : State → ℕ → Result (Unit {0}) Refusal
known_arc m a = cond (nat_lt a (arc_count m)) (Ok tt) (Err NoSuchElement)

abbrev pub side_row : State → ℕ → Result Side Refusal
side_row m s = cond (nat_lt s (length m.sides)) (Ok (slice_index_or m.sides s no_side)) (Err NoSuchElement)

-- an answer about a side, where there is one
abbrev pub about_side : {X : Type 0} → (List Side → ℕ → X) → State → ℕ → Result X Refusal
about_side f m s = cond (nat_lt s (length m.sides)) (Ok (f m.sides s)) (Err NoSuchElement)

-- an answer about an arc, where there is one
abbrev pub about_arc : {X : Type 0} → (List Side → ℕ → X) → State → ℕ → Result X Refusal
about_arc f m a = cond (nat_lt a (arc_count m)) (Ok (f m.sides a)) (Err NoSuchElement)

-- an answer about two sides, where there are both
abbrev pub about_sides : {X : Type 0} → (List Side → ℕ → ℕ → X) → State → ℕ → ℕ → Result X Refusal
about_sides f m s t = cond (nat_lt s (length m.sides) && nat_lt t (length m.sides)) (Ok (f m.sides s t)) (Err NoSuchElement)

-- two sides stand in one ring
abbrev pub in_one_ring : List Side → ℕ → ℕ → Bool
in_one_ring us s t = meets (next_of us) (length us) s t

-- the rows of the two sides of arc a
abbrev pub both_rows : List Side → ℕ → Side × Side
both_rows us a = (slice_index_or us (a + a) no_side, slice_index_or us (a + a + 1) no_side)

-- the rows of the first and of the last vertex of arc a, where there is one
abbrev pub arc_rows : State → ℕ → Result (ℕ × ℕ) Refusal
arc_rows m a = cond (nat_lt a (arc_count m)) (Ok (row_of m.sides (a + a), row_of m.sides (a + a + 1))) (Err NoSuchElement)

-- how many vertices lie on the rows from one to another
abbrev pub counted : Result (ℕ × ℕ) Refusal → Result ℕ Refusal
counted (Ok (first, last)) = Ok (last - first + 1)
counted (Err e) = Err e

abbrev pub vertex_count : State → ℕ → Result ℕ Refusal
vertex_count m a = counted (arc_rows m a)

abbrev pub picked : List Vertex → ℕ → Result (ℕ × ℕ) Refusal → Result Vertex Refusal
picked vs k (Ok (first, last)) = cond (nat_le k (last - first)) (Ok (slice_index_or vs (first + k) no_vertex)) (Err NoSuchElement)
picked vs k (Err e) = Err e

-- vertex k of arc a
abbrev pub vertex_at : State → ℕ → ℕ → Result Vertex Refusal
vertex_at m a k = picked m.vertices k (arc_rows m a)

-- the rings, rising by lowest side and started there
abbrev pub rings_of : State → List (List ℕ)
rings_of m = rings (next_of m.sides) (length m.sides)

-- the polygon and the lowest side of the k-th ring
abbrev pub ring_at : State → ℕ → Result (ℕ × ℕ) Refusal
ring_at m k =
    cond (nat_lt k (length (rings_of m)))
    (Ok (polygon_of m.sides (slice_index (starts (rings_of m)) k), slice_index (starts (rings_of m)) k))
    (Err NoSuchElement)

-- nodes + rings - arcs rises by k from one map to another; said without a difference, since the sum may fall below zero
abbrev pub Rises : ℕ → State → State → Type 0
Rises k was is = is.nodes + length (rings_of is) + arc_count was ≡ was.nodes + length (rings_of was) + arc_count is + k

-- the turn about the node where s begins, set out from s, meets every side that begins there
abbrev pub TurnMeets : State → ℕ → Type 0
TurnMeets m s = (t : ℕ) → t < length m.sides → node_of m.sides s ≡ node_of m.sides t → meets (turn (next_of m.sides)) (length m.sides) s t ≡ true

-- the list of rings parts the sides into circles of next sides; each starts at its lowest side, and they rise by it
abbrev pub RingsListed : State → Type 0
RingsListed m = Circles (next_of m.sides) (length m.sides) (rings_of m) × Lowest (rings_of m) × Rising 0 (rings_of m)

-- however the sides are parted into circles of next sides, there are so many
abbrev pub HoweverParted : State → ℕ → Type 0
HoweverParted m r = (cs : List (List ℕ)) → Circles (next_of m.sides) (length m.sides) cs → length cs ≡ r

-- the ring set out from low meets s, and low is at most each side that it meets
abbrev pub LowestOfRing : State → ℕ → ℕ → Type 0
LowestOfRing m s low =
    (meets (next_of m.sides) (length m.sides) low s ≡ true) × ((t : ℕ) → meets (next_of m.sides) (length m.sides) low t ≡ true → low ≤ t)
