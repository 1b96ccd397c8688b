-- Dissolve: an arc goes, and the two rings of its sides become one.
use Rattle.std.specs.Prelude.{◌≡◌, ℕ, zero, suc, ◌+◌, ◌/◌, ◌<◌, Bool, false, cond, not, ◌&&◌, ◌||◌, List, ◌∷◌, ◌++◌, map, length, Ok, Err, Result, ◌==◌, ◌≢◌, nat_lt, slice_index_or, slice_set, min}
use Rattle.refusal.specs.declared.Refusal.{Refusal}
use Rattle.refusal.specs.declared.Refusal.TheVariants.{NoSuchElement, SidesShareRing, RingsAlone}
use Rattle.rings.specs.Circles.{walk, ring, meets, one_if}
use Rattle.rings.specs.Law.{turn}
use Rattle.rings.specs.LetIn.{without}
use Rattle.topology.specs.declared.side.Side.{Side}
use Rattle.topology.specs.declared.table.Table.{Table}
use Rattle.topology.specs.declared.merging.Merging.{Merging}
use Rattle.topology.specs.Rows.{no_side, next_of, polygon_of, low_of}
use Rattle.topology.specs.States.{State}
use Rattle.topology.specs.Questions.{arc_count, rings_of}
use Rattle.topology.specs.Lifts.{lifted, number_before, merged_number}
use Rattle.topology.specs.Merged.{merged}
use Rattle.topology.specs.Divisions.{lowest_of}

-- both sides of arc a stand in one ring
abbrev pub share_ring : List Side → ℕ → Bool
share_ring us a = meets (next_of us) (length us) (a + a) (a + a + 1)

-- each side of arc a is a ring alone
abbrev pub both_alone : List Side → ℕ → Bool
both_alone us a = next_of us (a + a) == a + a && next_of us (a + a + 1) == a + a + 1

-- side k is of another arc than a, and stands in the ring of one of its sides
abbrev pub in_either : List Side → ℕ → ℕ → Bool
in_either us a k = not (k / 2 == a) && (low_of us k == low_of us (a + a) || low_of us k == low_of us (a + a + 1))

-- the first of n numbers from k on that passes a test
abbrev pub first_from : (ℕ → Bool) → ℕ → ℕ → ℕ
first_from P k zero = k
first_from P k (suc n) = cond (P k) k (first_from P (k + 1) n)

-- the lowest side but s of the ring of s, and the number of sides where there is no other
abbrev pub lowest_other : List Side → ℕ → ℕ
lowest_other us s = cond (low_of us s == s) (lowest_of (length us) (walk (next_of us) (length us) s s)) (low_of us s)

-- how the two rings of arc a become one: what led to one of its sides leads to what came after the other, and where that one is
-- alone, to what came after the side itself
abbrev pub merging : List Side → ℕ → Merging
merging us a = record {
  side = a + a;
  past_unturned = cond (next_of us (a + a + 1) == a + a + 1) (next_of us (a + a)) (next_of us (a + a + 1));
  past_turned = cond (next_of us (a + a) == a + a) (next_of us (a + a + 1)) (next_of us (a + a));
  low_unturned = low_of us (a + a);
  low_turned = low_of us (a + a + 1);
  low = first_from (in_either us a) 0 (length us);
  polygon = min (polygon_of us (a + a)) (polygon_of us (a + a + 1));
}

-- side s is a ring alone, and begins at a node
abbrev pub alone_at : ℕ → ℕ → Side → Side
alone_at node s r = record { node = node; row = r.row; polygon = r.polygon; next = s; low = s }

-- the rows once arc a has left both rings, and the nodes where it began and ended, for a node of its own
abbrev pub freed : List Side → ℕ → ℕ → List Side
freed us node a =
    slice_set (slice_set (map (merged (merging us a)) us) (a + a) (alone_at node (a + a) (slice_index_or us (a + a) no_side))) (a + a + 1) (alone_at node (a + a + 1) (slice_index_or us (a + a + 1) no_side))

abbrev pub set_free : State → ℕ → State
set_free m a = record {
  hand = m.hand;
  sides = freed m.sides m.nodes a;
  vertices = m.vertices;
  nodes = m.nodes + 1;
  polygons = m.polygons;
  side_rows = m.side_rows;
  vertex_rows = m.vertex_rows;
}

-- Dissolve (arc): 20 for no such arc, then 29 when both sides share a ring, then 30 when each is a ring alone. Once set free, the arc goes as a closed arc
-- does in a lift: with its own node, both its own rings, and the higher of two polygons.
abbrev pub dissolve_outcome : State → ℕ → Result State Refusal
dissolve_outcome m a =
    cond (nat_lt a (arc_count m))
    (cond (share_ring m.sides a) (Err SidesShareRing) (cond (both_alone m.sides a) (Err RingsAlone) (Ok (lifted (set_free m a) a))))
    (Err NoSuchElement)

-- two sides stand in one ring
abbrev pub together : State → ℕ → ℕ → Bool
together m s t = meets (next_of m.sides) (length m.sides) s t

-- a side stands in the ring of one of arc a's sides
abbrev pub beside : State → ℕ → ℕ → Bool
beside m a s = together m (a + a) s || together m (a + a + 1) s

-- the sides that come after s in its ring
abbrev pub sides_after : State → ℕ → List ℕ
sides_after m s = walk (next_of m.sides) (length m.sides) s s

-- there is one ring fewer: two sides stand in one ring now exactly if they did before, or if each stood in the ring of one of arc a's sides;
-- the one ring has the sides after one of them, then the sides after the other, and all other rings stand as they did; the turns stand as they
-- did, without the two sides; the two polygons are one, and where they were two, there is one fewer
pub record RingsMerged (was is : State) (a : ℕ) : Type 0 where
  pub fewer : length (rings_of is) + 1 ≡ length (rings_of was)
  pub rings : (s t : ℕ) → s < length is.sides → t < length is.sides →
      together is s t
      ≡ (together was (number_before was a s) (number_before was a t) || (beside was a (number_before was a s) && beside was a (number_before was a t)))
  pub one_ring : (x : ℕ) (xs : List ℕ) → sides_after was (a + a) ++ sides_after was (a + a + 1) ≡ x ∷ xs →
      ring (next_of is.sides) (length is.sides) (number_before was a x) ≡ map (number_before was a) (x ∷ xs)
  pub others_stay : (k : ℕ) → k < length is.sides → beside was a (number_before was a k) ≡ false →
      ring (next_of is.sides) (length is.sides) k ≡ map (number_before was a) (ring (next_of was.sides) (length was.sides) (number_before was a k))
  pub turns : (k : ℕ) → k < length is.sides →
      ring (turn (next_of is.sides)) (length is.sides) k
      ≡ map (number_before was a) (without (a + a + 1) (without (a + a) (ring (turn (next_of was.sides)) (length was.sides) (number_before was a k))))
  pub polygon_gone : is.polygons + one_if (not (polygon_of was.sides (a + a) == polygon_of was.sides (a + a + 1))) ≡ was.polygons
  pub polygons : (k : ℕ) → k < length is.sides →
      polygon_of is.sides k
      ≡ merged_number (polygon_of was.sides (a + a)) (polygon_of was.sides (a + a + 1)) was.polygons (polygon_of was.sides (number_before was a k))

-- the first two free rows of a table are others
pub record PutBack (was is : Table Side) (u v : Side) : Type 0 where
  pub used : is.used ≡ was.used
  pub rows : is.rows.now ≡ slice_set (slice_set was.rows.now was.used u) (was.used + 1) v
  pub lent : is.rows.ghost_name ≡ was.rows.ghost_name

-- each row is merged, but for those of arc a
pub record MergedBeside (was is : List Side) (a : ℕ) (c : Merging) : Type 0 where
  pub long : length is ≡ length was
  pub rows : (k : ℕ) → k < length was → (k / 2 ≢ a) → slice_index_or is k no_side ≡ merged c (slice_index_or was k no_side)
