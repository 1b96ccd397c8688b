-- A map whose tables hold a parted arc.
use Rattle.std.proofs.Common.{◌≡◌, ℕ, ◌+◌, ◌-◌, ◌<◌, ◌≤◌, true, ◌&&◌, ltb, List, [], ◌∷◌, ◌++◌, length, get_or, take, Ok, Err, sym, refl, ap, ◌∙◌, arith}
use Rattle.std.proofs.lemmas.Bool.{and_parts, ltb-true, lt-ltb, cond-true}
use Rattle.std.proofs.lemmas.List.{length-append, length-set, length-map, length-take-le, get_or-take}
use Rattle.refusal.specs.declared.Refusal.TheVariants.{NoSuchElement, NotInsideArc, NoRoom}
use Rattle.rings.specs.LetIn.{let_in, split_after}
use Rattle.rings.proofs.SplitRings.{some_before}
use Rattle.topology.specs.declared.side.Side.{Side}
use Rattle.topology.specs.declared.vertex.Vertex.{Vertex}
use Rattle.topology.specs.declared.table.Table.{Table}
use Rattle.topology.specs.declared.map.Map.{Map}
use Rattle.topology.specs.Rows.{no_side, no_vertex, next_of, row_of}
use Rattle.topology.specs.States.{State, state_of}
use Rattle.topology.specs.Tables.{Holds, Grown}
use Rattle.topology.specs.Lawfuls.{Lawful}
use Rattle.topology.specs.Questions.{arc_count, rings_of}
use Rattle.topology.specs.Islands.{arc_room, vertex_room}
use Rattle.topology.specs.Splits.{inside, split_sides, split, split_outcome, Parts}
use Rattle.topology.proofs.Growth.{held_used, grown_used}
use Rattle.topology.proofs.Assembling.{lawful_at, lawful_of, state_from, room_told}
use Rattle.topology.proofs.SplitLaw.{split_lawful, rings_after, new_turn_after, turns_after, ends_after, front_after, back_after, others_after, unturned_polygon, turned_polygon, old_polygon}

-- how many sides there are then
pub parted_long : (us : List Side) (node a row : ℕ) → length (split_sides us node a row) ≡ length us + 2
parted_long us node a row = simp (length-append, length-set, length-map) refl

-- the row where a map's arc is parted, read through the whole table, is in use
module _ (m : Map) (a k : ℕ) (here : a < arc_count (state_of m)) (ins : inside (state_of m).sides a k ≡ true) where
  abbrev us : List Side
  us = (state_of m).sides

  abbrev vs : List Vertex
  vs = (state_of m).vertices

  abbrev row : ℕ
  row = row_of us (a + a) + k

  sides_long : length us ≡ m.sides.used
  sides_long = length-take-le m.sides.used m.sides.rows.now m.sides.fits

  vertices_long : length vs ≡ m.vertices.used
  vertices_long = length-take-le m.vertices.used m.vertices.rows.now m.vertices.fits

  L : Lawful us vs (length us) m.nodes m.polygons
  L = lawful_of m

  pub both_sides : a + a + 1 < length us
  both_sides = omega (arith, here, L.paired)

  within : (0 < k) × (k < row_of us (a + a + 1) - row_of us (a + a))
  within =
      let (x, y) = and_parts (ltb 0 k) (ltb k (row_of us (a + a + 1) - row_of us (a + a))) ins in
      (ltb-true 0 k x, ltb-true k (row_of us (a + a + 1) - row_of us (a + a)) y)

  before_last : row < row_of us (a + a + 1)
  before_last = omega (arith, within.1)

  in_table : row < length vs
  in_table = omega (arith, before_last, (L.runs_stand a both_sides).1)

  pub row_read : (get_or m.sides.rows.now (a + a) no_side).row + k ≡ row
  row_read = ap (λ (r : Side). r.row + k) (sym (get_or-take m.sides.used m.sides.rows.now (a + a) no_side (omega (arith, both_sides, sides_long))))

  pub row_low : ((get_or m.sides.rows.now (a + a) no_side).row + k < m.vertices.used) × (m.vertices.used ≤ length m.vertices.rows.now) × (m.vertices.used ≤ 1048576)
  row_low = (omega (arith, row_read, in_table, vertices_long), m.vertices.fits, m.vertices_few)

  pub vertex_read : get_or m.vertices.rows.now ((get_or m.sides.rows.now (a + a) no_side).row + k) no_vertex ≡ get_or vs row no_vertex
  vertex_read =
      sym (get_or-take m.vertices.used m.vertices.rows.now ((get_or m.sides.rows.now (a + a) no_side).row + k) no_vertex row_low.0)
      ∙ ap (λ (i : ℕ). get_or vs i no_vertex) row_read

  before_turned : (p : ℕ) × (p < length us) × (next_of us p ≡ a + a + 1)
  before_turned = some_before (next_of us) (length us) L.in_rings (a + a + 1) both_sides

  -- what the law and the meaning ask
  law : Lawful (split_sides us m.nodes a row) (vs ++ get_or vs row no_vertex ∷ []) (length us + 2) (m.nodes + 1) m.polygons
  law = let (p, l, e) = before_turned in split_lawful us vs m.nodes m.polygons a k p L both_sides l e within.0 before_last

  pub split_parts : Parts (state_of m) (split (state_of m) a k) a k
  split_parts =
      let (p, l, e) = before_turned in
      record {
        rings = rings_after us vs m.nodes m.polygons a k p L both_sides l e within.0 before_last;
        new_turn = new_turn_after us vs m.nodes m.polygons a k p L both_sides l e within.0 before_last;
        turns = turns_after us vs m.nodes m.polygons a k p L both_sides l e within.0 before_last;
        ends = ends_after us vs m.nodes m.polygons a k p L both_sides l e within.0 before_last;
        front = front_after us vs m.nodes m.polygons a k p L both_sides l e within.0 before_last;
        back = back_after us vs m.nodes m.polygons a k p L both_sides l e within.0 before_last;
        others = others_after us vs m.nodes m.polygons a k p L both_sides l e within.0 before_last;
        as_many_polygons = refl;
        unturned_under = unturned_polygon us vs m.nodes m.polygons a k p L both_sides l e within.0 before_last;
        turned_under = turned_polygon us vs m.nodes m.polygons a k p L both_sides l e within.0 before_last;
        others_under = old_polygon us vs m.nodes m.polygons a k p L both_sides l e within.0 before_last;
      }

  module _ (s : Table Side) (v : Table Vertex) (i : ℕ) (x : Vertex) (room : (arc_room (state_of m) && vertex_room (state_of m) 1) ≡ true)
      (ps : Holds m.sides s (split_sides (state_of m).sides m.nodes a i)) (gv : Grown m.vertices v (x ∷ [])) (at : i ≡ row) (vertex : x ≡ get_or vs row no_vertex) where
    rooms : (length us + 2 ≤ length m.sides.rows.now) × (length us + 2 ≤ 32768) × (length vs + 1 ≤ length m.vertices.rows.now) × (length vs + 1 ≤ 1048576)
    rooms = room_told m 1 room

    used_are : s.used ≡ length us + 2
    used_are = held_used m.sides s (split_sides us m.nodes a i) ps ∙ parted_long us m.nodes a i

    pub used_two : s.used ≡ m.sides.used + 2
    used_two = omega (arith, used_are, sides_long)

    sides_are : take s.used s.rows.now ≡ split_sides us m.nodes a row
    sides_are = ps.rows ∙ ap (split_sides us m.nodes a) at

    vertices_are : take v.used v.rows.now ≡ vs ++ get_or vs row no_vertex ∷ []
    vertices_are = gv.rows ∙ ap (λ (y : Vertex). vs ++ y ∷ []) vertex

    -- the rows in use are few enough
    pub split_few : (s.used ≤ 32768) × (v.used ≤ 1048576)
    split_few = (omega (arith, used_are, rooms.1), omega (arith, grown_used m.vertices v (x ∷ []) gv, vertices_long, rooms.3))

    pub split_law : Lawful (take s.used s.rows.now) (take v.used v.rows.now) s.used (m.nodes + 1) m.polygons
    split_law = lawful_at (m.nodes + 1) m.polygons (sym sides_are) (sym vertices_are) (sym used_are) law

    pub state_done : state_from m.hand s v (m.nodes + 1) m.polygons ≡ split (state_of m) a k
    state_done =
        ap (λ (y : List Side). of y (take v.used v.rows.now) (length s.rows.now) (length v.rows.now)) sides_are
        ∙ (ap (λ (y : List Vertex). of (split_sides us m.nodes a row) y (length s.rows.now) (length v.rows.now)) vertices_are
        ∙ (ap (λ (j : ℕ). of (split_sides us m.nodes a row) (vs ++ get_or vs row no_vertex ∷ []) j (length v.rows.now)) ps.long
        ∙ ap (of (split_sides us m.nodes a row) (vs ++ get_or vs row no_vertex ∷ []) (length m.sides.rows.now)) gv.long))
      where
        of : List Side → List Vertex → ℕ → ℕ → State
        of y z i j = record { hand = m.hand; sides = y; vertices = z; nodes = m.nodes + 1; polygons = m.polygons; side_rows = i; vertex_rows = j }

    pub split_agrees : Ok (state_from m.hand s v (m.nodes + 1) m.polygons) ≡ split_outcome (state_of m) a k
    split_agrees =
        ap Ok state_done
        ∙ sym (cond-true (ltb a (arc_count (state_of m))) _ (Err NoSuchElement) (lt-ltb a (arc_count (state_of m)) here)
        ∙ (cond-true (inside us a k) _ (Err NotInsideArc) ins ∙ cond-true (arc_room (state_of m) && vertex_room (state_of m) 1) (Ok (split (state_of m) a k)) (Err NoRoom) room))

-- as many rings as before
pub rings_kept : (was is : State) (a k : ℕ) → Parts was is a k → length (rings_of is) ≡ length (rings_of was)
rings_kept was is a k h =
    ap length h.rings ∙ length-map (rings_of was) (let_in (split_after (next_of was.sides) (length was.sides) (a + a) (a + a + 1)))
