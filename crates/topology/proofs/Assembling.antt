-- The law of a map as the law of its state, the state of two tables, and the room that they have.
use Rattle.std.proofs.Common.{◌≡◌, ℕ, ◌+◌, ◌≤◌, true, ◌&&◌, leb, List, length, take, sym, refl, subst}
use Rattle.std.proofs.lemmas.Bool.{and_parts, leb-true}
use Rattle.std.proofs.lemmas.List.{length-take-le}
use Rattle.topology.specs.declared.side.Side.{Side}
use Rattle.topology.specs.declared.vertex.Vertex.{Vertex}
use Rattle.topology.specs.declared.hand.Hand.{Hand}
use Rattle.topology.specs.declared.table.Table.{Table}
use Rattle.topology.specs.declared.map.Map.{Map}
use Rattle.topology.specs.States.{State, state_of}
use Rattle.topology.specs.Lawfuls.{Lawful}
use Rattle.topology.specs.Islands.{arc_room, vertex_room}

pub lawful_at : {us us' : List Side} {vs vs' : List Vertex} {n n' : ℕ} (nodes polygons : ℕ) → us ≡ us' → vs ≡ vs' → n ≡ n' → Lawful us vs n nodes polygons → Lawful us' vs' n' nodes polygons
lawful_at {us = us} {us' = us'} {vs = vs} {vs' = vs'} {n = n} nodes polygons d e f l =
    subst (λ (k : ℕ). Lawful us' vs' k nodes polygons) f
    (subst (λ (x : List Vertex). Lawful us' x n nodes polygons) e (subst (λ (x : List Side). Lawful x vs n nodes polygons) d l))

-- the law of a map, from its type
pub lawful_of : (m : Map) → Lawful (state_of m).sides (state_of m).vertices (length (state_of m).sides) m.nodes m.polygons
lawful_of m =
    lawful_at {us = (state_of m).sides} {vs = (state_of m).vertices} m.nodes m.polygons refl refl (sym (length-take-le m.sides.used m.sides.rows.now m.sides.fits)) m.law

-- the state of two tables
abbrev pub state_from : Hand → Table Side → Table Vertex → ℕ → ℕ → State
state_from hand s v nodes polygons = record {
  hand = hand;
  sides = take s.used s.rows.now;
  vertices = take v.used v.rows.now;
  nodes = nodes;
  polygons = polygons;
  side_rows = length s.rows.now;
  vertex_rows = length v.rows.now;
}

-- the room for k vertices
pub vertices_told : (m : Map) (k : ℕ) → vertex_room (state_of m) k ≡ true → (length (state_of m).vertices + k ≤ length m.vertices.rows.now) × (length (state_of m).vertices + k ≤ 1048576)
vertices_told m k room =
    let v = length (state_of m).vertices in
    let (e, g) = and_parts (leb (v + k) (length m.vertices.rows.now)) (leb (v + k) 1048576) room in
    (leb-true _ _ e, leb-true _ _ g)

-- the room for an arc of k vertices
pub room_told : (m : Map) (k : ℕ) → (arc_room (state_of m) && vertex_room (state_of m) k) ≡ true →
    (length (state_of m).sides + 2 ≤ length m.sides.rows.now) × (length (state_of m).sides + 2 ≤ 32768)
    × (length (state_of m).vertices + k ≤ length m.vertices.rows.now) × (length (state_of m).vertices + k ≤ 1048576)
room_told m k room =
    let n = length (state_of m).sides in
    let (x, y) = and_parts (arc_room (state_of m)) (vertex_room (state_of m) k) room in
    let (c, d) = and_parts (leb (n + 2) (length m.sides.rows.now)) (leb (n + 2) 32768) x in
    let (e, g) = vertices_told m k y in
    (leb-true _ _ c, leb-true _ _ d, e, g)
