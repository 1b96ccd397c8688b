-- A map whose table of sides has lost those of a closed arc.
use Rattle.std.proofs.Common.{◌≡◌, ℕ, suc, ◌+◌, ◌-◌, ◌/◌, ◌<◌, ◌≤◌, true, List, length, take, map, not, eqb, sym, refl, ap, ◌∙◌, subst, arith}
use Rattle.std.proofs.lemmas.List.{length-take-le}
use Rattle.rings.specs.Circles.{one_if, ring, rings}
use Rattle.rings.specs.Law.{turn}
use Rattle.rings.specs.Edits.{exchanged}
use Rattle.rings.proofs.Words.{node_low}
use Rattle.topology.specs.declared.side.Side.{Side}
use Rattle.topology.specs.declared.vertex.Vertex.{Vertex}
use Rattle.topology.specs.declared.table.Table.{Table}
use Rattle.topology.specs.declared.map.Map.{Map}
use Rattle.topology.specs.Rows.{next_of, node_of, polygon_of}
use Rattle.topology.specs.States.{state_of}
use Rattle.topology.specs.Tables.{Holds}
use Rattle.topology.specs.Lawfuls.{Lawful}
use Rattle.topology.specs.Questions.{arc_count}
use Rattle.topology.specs.Lifts.{closed_alone, ring_left, lifted_sides, polygons_left, RingsLifted}
use Rattle.topology.proofs.TakenOut.{taken_used}
use Rattle.topology.proofs.Assembling.{lawful_at, lawful_of, state_from}
use Rattle.topology.proofs.LiftLaw.{lift_lawful, lift_rings, lift_ring, lift_turn, lift_polygons, lift_polygon_gone}

-- a map with an arc has a node
pub some_node : (m : Map) (a : ℕ) → a < arc_count (state_of m) → 0 < m.nodes
some_node m a l =
    let us = (state_of m).sides in
    let L = lawful_of m in
    let h = node_low (next_of us) (node_of us) (length us) m.nodes L.in_turns L.rings_close L.one_turn 0 (omega arith) in
    omega arith

module _ (m : Map) (s : Table Side) (a left : ℕ) (here : a < arc_count (state_of m)) (alone : closed_alone (state_of m).sides a ≡ true) (leaves : ring_left (state_of m).sides a ≡ true)
    (shrunk : Holds m.sides s (lifted_sides (state_of m).sides m.nodes m.polygons a)) (told : left ≡ polygons_left (state_of m).sides m.polygons a) where
  abbrev us : List Side
  us = (state_of m).sides

  abbrev vs : List Vertex
  vs = (state_of m).vertices

  abbrev z : ℕ
  z = length us / 2 - 1

  sides_long : length us ≡ m.sides.used
  sides_long = length-take-le m.sides.used m.sides.rows.now m.sides.fits

  two_more : length us ≡ suc (suc (z + z))
  two_more = omega (arith, (lawful_of m).paired, here)

  low : a < suc z
  low = omega (arith, here)

  L : Lawful us vs (suc (suc (z + z))) m.nodes m.polygons
  L = lawful_at {us = us} {vs = vs} m.nodes m.polygons refl refl two_more (lawful_of m)

  used_less : s.used ≡ m.sides.used - 2
  used_less = taken_used m.sides s m.nodes m.polygons a shrunk

  used_are : s.used ≡ z + z
  used_are = used_less ∙ omega (arith, sides_long, two_more)

  -- the rows in use are few enough
  pub lift_few : (s.used ≤ 32768) × (m.vertices.used ≤ 1048576)
  lift_few = (omega (arith, used_less, m.arcs_few), m.vertices_few)

  pub lift_law : Lawful (take s.used s.rows.now) vs s.used (m.nodes - 1) left
  lift_law =
      subst (λ (k : ℕ). Lawful (take s.used s.rows.now) vs s.used (m.nodes - 1) k) (sym told)
      (lawful_at {vs = vs} (m.nodes - 1) (polygons_left us m.polygons a) (sym shrunk.rows) refl (sym used_are) (lift_lawful us vs m.nodes m.polygons z a two_more low L alone leaves))

  -- two rings fewer
  pub lift_fewer : length (rings (next_of (take s.used s.rows.now)) (length (take s.used s.rows.now))) + 2 ≡ length (rings (next_of us) (length us))
  lift_fewer =
      let k : length (take s.used s.rows.now) ≡ z + z = length-take-le s.used s.rows.now s.fits ∙ used_are in
      let x = ap (λ (j : ℕ). length (rings (next_of (take s.used s.rows.now)) j)) k in
      let y = ap (λ (w : List Side). length (rings (next_of w) (z + z))) shrunk.rows in
      let r = lift_rings us vs m.nodes m.polygons z a two_more low L alone leaves in
      let q = ap (λ (j : ℕ). length (rings (next_of us) j)) two_more in
      omega (arith, x, y, r, q)

  abbrev us' : List Side
  us' = take s.used s.rows.now

  rows_are : length us' ≡ z + z
  rows_are = length-take-le s.used s.rows.now s.fits ∙ used_are

  -- which rings and turns are left, and the polygon of each side
  pub lift_lifted : RingsLifted (state_of m) (state_from m.hand s m.vertices (m.nodes - 1) left) a
  lift_lifted = record {
    fewer = lift_fewer;
    rings = λ k l.
        ap (λ (j : ℕ). ring (next_of us') j k) rows_are
        ∙ (ap (λ (w : List Side). ring (next_of w) (z + z) k) shrunk.rows
        ∙ (lift_ring us vs m.nodes m.polygons z a two_more low L alone leaves k (omega (arith, l, rows_are))
        ∙ ap (λ (n : ℕ). map (exchanged a z) (ring (next_of us) n (exchanged a z k))) (sym two_more)));
    turns = λ k l.
        ap (λ (j : ℕ). ring (turn (next_of us')) j k) rows_are
        ∙ (ap (λ (w : List Side). ring (turn (next_of w)) (z + z) k) shrunk.rows
        ∙ (lift_turn us vs m.nodes m.polygons z a two_more low L alone leaves k (omega (arith, l, rows_are))
        ∙ ap (λ (n : ℕ). map (exchanged a z) (ring (turn (next_of us)) n (exchanged a z k))) (sym two_more)));
    polygon_gone =
        ap (λ (j : ℕ). j + one_if (not (eqb (polygon_of us (a + a)) (polygon_of us (a + a + 1))))) told
        ∙ lift_polygon_gone us vs m.nodes m.polygons z a two_more low L alone leaves;
    polygons = λ k l.
        ap (λ (w : List Side). polygon_of w k) shrunk.rows ∙ lift_polygons us vs m.nodes m.polygons z a two_more low L alone leaves k (omega (arith, l, rows_are));
  }
