-- A map whose tables have grown by an island's rows.
use Rattle.std.proofs.Common.{◌≡◌, ℕ, ◌+◌, ◌-◌, ◌<◌, ◌≤◌, true, ◌&&◌, List, [], ◌∷◌, ◌++◌, length, take, suc, sym, refl, ap, ◌∙◌, subst, arith}
use Rattle.std.proofs.lemmas.List.{length-take-le}
use Rattle.topology.specs.declared.side.Side.{Side}
use Rattle.topology.specs.declared.vertex.Vertex.{Vertex}
use Rattle.topology.specs.declared.table.Table.{Table}
use Rattle.topology.specs.declared.map.Map.{Map}
use Rattle.rings.specs.Circles.{ring, rings}
use Rattle.rings.specs.Law.{turn}
use Rattle.topology.specs.Rows.{next_of, polygon_of}
use Rattle.topology.specs.States.{state_of}
use Rattle.topology.specs.Tables.{Grown}
use Rattle.topology.specs.Lawfuls.{Lawful}
use Rattle.topology.specs.Islands.{closed_run, arc_room, vertex_room, unturned, turned, IslandAdded}
use Rattle.topology.proofs.Growth.{grown_twice, grown_used}
use Rattle.topology.proofs.Assembling.{lawful_at, lawful_of, state_from, room_told}
use Rattle.topology.proofs.IslandLaw.{island_lawful, island_rings, island_ring, island_turn, unturned_alone, turned_alone, island_own_turn, unturned_polygon, turned_polygon, old_polygon}

-- the rows of an island, as the code makes them
pub unturned_row : (m : Map) → unturned m.sides.used m.nodes m.vertices.used m.polygons ≡ unturned (length (state_of m).sides) m.nodes (length (state_of m).vertices) m.polygons
unturned_row m =
    ap (λ (k : ℕ). unturned k m.nodes m.vertices.used m.polygons) (sym (length-take-le m.sides.used m.sides.rows.now m.sides.fits))
    ∙ ap (λ (k : ℕ). unturned (length (state_of m).sides) m.nodes k m.polygons) (sym (length-take-le m.vertices.used m.vertices.rows.now m.vertices.fits))

pub turned_row : (m : Map) (k p : ℕ) → turned m.sides.used m.nodes (m.vertices.used + k) p ≡ turned (length (state_of m).sides) m.nodes (length (state_of m).vertices + k) p
turned_row m k p =
    ap (λ (j : ℕ). turned j m.nodes (m.vertices.used + k) p) (sym (length-take-le m.sides.used m.sides.rows.now m.sides.fits))
    ∙ ap (λ (j : ℕ). turned (length (state_of m).sides) m.nodes (j + k) p) (sym (length-take-le m.vertices.used m.vertices.rows.now m.vertices.fits))

module _ (m : Map) (t s : Table Side) (v : Table Vertex) (p : ℕ) (run : List Vertex)
    (known : p < m.polygons) (fit : closed_run run ≡ true) (room : (arc_room (state_of m) && vertex_room (state_of m) (length run)) ≡ true)
    (ga : Grown m.sides t (unturned m.sides.used m.nodes m.vertices.used m.polygons ∷ []))
    (gb : Grown t s (turned m.sides.used m.nodes (m.vertices.used + (length run - 1)) p ∷ [])) (gv : Grown m.vertices v run) where
  abbrev us : List Side
  us = (state_of m).sides

  abbrev vs : List Vertex
  vs = (state_of m).vertices

  abbrev a : Side
  a = unturned m.sides.used m.nodes m.vertices.used m.polygons

  abbrev b : Side
  b = turned m.sides.used m.nodes (m.vertices.used + (length run - 1)) p

  gs : Grown m.sides s (a ∷ b ∷ [])
  gs = grown_twice m.sides t s a b ga gb

  abbrev a' : Side
  a' = unturned (length us) m.nodes (length vs) m.polygons

  abbrev b' : Side
  b' = turned (length us) m.nodes (length vs + (length run - 1)) p

  sides_long : length us ≡ m.sides.used
  sides_long = length-take-le m.sides.used m.sides.rows.now m.sides.fits

  vertices_long : length vs ≡ m.vertices.used
  vertices_long = length-take-le m.vertices.used m.vertices.rows.now m.vertices.fits

  sides_are : take s.used s.rows.now ≡ us ++ a' ∷ b' ∷ []
  sides_are = gs.rows ∙ ap (λ x. us ++ x ∷ b ∷ []) (unturned_row m) ∙ ap (λ x. us ++ a' ∷ x ∷ []) (turned_row m (length run - 1) p)

  used_are : s.used ≡ length us + 2
  used_are = grown_used m.sides s (a ∷ b ∷ []) gs ∙ omega (arith, sides_long)

  rooms : (length us + 2 ≤ length m.sides.rows.now) × (length us + 2 ≤ 32768) × (length vs + length run ≤ length m.vertices.rows.now) × (length vs + length run ≤ 1048576)
  rooms = room_told m (length run) room

  -- the rows in use are few enough
  pub island_few : (s.used ≤ 32768) × (v.used ≤ 1048576)
  island_few = (omega (arith, used_are, rooms.1), omega (arith, grown_used m.vertices v run gv, vertices_long, rooms.3))

  pub island_law : Lawful (take s.used s.rows.now) (take v.used v.rows.now) s.used (m.nodes + 1) (m.polygons + 1)
  island_law = lawful_at (m.nodes + 1) (m.polygons + 1) (sym sides_are) (sym gv.rows) (sym used_are) (island_lawful us vs run m.nodes m.polygons p (lawful_of m) known fit)

  -- two rings more
  pub island_more : length (rings (next_of (take s.used s.rows.now)) (length (take s.used s.rows.now))) ≡ length (rings (next_of us) (length us)) + 2
  island_more =
      ap (λ (k : ℕ). length (rings (next_of (take s.used s.rows.now)) k)) (length-take-le s.used s.rows.now s.fits ∙ used_are)
      ∙ (ap (λ (x : List Side). length (rings (next_of x) (length us + 2))) sides_are ∙ island_rings us vs run m.nodes m.polygons p (lawful_of m) known fit)

  abbrev n : ℕ
  n = length us

  abbrev is : List Side
  is = take s.used s.rows.now

  -- from the rows with the two more to those of the table
  moved : (P : List Side → ℕ → Type 0) → P (us ++ a' ∷ b' ∷ []) (n + 2) → P is (length is)
  moved P h = subst (λ (x : List Side). P x (length is)) (sym sides_are) (subst (P (us ++ a' ∷ b' ∷ [])) (sym (length-take-le s.used s.rows.now s.fits ∙ used_are)) h)

  -- which rings and turns there are, and the polygon of each side
  pub island_added : IslandAdded (state_of m) (state_from m.hand s v (m.nodes + 1) (m.polygons + 1)) p
  island_added =
      let l = lawful_of m in
      record {
        two_more = island_more;
        unturned_ring = moved (λ x k. ring (next_of x) k n ≡ n ∷ []) (unturned_alone us vs run m.nodes m.polygons p l known fit);
        turned_ring = moved (λ x k. ring (next_of x) k (suc n) ≡ suc n ∷ []) (turned_alone us vs run m.nodes m.polygons p l known fit);
        rings = λ j i. moved (λ x k. ring (next_of x) k j ≡ ring (next_of us) n j) (island_ring us vs run m.nodes m.polygons p l known fit j i);
        own_turn = moved (λ x k. ring (turn (next_of x)) k n ≡ n ∷ suc n ∷ []) (island_own_turn us vs run m.nodes m.polygons p l known fit);
        turns = λ j i. moved (λ x k. ring (turn (next_of x)) k j ≡ ring (turn (next_of us)) n j) (island_turn us vs run m.nodes m.polygons p l known fit j i);
        one_more_polygon = refl;
        unturned_under = moved (λ x k. polygon_of x n ≡ m.polygons) (unturned_polygon us vs run m.nodes m.polygons p l known fit);
        turned_under = moved (λ x k. polygon_of x (suc n) ≡ p) (turned_polygon us vs run m.nodes m.polygons p l known fit);
        others_under = λ j i. moved (λ x k. polygon_of x j ≡ polygon_of us j) (old_polygon us vs run m.nodes m.polygons p l known fit j i);
      }
