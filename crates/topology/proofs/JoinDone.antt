-- A map two of whose arcs have become one.
use Rattle.std.proofs.Common.{◌≡◌, ℕ, suc, ◌+◌, ◌-◌, ◌/◌, ◌≤◌, true, List, ◌++◌, length, get_or, take, drop, sym, ap, ◌∙◌, subst, arith}
use Rattle.std.proofs.lemmas.List.{length-take-le, length-append}
use Rattle.std.proofs.lemmas.List.FromFn.{length-map-range_with_len}
use Rattle.topology.specs.declared.side.Side.{Side}
use Rattle.topology.specs.declared.vertex.Vertex.{Vertex}
use Rattle.topology.specs.declared.table.Table.{Table}
use Rattle.topology.specs.declared.map.Map.{Map}
use Rattle.topology.specs.Rows.{no_side}
use Rattle.topology.specs.States.{State, state_of}
use Rattle.topology.specs.Tables.{Holds, Grown}
use Rattle.topology.specs.Lawfuls.{Lawful}
use Rattle.topology.specs.Kept.{Stands}
use Rattle.topology.specs.Islands.{vertex_room}
use Rattle.topology.specs.Lifts.{lifted_sides, polygons_left}
use Rattle.topology.specs.Dissolves.{PutBack}
use Rattle.topology.specs.Joins.{TwoEnds, joined_run, joined_at, joined_sides, joined}
use Rattle.topology.proofs.Assembling.{lawful_at, lawful_of, state_from, vertices_told}
use Rattle.topology.proofs.Growth.{held_used}
use Rattle.topology.proofs.TakenOut.{sides_are, used_are, rows_long, rest_are, lent_are}
use Rattle.topology.proofs.JoinStates.{two_more, run_many, long_us, law₂, stay}

module _ (m : Map) (s t : ℕ) (w : TwoEnds (state_of m).sides s t) where
  abbrev us : List Side
  us = (state_of m).sides

  abbrev vs : List Vertex
  vs = (state_of m).vertices

  abbrev b : ℕ
  b = t / 2

  abbrev z : ℕ
  z = length us / 2 - 1

  abbrev law : Stands (state_of m)
  law = lawful_of m

  abbrev run : List Vertex
  run = joined_run us vs s t

  abbrev us₁ : List Side
  us₁ = joined_sides us s t (length vs) (length vs + (length run - 1))

  abbrev us₂ : List Side
  us₂ = lifted_sides us₁ m.nodes m.polygons b

  abbrev vs₂ : List Vertex
  vs₂ = vs ++ run

  pub sides_long : length us ≡ m.sides.used
  sides_long = length-take-le m.sides.used m.sides.rows.now m.sides.fits

  pub vertices_long : length vs ≡ m.vertices.used
  vertices_long = length-take-le m.vertices.used m.vertices.rows.now m.vertices.fits

  pub used_now : m.sides.used ≡ suc (suc (z + z))
  used_now = sym sides_long ∙ two_more (state_of m) law s t w

  -- how many rows are in use once one arc goes on
  pub went_used : (r : Table Side) (f l : ℕ) → Holds m.sides r (joined_sides us s t f l) → r.used ≡ m.sides.used
  went_used r f l h = held_used m.sides r (joined_sides us s t f l) h ∙ (length-map-range_with_len (joined_at us s t f l) 0 (length us) ∙ sides_long)

  -- ---- the tables

  module _ (r q x : Table Side) (y : Table Vertex) (f l left : ℕ) (xs : List Vertex) (room : vertex_room (state_of m) (length run) ≡ true) (at_first : f ≡ m.vertices.used)
      (at_last : l + 1 ≡ m.vertices.used + length run) (went : Holds m.sides r (joined_sides us s t f l)) (shrunk : Holds r q (lifted_sides (take r.used r.rows.now) m.nodes m.polygons b))
      (back : PutBack q x (get_or m.sides.rows.now (m.sides.used - 2) no_side) (get_or m.sides.rows.now (m.sides.used - 1) no_side)) (told : left ≡ polygons_left (take r.used r.rows.now) m.polygons b)
      (grown : Grown m.vertices y xs) (pushed : xs ≡ run) where
    same₁ : joined_sides us s t f l ≡ us₁
    same₁ =
        let i : f ≡ length vs = at_first ∙ sym vertices_long in
        let j : l ≡ length vs + (length run - 1) = omega (arith, at_last, vertices_long, run_many (state_of m) law s t w) in
        ap (λ (k : ℕ). joined_sides us s t k l) i ∙ ap (joined_sides us s t (length vs)) j

    went₁ : Holds m.sides r us₁
    went₁ = subst (Holds m.sides r) same₁ went

    sides_now : take x.used x.rows.now ≡ us₂
    sides_now = sides_are m.sides r q x us₁ m.nodes m.polygons b z used_now (long_us (state_of m) law s t w) went₁ shrunk back

    used_is : x.used ≡ z + z
    used_is = used_are m.sides r q x us₁ m.nodes m.polygons b z used_now (long_us (state_of m) law s t w) went₁ shrunk back

    vertices_now : take y.used y.rows.now ≡ vs₂
    vertices_now = grown.rows ∙ ap (λ (ws : List Vertex). vs ++ ws) pushed

    vertices_used : y.used ≡ length vs + length run
    vertices_used = sym (length-take-le y.used y.rows.now y.fits) ∙ (ap length vertices_now ∙ length-append vs run)

    lefts : left ≡ m.polygons
    lefts = told ∙ (ap (λ (ws : List Side). polygons_left ws m.polygons b) went₁.rows ∙ stay (state_of m) law s t w)

    -- the rows in use are few enough
    pub join_few : (x.used ≤ 32768) × (y.used ≤ 1048576)
    join_few =
        (omega (arith, used_is, used_now, m.arcs_few), omega (arith, vertices_used, (vertices_told m (length run) room).1))

    pub join_law : Lawful (take x.used x.rows.now) (take y.used y.rows.now) x.used (m.nodes - 1) left
    join_law =
        subst (λ (k : ℕ). Lawful (take x.used x.rows.now) (take y.used y.rows.now) x.used (m.nodes - 1) k) (sym lefts)
        (lawful_at {us = us₂} {vs = vs₂} (m.nodes - 1) m.polygons (sym sides_now) (sym vertices_now) (sym used_is) (law₂ (state_of m) law s t w))

    pub state_done : state_from m.hand x y (m.nodes - 1) left ≡ joined (state_of m) s t
    state_done =
        ap (λ (k : ℕ). state_from m.hand x y (m.nodes - 1) k) (lefts ∙ sym (stay (state_of m) law s t w))
        ∙ (ap (λ (ws : List Side). of ws (take y.used y.rows.now) (length x.rows.now) (length y.rows.now)) sides_now
        ∙ (ap (λ (ws : List Vertex). of us₂ ws (length x.rows.now) (length y.rows.now)) vertices_now
        ∙ (ap (λ (k : ℕ). of us₂ vs₂ k (length y.rows.now)) (rows_long m.sides r q x us₁ m.nodes m.polygons b z used_now (long_us (state_of m) law s t w) went₁ shrunk back)
        ∙ ap (of us₂ vs₂ (length m.sides.rows.now)) grown.long)))
      where
        of : List Side → List Vertex → ℕ → ℕ → State
        of ss ws i j = record {
          hand = m.hand;
          sides = ss;
          vertices = ws;
          nodes = m.nodes - 1;
          polygons = polygons_left us₁ m.polygons b;
          side_rows = i;
          vertex_rows = j;
        }

    pub rest_kept : drop x.used x.rows.now ≡ drop x.used m.sides.rows.now
    rest_kept = rest_are m.sides r q x us₁ m.nodes m.polygons b z used_now (long_us (state_of m) law s t w) went₁ shrunk back

    pub lent_kept : x.rows.ghost_name ≡ m.sides.rows.ghost_name
    lent_kept = lent_are m.sides r q x us₁ m.nodes m.polygons b z used_now (long_us (state_of m) law s t w) went₁ shrunk back
