-- A map whose table of sides has lost those of an arc between two rings.
use Rattle.std.proofs.Common.{◌≡◌, ℕ, suc, ◌+◌, ◌-◌, ◌/◌, ◌<◌, ◌≤◌, false, ◌&&◌, ◌||◌, ltb, List, length, get_or, take, drop, Ok, Err, sym, refl, ap, ◌∙◌, subst, arith, ◌++◌, Bool, true, map, eqb, not}
use Rattle.std.proofs.lemmas.Bool.{lt-ltb, cond-true, cond-false, false≢true}
use Rattle.refusal.specs.declared.Refusal.TheVariants.{NoSuchElement, SidesShareRing, RingsAlone}
use Rattle.rings.specs.Circles.{walk, ring, rings, meets, one_if}
use Rattle.rings.specs.Law.{turn}
use Rattle.rings.specs.LetIn.{without}
use Rattle.rings.specs.Edits.{exchanged}
use Rattle.topology.specs.declared.side.Side.{Side}
use Rattle.topology.specs.declared.vertex.Vertex.{Vertex}
use Rattle.topology.specs.declared.table.Table.{Table}
use Rattle.topology.specs.declared.map.Map.{Map}
use Rattle.topology.specs.Rows.{no_side, next_of, polygon_of}
use Rattle.topology.specs.States.{State, state_of}
use Rattle.topology.specs.Tables.{Holds}
use Rattle.topology.specs.Lawfuls.{Lawful}
use Rattle.topology.specs.Questions.{arc_count, Rises}
use Rattle.topology.specs.Lifts.{lifted_sides, polygons_left, lifted}
use Rattle.topology.specs.Dissolves.{share_ring, both_alone, freed, set_free, dissolve_outcome, RingsMerged, PutBack}
use Rattle.std.proofs.lemmas.List.{length-set, length-map, length-take-le}
use Rattle.topology.proofs.Growth.{held_used}
use Rattle.topology.proofs.Assembling.{lawful_at, lawful_of, state_from}
use Rattle.topology.proofs.TakenOut.{sides_are, used_are, length_are, rows_long, rest_are, lent_are}
use Rattle.topology.proofs.DissolveLaw.{dissolve_lawful, dissolve_rings, dissolve_meets, dissolve_ring, dissolve_others, dissolve_turns, dissolve_polygons, dissolve_polygon_gone, node_room}

neither : (b d : Bool) → (b || d) ≡ false → (b ≡ false) × (d ≡ false)
neither true d e = absurd (false≢true (sym e))
neither false d e = (refl, e)

free_long : (us : List Side) (node a : ℕ) → length (freed us node a) ≡ length us
free_long us node a = simp (length-set, length-map) refl

pub free_used : (m : Map) (a : ℕ) (t : Table Side) → Holds m.sides t (freed (state_of m).sides m.nodes a) → t.used ≡ m.sides.used
free_used m a t free =
    held_used m.sides t (freed (state_of m).sides m.nodes a) free
    ∙ (free_long (state_of m).sides m.nodes a ∙ length-take-le m.sides.used m.sides.rows.now m.sides.fits)

module _ (m : Map) (a : ℕ) (here : a < arc_count (state_of m)) (apart : share_ring (state_of m).sides a ≡ false) (some : both_alone (state_of m).sides a ≡ false) where
  abbrev us : List Side
  us = (state_of m).sides

  abbrev vs : List Vertex
  vs = (state_of m).vertices

  abbrev us₁ : List Side
  us₁ = freed us m.nodes a

  abbrev us₂ : List Side
  us₂ = lifted_sides us₁ (m.nodes + 1) m.polygons a

  abbrev z : ℕ
  z = length us / 2 - 1

  pub sides_long : length us ≡ m.sides.used
  sides_long = length-take-le m.sides.used m.sides.rows.now m.sides.fits

  two_more : length us ≡ suc (suc (z + z))
  two_more = omega (arith, (lawful_of m).paired, here)

  low : a < suc z
  low = omega (arith, here)

  L : Lawful us vs (suc (suc (z + z))) m.nodes m.polygons
  L = lawful_at {us = us} {vs = vs} m.nodes m.polygons refl refl two_more (lawful_of m)

  -- there is a number for the node that the arc has for itself
  pub room : m.nodes + 1 ≤ m.sides.used
  room = omega (arith, node_room us vs m.nodes m.polygons z a two_more low L apart some, two_more, sides_long)

  long_us : length us₁ ≡ suc (suc (z + z))
  long_us = free_long us m.nodes a ∙ two_more

  pub used_now : m.sides.used ≡ suc (suc (z + z))
  used_now = sym sides_long ∙ two_more

  module _ (t s w : Table Side) (left : ℕ) (free : Holds m.sides t us₁) (shrunk : Holds t s (lifted_sides (take t.used t.rows.now) (m.nodes + 1) m.polygons a))
      (back : PutBack s w (get_or m.sides.rows.now (m.sides.used - 2) no_side) (get_or m.sides.rows.now (m.sides.used - 1) no_side))
      (told : left ≡ polygons_left (take t.used t.rows.now) m.polygons a) where
    lefts : left ≡ polygons_left us₁ m.polygons a
    lefts = told ∙ ap (λ (xs : List Side). polygons_left xs m.polygons a) free.rows

    sides_now : take w.used w.rows.now ≡ us₂
    sides_now = sides_are m.sides t s w us₁ (m.nodes + 1) m.polygons a z used_now long_us free shrunk back

    used_is : w.used ≡ z + z
    used_is = used_are m.sides t s w us₁ (m.nodes + 1) m.polygons a z used_now long_us free shrunk back

    length₂ : length (take w.used w.rows.now) ≡ z + z
    length₂ = length_are m.sides t s w us₁ (m.nodes + 1) m.polygons a z used_now long_us free shrunk back

    rows_kept : length w.rows.now ≡ length m.sides.rows.now
    rows_kept = rows_long m.sides t s w us₁ (m.nodes + 1) m.polygons a z used_now long_us free shrunk back

    pub rest_kept : drop w.used w.rows.now ≡ drop w.used m.sides.rows.now
    rest_kept = rest_are m.sides t s w us₁ (m.nodes + 1) m.polygons a z used_now long_us free shrunk back

    pub lent_kept : w.rows.ghost_name ≡ m.sides.rows.ghost_name
    lent_kept = lent_are m.sides t s w us₁ (m.nodes + 1) m.polygons a z used_now long_us free shrunk back

    -- the rows in use are few enough
    pub dissolve_few : (w.used ≤ 32768) × (m.vertices.used ≤ 1048576)
    dissolve_few = (omega (arith, used_is, used_now, m.arcs_few), m.vertices_few)

    pub dissolve_law : Lawful (take w.used w.rows.now) vs w.used m.nodes left
    dissolve_law =
        subst (λ (k : ℕ). Lawful (take w.used w.rows.now) vs w.used m.nodes k) (sym lefts)
        (lawful_at {vs = vs} m.nodes (polygons_left us₁ m.polygons a) (sym sides_now) refl (sym used_is)
        (dissolve_lawful us vs m.nodes m.polygons z a two_more low L apart some))

    state_done : state_from m.hand w m.vertices m.nodes left ≡ lifted (set_free (state_of m) a) a
    state_done =
        let e : m.nodes ≡ m.nodes + 1 - 1 = omega arith in
        ap (λ (k : ℕ). state_from m.hand w m.vertices m.nodes k) lefts
        ∙ (ap (λ (x : List Side). of x m.nodes (length w.rows.now)) sides_now
        ∙ (ap (λ (k : ℕ). of us₂ k (length w.rows.now)) e ∙ ap (of us₂ (m.nodes + 1 - 1)) rows_kept))
      where
        of : List Side → ℕ → ℕ → State
        of x nodes k = record {
          hand = m.hand;
          sides = x;
          vertices = vs;
          nodes = nodes;
          polygons = polygons_left us₁ m.polygons a;
          side_rows = k;
          vertex_rows = length m.vertices.rows.now;
        }

    pub dissolve_agrees : Ok (state_from m.hand w m.vertices m.nodes left) ≡ dissolve_outcome (state_of m) a
    dissolve_agrees =
        ap Ok state_done
        ∙ sym (cond-true (ltb a (arc_count (state_of m))) _ (Err NoSuchElement) (lt-ltb a (arc_count (state_of m)) here)
        ∙ (cond-false (share_ring us a) (Err SidesShareRing) _ apart ∙ cond-false (both_alone us a) (Err RingsAlone) (Ok (lifted (set_free (state_of m) a) a)) some))

    pub dissolve_merged : RingsMerged (state_of m) (state_from m.hand w m.vertices m.nodes left) a
    dissolve_merged = record {
      fewer =
          let x = ap (λ (j : ℕ). length (rings (next_of (take w.used w.rows.now)) j)) length₂ in
          let y = ap (λ (w : List Side). length (rings (next_of w) (z + z))) sides_now in
          let r = dissolve_rings us vs m.nodes m.polygons z a two_more low L apart some in
          let q = ap (λ (j : ℕ). length (rings (next_of us) j)) two_more in
          omega (arith, x, y, r, q);
      rings = λ k i lk li.
          ap (λ (j : ℕ). meets (next_of (take w.used w.rows.now)) j k i) length₂
          ∙ (ap (λ (w : List Side). meets (next_of w) (z + z) k i) sides_now
          ∙ (dissolve_meets us vs m.nodes m.polygons z a two_more low L apart some k i (omega (arith, lk, length₂)) (omega (arith, li, length₂))
          ∙ ap (λ (n : ℕ).
          meets (next_of us) n (exchanged a z k) (exchanged a z i)
          || ((meets (next_of us) n (a + a) (exchanged a z k) || meets (next_of us) n (a + a + 1) (exchanged a z k))
          && (meets (next_of us) n (a + a) (exchanged a z i) || meets (next_of us) n (a + a + 1) (exchanged a z i)))) (sym two_more)));
      one_ring = λ x xs e.
          ap (λ (j : ℕ). ring (next_of (take w.used w.rows.now)) j (exchanged a z x)) length₂
          ∙ (ap (λ (w : List Side). ring (next_of w) (z + z) (exchanged a z x)) sides_now
          ∙ dissolve_ring us vs m.nodes m.polygons z a two_more low L apart some x xs
          (sym (ap (λ (n : ℕ). walk (next_of us) n (a + a) (a + a) ++ walk (next_of us) n (a + a + 1) (a + a + 1)) two_more) ∙ e));
      others_stay = λ k l e.
          let (x, y) = neither (meets (next_of us) (length us) (a + a) (exchanged a z k)) (meets (next_of us) (length us) (a + a + 1) (exchanged a z k)) e in
          ap (λ (j : ℕ). ring (next_of (take w.used w.rows.now)) j k) length₂
          ∙ (ap (λ (w : List Side). ring (next_of w) (z + z) k) sides_now
          ∙ (dissolve_others us vs m.nodes m.polygons z a two_more low L apart some k (omega (arith, l, length₂))
          (sym (ap (λ (n : ℕ). meets (next_of us) n (a + a) (exchanged a z k)) two_more) ∙ x)
          (sym (ap (λ (n : ℕ). meets (next_of us) n (a + a + 1) (exchanged a z k)) two_more) ∙ y)
          ∙ ap (λ (n : ℕ). map (exchanged a z) (ring (next_of us) n (exchanged a z k))) (sym two_more)));
      turns = λ k l.
          ap (λ (j : ℕ). ring (turn (next_of (take w.used w.rows.now))) j k) length₂
          ∙ (ap (λ (w : List Side). ring (turn (next_of w)) (z + z) k) sides_now
          ∙ (dissolve_turns us vs m.nodes m.polygons z a two_more low L apart some k (omega (arith, l, length₂))
          ∙ ap (λ (n : ℕ). map (exchanged a z) (without (a + a + 1) (without (a + a) (ring (turn (next_of us)) n (exchanged a z k))))) (sym two_more)));
      polygon_gone =
          ap (λ (j : ℕ). j + one_if (not (eqb (polygon_of us (a + a)) (polygon_of us (a + a + 1))))) lefts
          ∙ dissolve_polygon_gone us vs m.nodes m.polygons z a two_more low L apart some;
      polygons = λ k l.
          ap (λ (w : List Side). polygon_of w k) sides_now ∙ dissolve_polygons us vs m.nodes m.polygons z a two_more low L apart some k (omega (arith, l, length₂));
    }

    -- nodes + rings - arcs is as it was
    pub dissolve_sum : Rises 0 (state_of m) (state_from m.hand w m.vertices m.nodes left)
    dissolve_sum =
        let h : (z + z) / 2 + 1 ≡ length us / 2 = omega (arith, two_more) in
        let k = ap (λ (j : ℕ). j / 2) length₂ in
        omega (arith, dissolve_merged.fewer, k, h)
