-- An island keeps the law, and adds two rings.
use Rattle.std.proofs.Common.{◌≡◌, ℕ, suc, ◌+◌, ◌-◌, ◌/◌, ◌%◌, ◌<◌, ◌≤◌, true, false, ◌&&◌, eqb, ltb, leb, ◌⊎◌, List, [], ◌∷◌, ◌++◌, length, get_or, sym, refl, ap, ◌∙◌, subst, inl, inr, add-one, arith}
use Rattle.std.proofs.lemmas.Bool.{cases_eq, cases_lt, and_parts, leb-true, lt-ltb, le-ltb, eq-eqb, true_from_ne_false, both_ways}
use Rattle.std.proofs.lemmas.Bool.Decides.{nat_tests}
use Rattle.std.proofs.lemmas.List.{get_or_append_left, get_or-append_right, length-append, map-id}
use Rattle.std.proofs.lemmas.List.Folds.{list_all_at}
use Rattle.rings.specs.Circles.{one_if, occ, names, put, ring, rings}
use Rattle.rings.specs.Law.{opp, turn, Ringed, Closes, Along, Noded}
use Rattle.rings.specs.Edits.{island_next, island_node, island_polygon}
use Rattle.rings.proofs.Occurs.{one_same, one_other}
use Rattle.rings.proofs.Island.{IslandKeeps, island_keeps, island_names, label_n, label_top, label_old, node_n, node_top, node_old}
use Rattle.rings.proofs.Words.{node_low}
use Rattle.rings.proofs.Listing.{ring_is}
use Rattle.rings.proofs.Renamed.{ring_renamed}
use Rattle.rings.proofs.Split.{opp_low, opp_new, opp_top}
use Rattle.topology.specs.declared.side.Side.{Side}
use Rattle.topology.specs.declared.vertex.Vertex.{Vertex}
use Rattle.topology.specs.Rows.{no_vertex, next_of, node_of, polygon_of, row_of, low_of, good, same_place, start_of}
use Rattle.topology.specs.MapLaw.{RunsStand, AllFinite}
use Rattle.topology.specs.Lawfuls.{Lawful}
use Rattle.topology.specs.Islands.{all_good, closed_run, unturned, turned}
use Rattle.topology.proofs.Appended.{field_two}
use Rattle.topology.proofs.Places.{place_self, place_sym}

-- a vertex of a run that is all good
pub good_at : (run : List Vertex) → all_good run ≡ true → (i : ℕ) → i < length run → good (get_or run i no_vertex) ≡ true
good_at run h i l = true_from_ne_false (good (get_or run i no_vertex)) (λ f. both_ways (all_good run) (list_all_at good run i no_vertex l f) h)

-- the start of each side is in use
pub row_low : (us : List Side) (vs : List Vertex) (n s : ℕ) → n % 2 ≡ 0 → RunsStand us vs n → s < n → row_of us s < length vs
row_low us vs n s even stand l =
    let r = stand (s / 2) (omega arith) in
    elim (cases_eq (s % 2) 0) [
      | inl e ↦ let i : s ≡ s / 2 + s / 2 = omega arith in omega (arith, r.0, r.1, ap (row_of us) i)
      | inr ne ↦ let i : s ≡ s / 2 + s / 2 + 1 = omega arith in omega (arith, r.1, ap (row_of us) i)
    ]

module _ (us : List Side) (vs run : List Vertex) (nodes polygons p : ℕ) (L : Lawful us vs (length us) nodes polygons) (known : p < polygons) (fit : closed_run run ≡ true) where
  abbrev n : ℕ
  n = length us

  abbrev a : Side
  a = unturned n nodes (length vs) polygons

  abbrev b : Side
  b = turned n nodes (length vs + (length run - 1)) p

  abbrev us' : List Side
  us' = us ++ a ∷ b ∷ []

  abbrev vs' : List Vertex
  vs' = vs ++ run

  four : 4 ≤ length run
  four = leb-true 4 (length run) (and_parts (leb 4 (length run)) _ (and_parts _ (all_good run) fit).0).0

  ends : same_place (get_or run 0 no_vertex) (get_or run (length run - 1) no_vertex) ≡ true
  ends = (and_parts (leb 4 (length run)) _ (and_parts _ (all_good run) fit).0).1

  goods : all_good run ≡ true
  goods = (and_parts _ (all_good run) fit).1

  next_is : next_of us' ≡ island_next (next_of us) n
  next_is = field_two (λ r. r.next) us a b ∙ ap (put (put (next_of us) n n) (suc n)) (add-one n)

  node_is : node_of us' ≡ island_node (node_of us) n nodes
  node_is = field_two (λ r. r.node) us a b

  polygon_is : polygon_of us' ≡ island_polygon (polygon_of us) n polygons p
  polygon_is = field_two (λ r. r.polygon) us a b

  low_is : low_of us' ≡ island_polygon (low_of us) n n (suc n)
  low_is = field_two (λ r. r.low) us a b ∙ ap (put (put (low_of us) n n) (suc n)) (add-one n)

  row_is : row_of us' ≡ island_polygon (row_of us) n (length vs) (length vs + (length run - 1))
  row_is = field_two (λ r. r.row) us a b

  K : IslandKeeps (next_of us) (node_of us) (polygon_of us) n nodes polygons p
  K = island_keeps (next_of us) (node_of us) (polygon_of us) n nodes polygons p L.paired L.in_rings L.in_turns L.rings_close L.one_polygon L.one_turn

  -- the same with the lowest sides for the polygons
  J : IslandKeeps (next_of us) (node_of us) (low_of us) n nodes n (suc n)
  J = island_keeps (next_of us) (node_of us) (low_of us) n nodes n (suc n) L.paired L.in_rings L.in_turns L.rings_close L.low_along L.one_turn

  -- a side is an old one, or one of the two
  which : (s : ℕ) → s < n + 2 → (s < n) ⊎ ((s ≡ n) ⊎ (s ≡ suc n))
  which s l = elim (cases_lt s n) [ inl o ↦ inl o | inr g ↦ elim (cases_eq s n) [ inl e ↦ inr (inl e) | inr ne ↦ inr (inr (omega arith)) ] ]

  polygons_known' : (s : ℕ) → s < n + 2 → island_polygon (polygon_of us) n polygons p s < polygons + 1
  polygons_known' s l =
      elim (which s l) [
        | inl o ↦ omega (arith, label_old (polygon_of us) n polygons p s o, L.polygons_known s o)
        | inr w ↦
            elim w [
              | inl e ↦ omega (arith, ap (island_polygon (polygon_of us) n polygons p) e, label_n (polygon_of us) n polygons p)
              | inr e ↦ omega (arith, ap (island_polygon (polygon_of us) n polygons p) e, label_top (polygon_of us) n polygons p)
            ]
      ]

  polygons_have_rings' : (q : ℕ) → 0 < q → q < polygons + 1 → 0 < occ q (names (island_polygon (polygon_of us) n polygons p) (rings (island_next (next_of us) n) (n + 2)))
  polygons_have_rings' q h l =
      let e = island_names (next_of us) (polygon_of us) n polygons p L.in_rings L.one_polygon q in
      elim (cases_eq q polygons) [
        | inl i ↦ omega (arith, e, ap one_if (eq-eqb q polygons i))
        | inr ne ↦ omega (arith, e, L.polygons_have_rings q h (omega arith))
      ]

  low_below' : (s : ℕ) → s < n + 2 → island_polygon (low_of us) n n (suc n) s ≤ s
  low_below' s l =
      elim (which s l) [
        | inl o ↦ omega (arith, label_old (low_of us) n n (suc n) s o, L.low_below s o)
        | inr w ↦
            elim w [
              | inl e ↦ omega (arith, ap (island_polygon (low_of us) n n (suc n)) e, label_n (low_of us) n n (suc n))
              | inr e ↦ omega (arith, ap (island_polygon (low_of us) n n (suc n)) e, label_top (low_of us) n n (suc n))
            ]
      ]

  abbrev low' : ℕ → ℕ
  low' = island_polygon (low_of us) n n (suc n)

  -- what the test for a lowest side says of each side, old or new
  low_test : (v : ℕ) → one_if (eqb v (suc n)) + (one_if (eqb v n) + one_if (ltb v n && eqb (low_of us v) v)) ≡ one_if (ltb v (n + 2) && eqb (low' v) v)
  low_test v =
      elim (cases_lt v (n + 2)) [
        | inl l ↦
            elim (which v l) [
              | inl o ↦
                  ap (λ t. t + (one_if (eqb v n) + one_if (ltb v n && eqb (low_of us v) v))) (one_other v (suc n) (omega arith))
                  ∙ ap (λ t. 0 + (t + one_if (ltb v n && eqb (low_of us v) v))) (one_other v n (omega arith))
                  ∙ rw (lt-ltb v n o, lt-ltb v (n + 2) l, label_old (low_of us) n n (suc n) v o) (omega arith)
              | inr w ↦
                  elim w [
                    | inl e ↦
                        rw e (new n (one_other n (suc n) (omega arith)) (one_same n) (le-ltb n n (omega arith)) (lt-ltb n (n + 2) (omega arith)) (label_n (low_of us) n n (suc n)))
                    | inr e ↦
                        rw e (last (suc n) (one_same (suc n)) (one_other (suc n) n (omega arith)) (le-ltb (suc n) n (omega arith)) (lt-ltb (suc n) (n + 2) (omega arith)) (label_top (low_of us) n n (suc n)))
                  ]
            ]
        | inr g ↦
            ap (λ t. t + (one_if (eqb v n) + one_if (ltb v n && eqb (low_of us v) v))) (one_other v (suc n) (omega arith))
            ∙ ap (λ t. 0 + (t + one_if (ltb v n && eqb (low_of us v) v))) (one_other v n (omega arith))
            ∙ rw (le-ltb v n (omega arith), le-ltb v (n + 2) g) refl
      ]
    where
      new : (u : ℕ) → one_if (eqb u (suc n)) ≡ 0 → one_if (eqb u n) ≡ 1 → ltb u n ≡ false → ltb u (n + 2) ≡ true → low' u ≡ u
          → one_if (eqb u (suc n)) + (one_if (eqb u n) + one_if (ltb u n && eqb (low_of us u) u)) ≡ one_if (ltb u (n + 2) && eqb (low' u) u)
      new u x y z w e = rw (x, y, z, w, eq-eqb (low' u) u e) refl

      last : (u : ℕ) → one_if (eqb u (suc n)) ≡ 1 → one_if (eqb u n) ≡ 0 → ltb u n ≡ false → ltb u (n + 2) ≡ true → low' u ≡ u
          → one_if (eqb u (suc n)) + (one_if (eqb u n) + one_if (ltb u n && eqb (low_of us u) u)) ≡ one_if (ltb u (n + 2) && eqb (low' u) u)
      last u x y z w e = rw (x, y, z, w, eq-eqb (low' u) u e) refl

  long' : length vs' ≡ length vs + length run
  long' = length-append vs run

  -- the vertex at a row, old or new
  old_vertex : (i : ℕ) → i < length vs → get_or vs' i no_vertex ≡ get_or vs i no_vertex
  old_vertex i l = get_or_append_left vs run no_vertex i l

  new_vertex : (i : ℕ) → get_or vs' (length vs + i) no_vertex ≡ get_or run i no_vertex
  new_vertex i =
      let e : length vs + i - length vs ≡ i = omega arith in
      get_or-append_right vs run (length vs) (length vs + i) no_vertex refl (omega arith) ∙ ap (λ (j : ℕ). get_or run j no_vertex) e

  -- where an old side begins, and where the two new ones do
  abbrev row' : ℕ → ℕ
  row' = island_polygon (row_of us) n (length vs) (length vs + (length run - 1))

  start_old : (s : ℕ) → s < n → get_or vs' (row' s) no_vertex ≡ start_of us vs s
  start_old s l = ap (λ (i : ℕ). get_or vs' i no_vertex) (label_old (row_of us) n (length vs) (length vs + (length run - 1)) s l) ∙ old_vertex (row_of us s) (row_low us vs n s L.paired L.runs_stand l)

  start_n : get_or vs' (row' n) no_vertex ≡ get_or run 0 no_vertex
  start_n =
      let e : length vs ≡ length vs + 0 = omega arith in
      ap (λ (i : ℕ). get_or vs' i no_vertex) (label_n (row_of us) n (length vs) (length vs + (length run - 1)) ∙ e) ∙ new_vertex 0

  start_top : get_or vs' (row' (suc n)) no_vertex ≡ get_or run (length run - 1) no_vertex
  start_top = ap (λ (i : ℕ). get_or vs' i no_vertex) (label_top (row_of us) n (length vs) (length vs + (length run - 1))) ∙ new_vertex (length run - 1)

  abbrev node' : ℕ → ℕ
  node' = island_node (node_of us) n nodes

  old_node : (s : ℕ) → s < n → node' s < nodes
  old_node s l = omega (arith, node_old (node_of us) n nodes s l, node_low (next_of us) (node_of us) n nodes L.in_turns L.rings_close L.one_turn s l)

  abbrev v0 : Vertex
  v0 = get_or run 0 no_vertex

  abbrev v9 : Vertex
  v9 = get_or run (length run - 1) no_vertex

  self0 : same_place v0 v0 ≡ true
  self0 = place_self v0 (good_at run goods 0 (omega (arith, four)))

  self9 : same_place v9 v9 ≡ true
  self9 = place_self v9 (good_at run goods (length run - 1) (omega (arith, four)))

  both_new : (s t : ℕ) → (s ≡ n) ⊎ (s ≡ suc n) → (t ≡ n) ⊎ (t ≡ suc n) → same_place (get_or vs' (row' s) no_vertex) (get_or vs' (row' t) no_vertex) ≡ true
  both_new s t (inl d) (inl e) = rw (d, e, start_n) self0
  both_new s t (inl d) (inr e) = rw (d, e, start_n, start_top) ends
  both_new s t (inr d) (inl e) = rw (d, e, start_n, start_top) (place_sym v0 v9 ends)
  both_new s t (inr d) (inr e) = rw (d, e, start_top) self9

  node_new : (s : ℕ) → (s ≡ n) ⊎ (s ≡ suc n) → node' s ≡ nodes
  node_new s (inl e) = ap node' e ∙ node_n (node_of us) n nodes
  node_new s (inr e) = ap node' e ∙ node_top (node_of us) n nodes

  ends_together' : (s t : ℕ) → ((s < n + 2) × (t < n + 2) × (node' s ≡ node' t)) → same_place (get_or vs' (row' s) no_vertex) (get_or vs' (row' t) no_vertex) ≡ true
  ends_together' s t (ls, lt', e) =
      elim (which s ls) [
        | inl os ↦
            elim (which t lt') [
              | inl ot ↦
                  rw (start_old s os, start_old t ot)
                  (L.ends_together s t (os, ot, sym (node_old (node_of us) n nodes s os) ∙ (e ∙ node_old (node_of us) n nodes t ot)))
              | inr nt ↦ absurd (omega (arith, old_node s os, node_new t nt))
            ]
        | inr ns ↦
            elim (which t lt') [
              | inl ot ↦ absurd (omega (arith, old_node t ot, node_new s ns))
              | inr nt ↦ both_new s t ns nt
            ]
      ]

  all_finite' : AllFinite vs'
  all_finite' i l =
      elim (cases_lt i (length vs)) [
        | inl o ↦ rw (old_vertex i o) (L.all_finite i o)
        | inr g ↦
            let e : i ≡ length vs + (i - length vs) = omega arith in
            rw (e, new_vertex (i - length vs)) (good_at run goods (i - length vs) (omega (arith, long')))
      ]

  runs_stand' : (k : ℕ) → k + k + 1 < n + 2 → (row' (k + k) < row' (k + k + 1)) × (row' (k + k + 1) < length vs')
  runs_stand' k l =
      elim (cases_lt (k + k + 1) n) [
        | inl o ↦
            let r = L.runs_stand k o in
            let x = label_old (row_of us) n (length vs) (length vs + (length run - 1)) (k + k) (omega arith) in
            let y = label_old (row_of us) n (length vs) (length vs + (length run - 1)) (k + k + 1) o in
            (omega (arith, r.0, x, y), omega (arith, r.1, y, long'))
        | inr g ↦
            let d : k + k ≡ n = omega (arith, L.paired) in
            let e : k + k + 1 ≡ suc n = omega arith in
            let x = ap row' d ∙ label_n (row_of us) n (length vs) (length vs + (length run - 1)) in
            let y = ap row' e ∙ label_top (row_of us) n (length vs) (length vs + (length run - 1)) in
            (omega (arith, x, y, four), omega (arith, y, long', four))
      ]

  pub island_lawful : Lawful us' vs' (n + 2) (nodes + 1) (polygons + 1)
  island_lawful = record {
    paired = omega (arith, L.paired);
    polygon_zero = omega arith;
    polygons_few = omega (arith, L.polygons_few);
    nodes_few = omega (arith, L.nodes_few);
    in_rings = subst (λ (g : ℕ → ℕ). Ringed g (n + 2)) (sym next_is) K.ringed;
    in_turns = subst (λ (g : ℕ → ℕ). Ringed (turn g) (n + 2)) (sym next_is) K.turned;
    rings_close =
        subst (λ (g : ℕ → ℕ). Closes g (node_of us') (n + 2)) (sym next_is)
        (subst (λ (h : ℕ → ℕ). Closes (island_next (next_of us) n) h (n + 2)) (sym node_is) K.closes);
    one_polygon =
        subst (λ (g : ℕ → ℕ). Along g (polygon_of us') (n + 2)) (sym next_is)
        (subst (λ (h : ℕ → ℕ). Along (island_next (next_of us) n) h (n + 2)) (sym polygon_is) K.bounds);
    one_turn =
        subst (λ (g : ℕ → ℕ). Noded g (node_of us') (n + 2) (nodes + 1)) (sym next_is)
        (subst (λ (h : ℕ → ℕ). Noded (island_next (next_of us) n) h (n + 2) (nodes + 1)) (sym node_is) K.noded);
    polygons_known = subst (λ (h : ℕ → ℕ). (s : ℕ) → s < n + 2 → h s < polygons + 1) (sym polygon_is) polygons_known';
    polygons_have_rings =
        subst (λ (g : ℕ → ℕ). (q : ℕ) → 0 < q → q < polygons + 1 → 0 < occ q (names (polygon_of us') (rings g (n + 2)))) (sym next_is)
        (subst (λ (h : ℕ → ℕ). (q : ℕ) → 0 < q → q < polygons + 1 → 0 < occ q (names h (rings (island_next (next_of us) n) (n + 2)))) (sym polygon_is) polygons_have_rings');
    ends_together =
        subst (λ (h : ℕ → ℕ). (s t : ℕ) → ((s < n + 2) × (t < n + 2) × (h s ≡ h t)) → same_place (start_of us' vs' s) (start_of us' vs' t) ≡ true) (sym node_is)
        (subst (λ (w : ℕ → ℕ). (s t : ℕ) → ((s < n + 2) × (t < n + 2) × (node' s ≡ node' t)) → same_place (get_or vs' (w s) no_vertex) (get_or vs' (w t) no_vertex) ≡ true) (sym row_is) ends_together');
    all_finite = all_finite';
    runs_stand = subst (λ (w : ℕ → ℕ). (k : ℕ) → k + k + 1 < n + 2 → (w (k + k) < w (k + k + 1)) × (w (k + k + 1) < length vs')) (sym row_is) runs_stand';
    low_along =
        subst (λ (g : ℕ → ℕ). Along g (low_of us') (n + 2)) (sym next_is)
        (subst (λ (h : ℕ → ℕ). Along (island_next (next_of us) n) h (n + 2)) (sym low_is) J.bounds);
    low_below = subst (λ (h : ℕ → ℕ). (s : ℕ) → s < n + 2 → h s ≤ s) (sym low_is) low_below';
    low_names =
        subst (λ (g : ℕ → ℕ). (v : ℕ) → occ v (names (low_of us') (rings g (n + 2))) ≡ one_if (ltb v (n + 2) && eqb (low_of us' v) v)) (sym next_is)
        (subst (λ (h : ℕ → ℕ). (v : ℕ) → occ v (names h (rings (island_next (next_of us) n) (n + 2))) ≡ one_if (ltb v (n + 2) && eqb (h v) v)) (sym low_is)
        (λ v. island_names (next_of us) (low_of us) n n (suc n) L.in_rings L.low_along v ∙ ap (λ w. one_if (eqb v (suc n)) + (one_if (eqb v n) + w)) (L.low_names v) ∙ low_test v));
  }

  -- two rings more
  pub island_rings : length (rings (next_of us') (n + 2)) ≡ length (rings (next_of us) n) + 2
  island_rings = ap (λ (g : ℕ → ℕ). length (rings g (n + 2))) next_is ∙ K.count

  -- ---- the rings and the turns, as lists, and the polygons

  abbrev f : ℕ → ℕ
  f = next_of us

  abbrev g : ℕ → ℕ
  g = island_next f n

  old : (k : ℕ) → k < n → g k ≡ f k
  old = label_old f n n (suc n)

  one_of : (s k : ℕ) → s < n + 2 → one_if (eqb k s) + 0 ≤ one_if (ltb k (n + 2))
  one_of s k l = grind (arith, nat_tests)

  pub island_ring : (k : ℕ) → k < n → ring (next_of us') (n + 2) k ≡ ring f n k
  island_ring k l =
      ap (λ (h : ℕ → ℕ). ring h (n + 2) k) next_is
      ∙ sym (ring_renamed (λ x. x) (λ x. x) g f (n + 2) n (λ j i. omega arith) (λ j _. refl) old L.in_rings k l ∙ map-id (ring g (n + 2) k))

  pub island_turn : (k : ℕ) → k < n → ring (turn (next_of us')) (n + 2) k ≡ ring (turn f) n k
  island_turn k l =
      ap (λ (h : ℕ → ℕ). ring (turn h) (n + 2) k) next_is
      ∙ sym
      (ring_renamed (λ x. x) (λ x. x) (turn g) (turn f) (n + 2) n (λ j i. omega arith) (λ j _. refl) (λ j i. old (opp j) (opp_low n j L.paired i)) L.in_turns k l ∙ map-id (ring (turn g) (n + 2) k))

  pub unturned_alone : ring (next_of us') (n + 2) n ≡ n ∷ []
  unturned_alone = ap (λ (h : ℕ → ℕ). ring h (n + 2) n) next_is ∙ ring_is g (n + 2) n [] (label_n f n n (suc n)) (λ k. one_of n k (omega arith))

  pub turned_alone : ring (next_of us') (n + 2) (suc n) ≡ suc n ∷ []
  turned_alone = ap (λ (h : ℕ → ℕ). ring h (n + 2) (suc n)) next_is ∙ ring_is g (n + 2) (suc n) [] (label_top f n n (suc n)) (λ k. one_of (suc n) k (omega arith))

  two_of : (k : ℕ) → one_if (eqb k n) + (one_if (eqb k (suc n)) + 0) ≤ one_if (ltb k (n + 2))
  two_of k = grind (arith, nat_tests)

  pub island_own_turn : ring (turn (next_of us')) (n + 2) n ≡ n ∷ suc n ∷ []
  island_own_turn =
      ap (λ (h : ℕ → ℕ). ring (turn h) (n + 2) n) next_is
      ∙ ring_is (turn g) (n + 2) n (suc n ∷ []) (ap g (opp_new n L.paired) ∙ label_top f n n (suc n), ap g (opp_top n L.paired) ∙ label_n f n n (suc n)) two_of

  pub unturned_polygon : polygon_of us' n ≡ polygons
  unturned_polygon = ap (λ (h : ℕ → ℕ). h n) polygon_is ∙ label_n (polygon_of us) n polygons p

  pub turned_polygon : polygon_of us' (suc n) ≡ p
  turned_polygon = ap (λ (h : ℕ → ℕ). h (suc n)) polygon_is ∙ label_top (polygon_of us) n polygons p

  pub old_polygon : (k : ℕ) → k < n → polygon_of us' k ≡ polygon_of us k
  old_polygon k l = ap (λ (h : ℕ → ℕ). h k) polygon_is ∙ label_old (polygon_of us) n polygons p k l
