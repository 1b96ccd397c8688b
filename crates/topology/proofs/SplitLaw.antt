-- A split keeps the law, and what it means for rings, turns and vertices.
use Rattle.std.proofs.Common.{◌≡◌, ℕ, suc, ◌+◌, ◌-◌, ◌/◌, ◌<◌, ◌≤◌, true, cond, ◌&&◌, eqb, ltb, leb, ◌⊎◌, List, [], ◌∷◌, ◌++◌, map, length, get_or, Ok, Err, Result, sym, refl, ap, ◌∙◌, subst, inl, inr, arith}
use Rattle.std.proofs.lemmas.Bool.{cases_eq, cases_lt, lt-ltb, le-leb, lt-leb, cond-true, cond-false}
use Rattle.std.proofs.lemmas.List.{get_or_append_left, get_or-append_right, length-append}
use Rattle.std.proofs.lemmas.Bool.Decides.{nat_tests}
use Rattle.refusal.specs.declared.Refusal.{Refusal}
use Rattle.refusal.specs.declared.Refusal.TheVariants.{NoSuchElement}
use Rattle.rings.specs.Circles.{one_if, occ, names, put, ring, rings}
use Rattle.rings.specs.Law.{opp, turn, Ringed, Closes, Along, Noded}
use Rattle.rings.specs.Edits.{split_next, split_node, split_polygon, fill}
use Rattle.rings.specs.LetIn.{let_in, split_after}
use Rattle.rings.proofs.Words.{node_low}
use Rattle.rings.proofs.Ringed.{ringed_circles}
use Rattle.rings.proofs.Closed.{one_image}
use Rattle.rings.proofs.Split.{SplitKeeps, split_keeps}
use Rattle.rings.proofs.SplitRings.{split_label, split_low_below, split_low_names, split_rings, split_turns, split_turn}
use Rattle.topology.specs.declared.side.Side.{Side}
use Rattle.topology.specs.declared.vertex.Vertex.{Vertex}
use Rattle.topology.specs.Rows.{no_vertex, next_of, node_of, polygon_of, row_of, low_of, same_place, start_of}
use Rattle.topology.specs.MapLaw.{AllFinite}
use Rattle.topology.specs.Lawfuls.{Lawful}
use Rattle.topology.specs.Questions.{picked}
use Rattle.topology.specs.Splits.{split_sides}
use Rattle.topology.proofs.Places.{place_self}
use Rattle.topology.proofs.IslandLaw.{row_low}
use Rattle.topology.proofs.SplitRows.{split_long, next_is, node_is, polygon_is, low_is, row_is}

-- the rows where sides begin
module _ (h : ℕ → ℕ) (n s o row : ℕ) (ls : s < n) (lo : o < n) (ne : s ≡ o → ⊥) where
  abbrev begins : ℕ → ℕ
  begins = put (put (put (put h s (h s)) o row) n row) (suc n) (h o)

  begins_old : (x : ℕ) → x < n → (x ≡ o → ⊥) → begins x ≡ h x
  begins_old x l nx = grind (arith, nat_tests)

  begins_o : begins o ≡ row
  begins_o = grind (arith, nat_tests)

  begins_n : begins n ≡ row
  begins_n = grind (arith, nat_tests)

  begins_top : begins (suc n) ≡ h o
  begins_top = grind (arith, nat_tests)

module _ (h : ℕ → ℕ) (n o new : ℕ) (lo : o < n) where
  node_old : (x : ℕ) → x < n → (x ≡ o → ⊥) → split_node h n o new x ≡ h x
  node_old x l nx = grind (arith, nat_tests)

  node_at_o : split_node h n o new o ≡ new
  node_at_o = grind (arith, nat_tests)

  node_n : split_node h n o new n ≡ new
  node_n = grind (arith, nat_tests)

  node_top : split_node h n o new (suc n) ≡ h o
  node_top = grind (arith, nat_tests)

label_low : (h : ℕ → ℕ) (n s o c x : ℕ) → h s < c → h o < c → (x < n → h x < c) → x < n + 2 → split_polygon h n s o x < c
label_low h n s o c x ls lo l b = grind (arith, nat_tests)

label_first : (h : ℕ → ℕ) (n s o : ℕ) → split_polygon h n s o n ≡ h s
label_first h n s o = grind (arith, nat_tests)

label_second : (h : ℕ → ℕ) (n s o : ℕ) → split_polygon h n s o (suc n) ≡ h o
label_second h n s o = grind (arith, nat_tests)

label_same : (h : ℕ → ℕ) (n s o x : ℕ) → x < n → split_polygon h n s o x ≡ h x
label_same h n s o x l = grind (arith, nat_tests)

module _ (us : List Side) (vs : List Vertex) (nodes polygons a k p : ℕ) (L : Lawful us vs (length us) nodes polygons) (here : a + a + 1 < length us)
    (lp : p < length us) (leads : next_of us p ≡ a + a + 1) (k0 : 0 < k) (kl : row_of us (a + a) + k < row_of us (a + a + 1)) where
  abbrev n : ℕ
  n = length us

  abbrev s : ℕ
  s = a + a

  abbrev o : ℕ
  o = a + a + 1

  abbrev row : ℕ
  row = row_of us s + k

  abbrev us' : List Side
  us' = split_sides us nodes a row

  abbrev vs' : List Vertex
  vs' = vs ++ get_or vs row no_vertex ∷ []

  abbrev f : ℕ → ℕ
  f = next_of us

  abbrev g : ℕ → ℕ
  g = split_next f n s (opp s) p

  abbrev node' : ℕ → ℕ
  node' = split_node (node_of us) n (opp s) nodes

  abbrev pol' : ℕ → ℕ
  pol' = split_polygon (polygon_of us) n s (opp s)

  abbrev low' : ℕ → ℕ
  low' = split_polygon (low_of us) n s (opp s)

  abbrev row' : ℕ → ℕ
  row' = put (put (put (put (row_of us) s (row_of us s)) o row) n row) (suc n) (row_of us o)

  ls : s < n
  ls = omega arith

  other_side : opp s ≡ o
  other_side = omega arith

  lo : opp s < n
  lo = omega arith

  apart : s ≡ o → ⊥
  apart = omega arith

  e : f p ≡ opp s
  e = leads ∙ sym other_side

  only : (x : ℕ) → x < n → f x ≡ o → x ≡ p
  only x l i = one_image f n (rings f n) (ringed_circles f n L.in_rings) x p l lp (i ∙ sym leads)

  next_as : next_of us' ≡ g
  next_as = next_is us nodes a row p here lp leads only

  node_as : node_of us' ≡ node'
  node_as = node_is us nodes a row p here lp leads only

  pol_as : polygon_of us' ≡ pol'
  pol_as = polygon_is us nodes a row p here lp leads only

  low_as : low_of us' ≡ low'
  low_as = low_is us nodes a row p here lp leads only

  row_as : row_of us' ≡ row'
  row_as = row_is us nodes a row p here lp leads only

  long : length us' ≡ n + 2
  long = split_long us nodes a row p here lp leads only

  K : SplitKeeps f (node_of us) (polygon_of us) n nodes s p
  K = split_keeps f (node_of us) (polygon_of us) n nodes s p L.paired L.in_rings L.in_turns L.rings_close L.one_polygon L.one_turn ls lp e

  -- the same with the lowest sides for the polygons
  J : SplitKeeps f (node_of us) (low_of us) n nodes s p
  J = split_keeps f (node_of us) (low_of us) n nodes s p L.paired L.in_rings L.in_turns L.rings_close L.low_along L.one_turn ls lp e

  polygons_known' : (x : ℕ) → x < n + 2 → pol' x < polygons
  polygons_known' x l = label_low (polygon_of us) n s (opp s) polygons x (L.polygons_known s ls) (L.polygons_known (opp s) lo) (L.polygons_known x) l

  polygons_have_rings' : (q : ℕ) → 0 < q → q < polygons → 0 < occ q (names pol' (rings g (n + 2)))
  polygons_have_rings' q h l =
      subst (λ (j : ℕ). 0 < j) (sym (split_label f n s p L.paired L.in_rings ls lp e (polygon_of us) L.one_polygon q)) (L.polygons_have_rings q h l)

  stand : (row_of us s < row_of us o) × (row_of us o < length vs)
  stand = L.runs_stand a here

  longer : length vs' ≡ length vs + 1
  longer = length-append vs (get_or vs row no_vertex ∷ [])

  old_vertex : (i : ℕ) → i < length vs → get_or vs' i no_vertex ≡ get_or vs i no_vertex
  old_vertex i l = get_or_append_left vs (get_or vs row no_vertex ∷ []) no_vertex i l

  all_finite' : AllFinite vs'
  all_finite' i l =
      elim (cases_lt i (length vs)) [
        | inl b ↦ rw (old_vertex i b) (L.all_finite i b)
        | inr b ↦
            let d : i - length vs ≡ 0 = omega (arith, longer) in
            let at : get_or vs' i no_vertex ≡ get_or vs row no_vertex =
            get_or-append_right vs (get_or vs row no_vertex ∷ []) (length vs) i no_vertex refl b ∙ ap (λ (j : ℕ). get_or (get_or vs row no_vertex ∷ []) j no_vertex) d in
            rw at (L.all_finite row (omega (arith, stand.1, kl)))
      ]

  -- a side begins at the new node, at vertex k of the arc, or where an old side began
  begin : (x : ℕ) → x < n + 2 → ((node' x ≡ nodes) × (row' x ≡ row)) ⊎ ((y : ℕ) × (y < n) × (node' x ≡ node_of us y) × (row' x ≡ row_of us y))
  begin x l =
      elim (cases_eq x o) [
        | inl q ↦ inl (ap node' (q ∙ sym other_side) ∙ node_at_o (node_of us) n (opp s) nodes lo, ap row' q ∙ begins_o (row_of us) n s o row ls here apart)
        | inr nq ↦
            elim (cases_lt x n) [
              | inl lx ↦ inr (x, lx, node_old (node_of us) n (opp s) nodes lo x lx (λ i. nq (i ∙ other_side)), begins_old (row_of us) n s o row ls here apart x lx nq)
              | inr gx ↦
                  elim (cases_eq x n) [
                    | inl q ↦ inl (ap node' q ∙ node_n (node_of us) n (opp s) nodes lo, ap row' q ∙ begins_n (row_of us) n s o row ls here apart)
                    | inr nq' ↦
                        let q : x ≡ suc n = omega arith in
                        inr (
                          o,
                          here,
                          ap node' q ∙ (node_top (node_of us) n (opp s) nodes lo ∙ ap (node_of us) other_side),
                          ap row' q ∙ begins_top (row_of us) n s o row ls here apart,
                        )
                  ]
            ]
      ]

  old_node : (y : ℕ) → y < n → node_of us y < nodes
  old_node y l = node_low f (node_of us) n nodes L.in_turns L.rings_close L.one_turn y l

  abbrev start' : ℕ → Vertex
  start' x = get_or vs' (row' x) no_vertex

  start_new : (x : ℕ) → row' x ≡ row → start' x ≡ get_or vs row no_vertex
  start_new x i = ap (λ (j : ℕ). get_or vs' j no_vertex) i ∙ old_vertex row (omega (arith, stand.1, kl))

  start_old : (x y : ℕ) → y < n → row' x ≡ row_of us y → start' x ≡ start_of us vs y
  start_old x y l i = ap (λ (j : ℕ). get_or vs' j no_vertex) i ∙ old_vertex (row_of us y) (row_low us vs n y L.paired L.runs_stand l)

  ends_together' : (x y : ℕ) → ((x < n + 2) × (y < n + 2) × (node' x ≡ node' y)) → same_place (start' x) (start' y) ≡ true
  ends_together' x y (lx, ly, i) =
      elim (begin x lx) [
        | inl (nx, rx) ↦
            elim (begin y ly) [
              | inl (ny, ry) ↦ rw (start_new x rx, start_new y ry) (place_self (get_or vs row no_vertex) (L.all_finite row (omega (arith, stand.1, kl))))
              | inr (z, lz, nz, rz) ↦ absurd (omega (arith, nx, nz, i, old_node z lz))
            ]
        | inr (w, lw, nw, rw') ↦
            elim (begin y ly) [
              | inl (ny, ry) ↦ absurd (omega (arith, nw, ny, i, old_node w lw))
              | inr (z, lz, nz, rz) ↦ rw (start_old x w lw rw', start_old y z lz rz) (L.ends_together w z (lw, lz, sym nw ∙ (i ∙ nz)))
            ]
      ]

  runs_stand' : (b : ℕ) → b + b + 1 < n + 2 → (row' (b + b) < row' (b + b + 1)) × (row' (b + b + 1) < length vs')
  runs_stand' b l =
      elim (cases_eq b a) [
        | inl q ↦
            let x : row' (b + b) ≡ row_of us s = ap (λ (j : ℕ). row' (j + j)) q ∙ begins_old (row_of us) n s o row ls here apart s ls apart in
            let y : row' (b + b + 1) ≡ row = ap (λ (j : ℕ). row' (j + j + 1)) q ∙ begins_o (row_of us) n s o row ls here apart in
            (omega (arith, x, y, k0), omega (arith, y, stand.1, kl, longer))
        | inr nq ↦
            elim (cases_lt (b + b + 1) n) [
              | inl lb ↦
                  let w = L.runs_stand b lb in
                  let x : row' (b + b) ≡ row_of us (b + b) = begins_old (row_of us) n s o row ls here apart (b + b) (omega arith) (omega arith) in
                  let y : row' (b + b + 1) ≡ row_of us (b + b + 1) = begins_old (row_of us) n s o row ls here apart (b + b + 1) lb (omega arith) in
                  (omega (arith, w.0, x, y), omega (arith, w.1, y, longer))
              | inr gb ↦
                  let i : b + b ≡ n = omega (arith, L.paired) in
                  let j : b + b + 1 ≡ suc n = omega arith in
                  let x : row' (b + b) ≡ row = ap row' i ∙ begins_n (row_of us) n s o row ls here apart in
                  let y : row' (b + b + 1) ≡ row_of us o = ap row' j ∙ begins_top (row_of us) n s o row ls here apart in
                  (omega (arith, x, y, kl), omega (arith, y, stand.1, longer))
            ]
      ]

  pub split_lawful : Lawful us' vs' (n + 2) (nodes + 1) polygons
  split_lawful = record {
    paired = omega (arith, L.paired);
    polygon_zero = L.polygon_zero;
    polygons_few = omega (arith, L.polygons_few);
    nodes_few = omega (arith, L.nodes_few);
    in_rings = subst (λ (h : ℕ → ℕ). Ringed h (n + 2)) (sym next_as) K.ringed;
    in_turns = subst (λ (h : ℕ → ℕ). Ringed (turn h) (n + 2)) (sym next_as) K.turned;
    rings_close =
        subst (λ (h : ℕ → ℕ). Closes h (node_of us') (n + 2)) (sym next_as)
        (subst (λ (h : ℕ → ℕ). Closes g h (n + 2)) (sym node_as) K.closes);
    one_polygon =
        subst (λ (h : ℕ → ℕ). Along h (polygon_of us') (n + 2)) (sym next_as)
        (subst (λ (h : ℕ → ℕ). Along g h (n + 2)) (sym pol_as) K.bounds);
    one_turn =
        subst (λ (h : ℕ → ℕ). Noded h (node_of us') (n + 2) (nodes + 1)) (sym next_as)
        (subst (λ (h : ℕ → ℕ). Noded g h (n + 2) (nodes + 1)) (sym node_as) K.noded);
    polygons_known = subst (λ (h : ℕ → ℕ). (x : ℕ) → x < n + 2 → h x < polygons) (sym pol_as) polygons_known';
    polygons_have_rings =
        subst (λ (h : ℕ → ℕ). (q : ℕ) → 0 < q → q < polygons → 0 < occ q (names (polygon_of us') (rings h (n + 2)))) (sym next_as)
        (subst (λ (h : ℕ → ℕ). (q : ℕ) → 0 < q → q < polygons → 0 < occ q (names h (rings g (n + 2)))) (sym pol_as) polygons_have_rings');
    ends_together =
        subst (λ (h : ℕ → ℕ). (x y : ℕ) → ((x < n + 2) × (y < n + 2) × (h x ≡ h y)) → same_place (start_of us' vs' x) (start_of us' vs' y) ≡ true) (sym node_as)
        (subst (λ (h : ℕ → ℕ). (x y : ℕ) → ((x < n + 2) × (y < n + 2) × (node' x ≡ node' y)) → same_place (get_or vs' (h x) no_vertex) (get_or vs' (h y) no_vertex) ≡ true) (sym row_as) ends_together');
    all_finite = all_finite';
    runs_stand = subst (λ (h : ℕ → ℕ). (b : ℕ) → b + b + 1 < n + 2 → (h (b + b) < h (b + b + 1)) × (h (b + b + 1) < length vs')) (sym row_as) runs_stand';
    low_along =
        subst (λ (h : ℕ → ℕ). Along h (low_of us') (n + 2)) (sym next_as)
        (subst (λ (h : ℕ → ℕ). Along g h (n + 2)) (sym low_as) J.bounds);
    low_below = subst (λ (h : ℕ → ℕ). (x : ℕ) → x < n + 2 → h x ≤ x) (sym low_as) (split_low_below f n s p L.paired L.in_rings ls lp e (low_of us) L.low_along L.low_below L.low_names);
    low_names =
        subst (λ (h : ℕ → ℕ). (v : ℕ) → occ v (names (low_of us') (rings h (n + 2))) ≡ one_if (ltb v (n + 2) && eqb (low_of us' v) v)) (sym next_as)
        (subst (λ (h : ℕ → ℕ). (v : ℕ) → occ v (names h (rings g (n + 2))) ≡ one_if (ltb v (n + 2) && eqb (h v) v)) (sym low_as)
        (split_low_names f n s p L.paired L.in_rings ls lp e (low_of us) L.low_along L.low_below L.low_names));
  }

  pub long_after : length us' ≡ n + 2
  long_after = long

  -- what that means for the rings and the turns
  pub rings_after : rings (next_of us') (length us') ≡ map (let_in (split_after f n s o)) (rings f n)
  rings_after =
      ap (λ (h : ℕ → ℕ). rings h (length us')) next_as
      ∙ (ap (rings g) long
      ∙ (split_rings f n s p L.paired L.in_rings ls lp e (low_of us) L.low_along L.low_below L.low_names ∙ ap (λ (j : ℕ). map (let_in (split_after f n s j)) (rings f n)) other_side))

  pub new_turn_after : ring (turn (next_of us')) (length us') n ≡ n ∷ o ∷ []
  new_turn_after =
      ap (λ (h : ℕ → ℕ). ring (turn h) (length us') n) next_as
      ∙ (ap (λ (m : ℕ). ring (turn g) m n) long ∙ (split_turn f n s p L.paired L.in_rings ls lp e ∙ ap (λ (j : ℕ). n ∷ j ∷ []) other_side))

  pub turns_after : (x : ℕ) → x < n → ring (turn (next_of us')) (length us') (fill (suc n) o x) ≡ map (fill (suc n) o) (ring (turn f) n x)
  turns_after x l =
      ap (λ (h : ℕ → ℕ). ring (turn h) (length us') (fill (suc n) o x)) next_as
      ∙ (ap (λ (m : ℕ). ring (turn g) m (fill (suc n) o x)) long
      ∙ subst (λ (j : ℕ). ring (turn g) (n + 2) (fill (suc n) j x) ≡ map (fill (suc n) j) (ring (turn f) n x)) other_side (split_turns f n s p L.paired L.in_rings ls lp e L.in_turns x l))

  -- the rows of arc a and of the new arc
  rows_told : (b i j : ℕ) → b < length us' / 2 → row' (b + b) ≡ i → row' (b + b + 1) ≡ j →
      ◌≡◌ {A = Result (ℕ × ℕ) Refusal} (cond (ltb b (length us' / 2)) (Ok (row_of us' (b + b), row_of us' (b + b + 1))) (Err NoSuchElement)) (Ok (i, j))
  rows_told b i j l x y =
      cond-true (ltb b (length us' / 2)) (Ok (row_of us' (b + b), row_of us' (b + b + 1))) (Err NoSuchElement) (lt-ltb b (length us' / 2) l)
      ∙ (ap (λ (h : ℕ → ℕ). Ok (h (b + b), h (b + b + 1))) row_as ∙ (ap (λ (w : ℕ). Ok (w, row' (b + b + 1))) x ∙ ap (λ (w : ℕ). Ok (i, w)) y))

  rows_were : ◌≡◌ {A = Result (ℕ × ℕ) Refusal} (cond (ltb a (n / 2)) (Ok (row_of us s, row_of us o)) (Err NoSuchElement)) (Ok (row_of us s, row_of us o))
  rows_were = cond-true (ltb a (n / 2)) (Ok (row_of us s, row_of us o)) (Err NoSuchElement) (lt-ltb a (n / 2) (omega (arith, L.paired)))

  abbrev rows_of : List Side → ℕ → Result (ℕ × ℕ) Refusal
  rows_of xs b = cond (ltb b (length xs / 2)) (Ok (row_of xs (b + b), row_of xs (b + b + 1))) (Err NoSuchElement)

  -- arc a has its vertices up to k ..
  pub front_after : (j : ℕ) → picked vs' j (rows_of us' a) ≡ cond (leb j k) (picked vs j (rows_of us a)) (Err NoSuchElement)
  front_after j =
      ap (picked vs' j) (rows_told a (row_of us s) row (omega (arith, long, L.paired)) (begins_old (row_of us) n s o row ls here apart s ls apart) (begins_o (row_of us) n s o row ls here apart))
      ∙ elim (cases_lt k j) [
        | inl l ↦ cond-false (leb j (row - row_of us s)) (Ok (get_or vs' (row_of us s + j) no_vertex)) (Err NoSuchElement) (lt-leb j (row - row_of us s) (omega arith)) ∙ sym (cond-false (leb j k) (picked vs j (rows_of us a)) (Err NoSuchElement) (lt-leb j k l))
        | inr l ↦
            cond-true (leb j (row - row_of us s)) (Ok (get_or vs' (row_of us s + j) no_vertex)) (Err NoSuchElement) (le-leb j (row - row_of us s) (omega arith))
            ∙ (ap Ok (old_vertex (row_of us s + j) (omega (arith, kl, stand.1)))
            ∙ sym (cond-true (leb j k) (picked vs j (rows_of us a)) (Err NoSuchElement) (le-leb j k l)
            ∙ (ap (picked vs j) rows_were ∙ cond-true (leb j (row_of us o - row_of us s)) (Ok (get_or vs (row_of us s + j) no_vertex)) (Err NoSuchElement) (le-leb j (row_of us o - row_of us s) (omega (arith, kl))))))
      ]

  -- .. and the new arc has them from k on
  pub back_after : (j : ℕ) → picked vs' j (rows_of us' (n / 2)) ≡ picked vs (k + j) (rows_of us a)
  back_after j =
      let x : n / 2 + n / 2 ≡ n = omega (arith, L.paired) in
      let y : n / 2 + n / 2 + 1 ≡ suc n = omega arith in
      ap (picked vs' j) (rows_told (n / 2) row (row_of us o) (omega (arith, long, L.paired)) (ap row' x ∙ begins_n (row_of us) n s o row ls here apart) (ap row' y ∙ begins_top (row_of us) n s o row ls here apart))
      ∙ (elim (cases_lt (row_of us o - row) j) [
        | inl l ↦
            cond-false (leb j (row_of us o - row)) (Ok (get_or vs' (row + j) no_vertex)) (Err NoSuchElement) (lt-leb j (row_of us o - row) l)
            ∙ sym (cond-false (leb (k + j) (row_of us o - row_of us s)) (Ok (get_or vs (row_of us s + (k + j)) no_vertex)) (Err NoSuchElement) (lt-leb (k + j) (row_of us o - row_of us s) (omega (arith, kl))))
        | inr l ↦
            let z : row + j ≡ row_of us s + (k + j) = omega arith in
            cond-true (leb j (row_of us o - row)) (Ok (get_or vs' (row + j) no_vertex)) (Err NoSuchElement) (le-leb j (row_of us o - row) l)
            ∙ (ap Ok (old_vertex (row + j) (omega (arith, kl, stand.1)) ∙ ap (λ (i : ℕ). get_or vs i no_vertex) z)
            ∙ sym (cond-true (leb (k + j) (row_of us o - row_of us s)) (Ok (get_or vs (row_of us s + (k + j)) no_vertex)) (Err NoSuchElement) (le-leb (k + j) (row_of us o - row_of us s) (omega (arith, kl)))))
      ]
      ∙ ap (picked vs (k + j)) (sym rows_were))

  -- .. and the other arcs have theirs
  pub others_after : (b j : ℕ) → b < n / 2 → (b ≡ a → ⊥) → picked vs' j (rows_of us' b) ≡ picked vs j (rows_of us b)
  others_after b j l ne =
      let x = row_of us (b + b) in
      let y = row_of us (b + b + 1) in
      let low : b + b + 1 < n = omega (arith, L.paired) in
      let w = L.runs_stand b low in
      ap (picked vs' j) (rows_told b x y (omega (arith, long)) (begins_old (row_of us) n s o row ls here apart (b + b) (omega arith) (omega arith)) (begins_old (row_of us) n s o row ls here apart (b + b + 1) low (omega arith)))
      ∙ (elim (cases_lt (y - x) j) [
        | inl g ↦
            cond-false (leb j (y - x)) (Ok (get_or vs' (x + j) no_vertex)) (Err NoSuchElement) (lt-leb j (y - x) g)
            ∙ sym (cond-false (leb j (y - x)) (Ok (get_or vs (x + j) no_vertex)) (Err NoSuchElement) (lt-leb j (y - x) g))
        | inr g ↦
            ap (λ (r : Vertex). cond (leb j (y - x)) (Ok r) (Err NoSuchElement)) (old_vertex (x + j) (omega (arith, g, w.0, w.1)))
      ]
      ∙ ap (picked vs j) (sym (cond-true (ltb b (n / 2)) (Ok (x, y)) (Err NoSuchElement) (lt-ltb b (n / 2) l))))

  pub ends_after : (node_of us' o ≡ nodes) × (node_of us' n ≡ nodes) × (node_of us' (suc n) ≡ node_of us o)
  ends_after = (
    ap (λ (h : ℕ → ℕ). h o) node_as ∙ (ap node' (sym other_side) ∙ node_at_o (node_of us) n (opp s) nodes lo),
    ap (λ (h : ℕ → ℕ). h n) node_as ∙ node_n (node_of us) n (opp s) nodes lo,
    ap (λ (h : ℕ → ℕ). h (suc n)) node_as ∙ (node_top (node_of us) n (opp s) nodes lo ∙ ap (node_of us) other_side),
  )

  -- ---- the polygons

  pub unturned_polygon : polygon_of us' n ≡ polygon_of us s
  unturned_polygon = ap (λ (h : ℕ → ℕ). h n) pol_as ∙ label_first (polygon_of us) n s (opp s)

  pub turned_polygon : polygon_of us' (suc n) ≡ polygon_of us o
  turned_polygon = ap (λ (h : ℕ → ℕ). h (suc n)) pol_as ∙ (label_second (polygon_of us) n s (opp s) ∙ ap (polygon_of us) other_side)

  pub old_polygon : (x : ℕ) → x < n → polygon_of us' x ≡ polygon_of us x
  old_polygon x l = ap (λ (h : ℕ → ℕ). h x) pol_as ∙ label_same (polygon_of us) n s (opp s) x l
