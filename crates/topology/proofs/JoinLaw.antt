-- A join keeps the law.
use Rattle.std.proofs.Common.{◌≡◌, ℕ, suc, ◌+◌, ◌-◌, ◌/◌, ◌%◌, ◌<◌, ◌≤◌, min, max, true, ◌&&◌, ◌||◌, eqb, ltb, cond, not, ◌⊎◌, List, ◌++◌, map, length, get_or, take, drop, sym, refl, ap, ◌∙◌, subst, inl, inr, arith}
use Rattle.std.proofs.lemmas.Bool.{cases_eq, cases_lt, cond-true, cond-false, eq-eqb, ne_eqb, and_from, and_right, or_left, or_right, not_from_false, lt-ltb, le-ltb}
use Rattle.std.proofs.lemmas.List.{get_or-map, get_or_append_left, get_or-append_right, length-append, length-map, drop_at, take_all}
use Rattle.std.proofs.lemmas.Bool.Decides.{nat_tests}
use Rattle.std.proofs.lemmas.List.FromFn.{length-map-range_with_len, get_or-map-range_with_len}
use Rattle.rings.specs.Circles.{one_if, ring, rings, meets}
use Rattle.rings.specs.Law.{opp, turn, Ringed}
use Rattle.rings.specs.Edits.{swapped, exchanged, fill, leave}
use Rattle.rings.specs.LetIn.{without}
use Rattle.rings.proofs.Occurs.{one_other}
use Rattle.rings.proofs.Ringed.{ringed_circles}
use Rattle.rings.proofs.Closed.{within}
use Rattle.rings.proofs.Split.{opp_low, opp_opp}
use Rattle.rings.proofs.Words.{turn_meets}
use Rattle.rings.proofs.Exchange.{swapped_twice, swapped_low, swapped_first, swapped_second, swapped_else, exchanged_twice, exchanged_opp, exchanged_else, exchanged_even, exchanged_odd}
use Rattle.rings.proofs.Renamed.{ring_renamed}
use Rattle.rings.proofs.TakesOver.{ringed_over, count_over, along_over, names_over, ring_over, turned_over, turn_over, closes_over, noded_over}
use Rattle.topology.specs.declared.side.Side.{Side}
use Rattle.topology.specs.declared.vertex.Vertex.{Vertex}
use Rattle.topology.specs.Rows.{no_side, no_vertex, next_of, node_of, polygon_of, row_of, low_of, good, start_of}
use Rattle.topology.specs.MapLaw.{PolygonsKnown, PolygonsHaveRings, EndsTogether, AllFinite, RunsStand, LowBelow, LowNames}
use Rattle.topology.specs.Lawfuls.{Lawful}
use Rattle.topology.specs.Islands.{all_good}
use Rattle.topology.specs.Lifts.{closed_alone, no_other_begins, ring_left, other_under, last_polygon, polygons_left, lifted_sides}
use Rattle.topology.specs.Joins.{TwoEnds, run_of, joined_at, joined_sides}
use Rattle.topology.proofs.Growth.{run_before}
use Rattle.topology.proofs.Alone.{no_other_from, other_found}
use Rattle.topology.proofs.Places.{place_self}
use Rattle.topology.proofs.IslandLaw.{row_low, good_at}
use Rattle.topology.proofs.DissolveLaw.{fill_itself}
use Rattle.topology.proofs.LiftLaw.{lift_lawful, lift_rings, σ-low, not_gone, row_is, next_is, node_is, alone_meets, fill_apart, own_node}

min_same : (p q : ℕ) → p ≡ q → min p q ≡ p
min_same p q e = grind (arith, nat_tests)

max_same : (p q : ℕ) → p ≡ q → max p q ≡ p
max_same p q e = grind (arith, nat_tests)

-- where both sides have one polygon, none changes its number
polygon_kept : (p q last k : ℕ) → p ≡ q → last ≡ p → fill (max p q) last (fill (min p q) (max p q) k) ≡ k
polygon_kept p q last k e i =
    fill_itself (max p q) last (fill (min p q) (max p q) k) (max_same p q e ∙ sym i)
    ∙ fill_itself (min p q) (max p q) k (min_same p q e ∙ sym (max_same p q e))

module _ (us : List Side) (vs : List Vertex) (nodes polygons z s t first last : ℕ) (long : length us ≡ suc (suc (z + z)))
    (L : Lawful us vs (suc (suc (z + z))) nodes polygons) (two : TwoEnds us s t) where
  abbrev N : ℕ
  N = suc (suc (z + z))

  abbrev m : ℕ
  m = z + z

  abbrev a : ℕ
  a = s / 2

  abbrev b : ℕ
  b = t / 2

  abbrev o : ℕ
  o = opp s

  abbrev u : ℕ
  u = opp t

  abbrev f : ℕ → ℕ
  f = next_of us

  even : N % 2 ≡ 0
  even = L.paired

  lt : t < N
  lt = omega (arith, two.below, long)

  ls : s < N
  ls = omega (arith, two.rising, lt)

  lo : o < N
  lo = opp_low N s even ls

  lu : u < N
  lu = opp_low N t even lt

  pub b_low : b < suc z
  b_low = omega (arith, lt)

  ts : t ≡ s → ⊥
  ts e = two.arcs (ap (λ (k : ℕ). k / 2) e)

  to : t ≡ o → ⊥
  to e = two.arcs (ap (λ (k : ℕ). k / 2) e ∙ omega arith)

  -- ---- the two sides turn into each other

  turn_in : (k : ℕ) → k < N → turn f k < N
  turn_in = within (turn f) N (rings (turn f) N) (ringed_circles (turn f) N L.in_turns)

  turned : (k : ℕ) → k < N → node_of us k ≡ node_of us s → (turn f k ≡ s) ⊎ (turn f k ≡ t)
  turned k l e = two.only (turn f k) (omega (arith, turn_in k l, long)) (L.rings_close k l ∙ e)

  meeting : (k l : ℕ) → k < N → l < N → node_of us k ≡ node_of us l → meets (turn f) N k l ≡ true
  meeting k l lk ll e = turn_meets f (node_of us) N nodes L.in_turns L.rings_close L.one_turn k l lk ll e

  pub to_t : f o ≡ t
  to_t =
      elim (turned s ls refl) [
        | inl e ↦ absurd (ts (alone_meets (turn f) (suc (z + z)) s t e (meeting s t ls lt (sym two.same))))
        | inr e ↦ e
      ]

  pub to_s : f u ≡ s
  to_s =
      elim (turned t lt two.same) [
        | inl e ↦ e
        | inr e ↦ absurd (ts (sym (alone_meets (turn f) (suc (z + z)) t s e (meeting t s lt ls two.same))))
      ]

  -- ---- the rows once the arc of s goes on

  abbrev us₁ : List Side
  us₁ = joined_sides us s t first last

  pub long₁ : length us₁ ≡ N
  long₁ = length-map-range_with_len (joined_at us s t first last) 0 (length us) ∙ long

  pub row₁ : (k : ℕ) → k < N → get_or us₁ k no_side ≡ joined_at us s t first last k
  row₁ k l = get_or-map-range_with_len (joined_at us s t first last) 0 (length us) k k no_side (omega (arith, long)) (omega arith)

  abbrev h : ℕ → ℕ
  h = next_of us₁

  is : (k : ℕ) → k < N → h k ≡ leave (leave f u) t k
  is k l = ap (λ (r : Side). r.next) (row₁ k l)

  abbrev ρ : ℕ → ℕ
  ρ = swapped s u

  ρ-low : (k : ℕ) → k < N → ρ k < N
  ρ-low k l = swapped_low s u k N ls lu l

  pub node₁ : (k : ℕ) → k < N → node_of us₁ k ≡ node_of us (ρ k)
  node₁ k l = ap (λ (r : Side). r.node) (row₁ k l)

  -- a side of the arc that goes
  going : (k : ℕ) → k / 2 ≡ b → (k ≡ t) ⊎ (k ≡ u)
  going k e = elim (cases_eq k t) [ inl i ↦ inl i | inr n ↦ inr (omega arith) ]

  u_of : u / 2 ≡ b
  u_of = omega arith

  -- what the rows of other arcs, and of that which goes, tell
  told_else : (F G : ℕ → ℕ) (k : ℕ) → (k ≡ t → ⊥) → (k ≡ u → ⊥) → cond (eqb (k / 2) b) (F k) (G k) ≡ G k
  told_else F G k nt nu = cond-false (eqb (k / 2) b) (F k) (G k) (ne_eqb (k / 2) b (λ e. elim (going k e) [ inl i ↦ nt i | inr i ↦ nu i ]))

  told_going : (F G : ℕ → ℕ) (k : ℕ) → k / 2 ≡ b → cond (eqb (k / 2) b) (F k) (G k) ≡ F k
  told_going F G k e = cond-true (eqb (k / 2) b) (F k) (G k) (eq-eqb (k / 2) b e)

  polygon_is : (k : ℕ) → k < N → polygon_of us₁ k ≡ cond (eqb (k / 2) b) (polygon_of us t) (polygon_of us k)
  polygon_is k l = ap (λ (r : Side). r.polygon) (row₁ k l)

  pub polygon_else : (k : ℕ) → k < N → (k ≡ t → ⊥) → (k ≡ u → ⊥) → polygon_of us₁ k ≡ polygon_of us k
  polygon_else k l nt nu = polygon_is k l ∙ told_else (λ _. polygon_of us t) (polygon_of us) k nt nu

  polygon_going : (k : ℕ) → k < N → k / 2 ≡ b → polygon_of us₁ k ≡ polygon_of us t
  polygon_going k l e = polygon_is k l ∙ told_going (λ _. polygon_of us t) (polygon_of us) k e

  low_is : (k : ℕ) → k < N → low_of us₁ k ≡ cond (eqb (k / 2) b) k (low_of us k)
  low_is k l = ap (λ (r : Side). r.low) (row₁ k l)

  low_else : (k : ℕ) → k < N → (k ≡ t → ⊥) → (k ≡ u → ⊥) → low_of us₁ k ≡ low_of us k
  low_else k l nt nu = low_is k l ∙ told_else (λ j. j) (low_of us) k nt nu

  low_going : (k : ℕ) → k < N → k / 2 ≡ b → low_of us₁ k ≡ k
  low_going k l e = low_is k l ∙ told_going (λ j. j) (low_of us) k e

  -- ---- the law of the rings and turns

  pub in_rings₁ : Ringed h N
  in_rings₁ = ringed_over f h N s t even L.in_rings L.in_turns ls lt ts to to_t to_s is

  pub count₁ : length (rings h N) ≡ suc (suc (length (rings f N)))
  count₁ = count_over f h N s t even L.in_rings L.in_turns ls lt ts to to_t to_s is

  pub in_turns₁ : Ringed (turn h) N
  in_turns₁ = turned_over f h N s t even L.in_rings L.in_turns ls lt ts to to_t to_s is

  low_below₁ : LowBelow us₁ N
  low_below₁ k l =
      elim (cases_eq (k / 2) b) [
        | inl e ↦ omega (arith, low_going k l e)
        | inr ne ↦ omega (arith, low_is k l, cond-false (eqb (k / 2) b) k (low_of us k) (ne_eqb (k / 2) b ne), L.low_below k l)
      ]

  -- neither side of the arc that goes is the lowest of its ring
  low_t : low_of us t ≡ t → ⊥
  low_t e = let w = ap (low_of us) (sym to_t) ∙ L.low_along o lo in omega (arith, w, L.low_below o lo, two.rising, two.arcs)

  low_u : low_of us u ≡ u → ⊥
  low_u e = let w = ap (low_of us) (sym to_s) ∙ L.low_along u lu in omega (arith, w, L.low_below s ls, two.rising, two.arcs)

  lowest_else : (v : ℕ) → (v ≡ t → ⊥) → (v ≡ u → ⊥) → one_if (ltb v N && eqb (low_of us₁ v) v) ≡ one_if (ltb v N && eqb (low_of us v) v)
  lowest_else v nt nu =
      elim (cases_lt v N) [
        | inl l ↦ ap (λ (j : ℕ). one_if (ltb v N && eqb j v)) (low_else v l nt nu)
        | inr g ↦ rw (le-ltb v N g) refl
      ]

  low_names₁ : LowNames us₁ N
  low_names₁ v =
      let w = names_over f h N s t even L.in_rings L.in_turns ls lt ts to to_t to_s is (low_of us) (low_of us₁) L.low_along low_else v in
      let it = ap (λ (j : ℕ). one_if (eqb v j)) (low_going t lt refl) in
      let iu = ap (λ (j : ℕ). one_if (eqb v j)) (low_going u lu u_of) in
      elim (cases_eq v t) [
        | inl e ↦
            let x = ap one_if (and_from (ltb v N) (eqb (low_of us₁ v) v) (rw e (lt-ltb t N lt)) (eq-eqb (low_of us₁ v) v (ap (low_of us₁) e ∙ (low_going t lt refl ∙ sym e)))) in
            let y = L.low_names v ∙ ap one_if (and_right (ltb v N) (eqb (low_of us v) v) (ne_eqb (low_of us v) v (λ i. low_t (ap (low_of us) (sym e) ∙ (i ∙ e))))) in
            omega (arith, w, it, iu, x, y, ap one_if (eq-eqb v t e), one_other v u (λ i. t_u (sym e ∙ i)))
        | inr nt ↦
            elim (cases_eq v u) [
              | inl e ↦
                  let x = ap one_if (and_from (ltb v N) (eqb (low_of us₁ v) v) (rw e (lt-ltb u N lu)) (eq-eqb (low_of us₁ v) v (ap (low_of us₁) e ∙ (low_going u lu u_of ∙ sym e)))) in
                  let y = L.low_names v ∙ ap one_if (and_right (ltb v N) (eqb (low_of us v) v) (ne_eqb (low_of us v) v (λ i. low_u (ap (low_of us) (sym e) ∙ (i ∙ e))))) in
                  omega (arith, w, it, iu, x, y, ap one_if (eq-eqb v u e), one_other v t nt)
              | inr nu ↦ omega (arith, w, it, iu, one_other v t nt, one_other v u nu, L.low_names v, lowest_else v nt nu)
            ]
      ]
    where
      t_u : t ≡ u → ⊥
      t_u e = omega arith

  -- ---- the polygons

  polygons_known₁ : PolygonsKnown us₁ N polygons
  polygons_known₁ k l =
      elim (cases_eq (k / 2) b) [
        | inl e ↦ omega (arith, polygon_going k l e, L.polygons_known t lt)
        | inr ne ↦ omega (arith, polygon_is k l, cond-false (eqb (k / 2) b) (polygon_of us t) (polygon_of us k) (ne_eqb (k / 2) b ne), L.polygons_known k l)
      ]

  polygons_have_rings₁ : PolygonsHaveRings us₁ N polygons
  polygons_have_rings₁ v l k =
      omega (
        arith,
        names_over f h N s t even L.in_rings L.in_turns ls lt ts to to_t to_s is (polygon_of us) (polygon_of us₁) L.one_polygon polygon_else v,
        L.polygons_have_rings v l k,
      )

  -- ---- the vertices: no law of an arc on its own asks where they lie, but that its ends share a place; so all at one place

  abbrev place : Vertex
  place = start_of us vs s

  place_good : good place ≡ true
  place_good = L.all_finite (row_of us s) (row_low us vs N s even L.runs_stand ls)

  row_else : (k : ℕ) → k < N → (k / 2 ≡ a → ⊥) → row_of us₁ k ≡ row_of us k
  row_else k l ne = ap (λ (r : Side). r.row) (row₁ k l) ∙ cond-false (eqb (k / 2) a) (cond (eqb (k % 2) 0) first last) (row_of us k) (ne_eqb (k / 2) a ne)

  pub row_joined : (k : ℕ) → k < N → k / 2 ≡ a → row_of us₁ k ≡ cond (eqb (k % 2) 0) first last
  row_joined k l e = ap (λ (r : Side). r.row) (row₁ k l) ∙ cond-true (eqb (k / 2) a) (cond (eqb (k % 2) 0) first last) (row_of us k) (eq-eqb (k / 2) a e)

  module _ (run : List Vertex) (fits_first : first ≡ length vs) (fits_last : last + 1 ≡ length vs + length run) (many : 2 ≤ length run) where
    abbrev vs' : List Vertex
    vs' = vs ++ run

    long' : length vs' ≡ length vs + length run
    long' = length-append vs run

    abbrev vs₁ : List Vertex
    vs₁ = map (λ _. place) vs'

    long_vs₁ : length vs₁ ≡ length vs + length run
    long_vs₁ = length-map vs' (λ _. place) ∙ long'

    placed : (i : ℕ) → i < length vs₁ → get_or vs₁ i no_vertex ≡ place
    placed i l = get_or-map (λ _. place) vs' i no_vertex no_vertex (omega (arith, l, length-map vs' (λ _. place)))

    runs_stand₁ : RunsStand us₁ vs₁ N
    runs_stand₁ k l =
        elim (cases_eq k a) [
          | inl e ↦
              let i = row_joined (k + k) (omega arith) (omega arith) in
              let j = row_joined (k + k + 1) l (omega arith) in
              let x = cond-true (eqb ((k + k) % 2) 0) first last (eq-eqb ((k + k) % 2) 0 (omega arith)) in
              let y = cond-false (eqb ((k + k + 1) % 2) 0) first last (ne_eqb ((k + k + 1) % 2) 0 (omega arith)) in
              (omega (arith, i, j, x, y), omega (arith, j, y, long_vs₁))
          | inr ne ↦
              let r = L.runs_stand k l in
              let i = row_else (k + k) (omega arith) (omega arith) in
              let j = row_else (k + k + 1) l (omega arith) in
              (omega (arith, r.0, i, j), omega (arith, r.1, j, long_vs₁))
        ]

    all_finite₁ : AllFinite vs₁
    all_finite₁ i l = ap good (placed i l) ∙ place_good

    ends_together₁ : EndsTogether us₁ vs₁ N
    ends_together₁ k l (lk, ll, e) =
        rw (placed (row_of us₁ k) (row_low us₁ vs₁ N k even runs_stand₁ lk), placed (row_of us₁ l) (row_low us₁ vs₁ N l even runs_stand₁ ll)) (place_self place place_good)

    L₁ : Lawful us₁ vs₁ N nodes polygons
    L₁ = record {
      paired = even;
      polygon_zero = L.polygon_zero;
      polygons_few = L.polygons_few;
      nodes_few = L.nodes_few;
      in_rings = in_rings₁;
      in_turns = in_turns₁;
      rings_close = closes_over f h N s t even L.in_rings L.in_turns ls lt ts to to_t to_s is (node_of us) (node_of us₁) nodes L.rings_close node₁;
      one_polygon = along_over f h N s t even L.in_rings L.in_turns ls lt ts to to_t to_s is (polygon_of us) (polygon_of us₁) L.one_polygon polygon_else;
      one_turn = noded_over f h N s t even L.in_rings L.in_turns ls lt ts to to_t to_s is (node_of us) (node_of us₁) nodes L.rings_close node₁ L.one_turn;
      polygons_known = polygons_known₁;
      polygons_have_rings = polygons_have_rings₁;
      ends_together = ends_together₁;
      all_finite = all_finite₁;
      runs_stand = runs_stand₁;
      low_along = along_over f h N s t even L.in_rings L.in_turns ls lt ts to to_t to_s is (low_of us) (low_of us₁) L.low_along low_else;
      low_below = low_below₁;
      low_names = low_names₁;
    }

    -- ---- the arc that goes is closed at the node, alone

    own : (k : ℕ) → k < N → k / 2 ≡ b → node_of us₁ k ≡ node_of us s
    own k l e =
        node₁ k l ∙
        elim (going k e) [
          | inl i ↦ ap (node_of us) (ap ρ i ∙ swapped_else s u t ts (λ j. omega (arith, j))) ∙ two.same
          | inr i ↦ ap (node_of us) (ap ρ i ∙ swapped_second s u)
        ]

    lone : (k : ℕ) → k < N → node_of us₁ k ≡ node_of us s → k / 2 ≡ b
    lone k l e =
        let back = swapped_twice s u k in
        elim (two.only (ρ k) (omega (arith, ρ-low k l, long)) (sym (node₁ k l) ∙ e)) [
          | inl i ↦ let w : k ≡ u = sym back ∙ (ap ρ i ∙ swapped_first s u) in omega arith
          | inr i ↦ let w : k ≡ t = sym back ∙ (ap ρ i ∙ swapped_else s u t ts (λ j. omega (arith, j))) in omega arith
        ]

    own_unturned : node_of us₁ (b + b) ≡ node_of us s
    own_unturned = own (b + b) (omega (arith, b_low)) (omega arith)

    closed₁ : closed_alone us₁ b ≡ true
    closed₁ =
        and_from (eqb (node_of us₁ (b + b)) (node_of us₁ (b + b + 1))) (no_other_begins us₁ b (length us₁))
        (eq-eqb (node_of us₁ (b + b)) (node_of us₁ (b + b + 1)) (own_unturned ∙ sym (own (b + b + 1) (omega (arith, b_low)) (omega arith))))
        (no_other_from us₁ b (length us₁) (λ k l e. lone k (omega (arith, l, long₁)) (e ∙ own_unturned)))

    -- the polygon of its sides
    abbrev p : ℕ
    p = polygon_of us₁ (b + b)

    abbrev q : ℕ
    q = polygon_of us₁ (b + b + 1)

    p_is : p ≡ polygon_of us t
    p_is = polygon_going (b + b) (omega (arith, b_low)) (omega arith)

    p_q : p ≡ q
    p_q = p_is ∙ sym (polygon_going (b + b + 1) (omega (arith, b_low)) (omega arith))

    o_u : o ≡ u → ⊥
    o_u e = ts (sym (opp_opp t) ∙ (ap opp (sym e) ∙ opp_opp s))

    left₁ : ring_left us₁ b ≡ true
    left₁ =
        or_right (eqb (min p q) 0) (other_under us₁ b p q (length us₁))
        (other_found us₁ b p q o (length us₁) (omega (arith, long₁, lo))
        (and_from (not (eqb (o / 2) b)) (eqb (polygon_of us₁ o) p || eqb (polygon_of us₁ o) q)
        (not_from_false (eqb (o / 2) b) (ne_eqb (o / 2) b (λ e. two.arcs (omega (arith, e)))))
        (or_left (eqb (polygon_of us₁ o) p) (eqb (polygon_of us₁ o) q)
        (eq-eqb (polygon_of us₁ o) p (polygon_else o lo (λ e. to (sym e)) o_u ∙ (sym (L.one_polygon o lo) ∙ (ap (polygon_of us) to_t ∙ sym p_is)))))))

    -- ---- it goes, with the node

    abbrev σ : ℕ → ℕ
    σ = exchanged b z

    abbrev us₂ : List Side
    us₂ = lifted_sides us₁ nodes polygons b

    abbrev g : ℕ → ℕ
    g = next_of us₂

    L₂ : Lawful us₂ vs₁ m (nodes - 1) (polygons_left us₁ polygons b)
    L₂ = lift_lawful us₁ vs₁ nodes polygons z b long₁ b_low L₁ closed₁ left₁

    pub polygons_stay : polygons_left us₁ polygons b ≡ polygons
    polygons_stay = cond-true (eqb p q) polygons (polygons - 1) (eq-eqb p q p_q)

    row₂ : (k : ℕ) → k < m → row_of us₂ k ≡ row_of us₁ (σ k)
    row₂ k l = ap (λ (r : Side). r.row) (row_is us₁ vs₁ nodes polygons z b long₁ b_low L₁ closed₁ left₁ k l)

    node₂ : (k : ℕ) → k < m → node_of us₂ k ≡ fill (node_of us₁ (b + b)) (nodes - 1) (node_of us₁ (σ k))
    node₂ = node_is us₁ vs₁ nodes polygons z b long₁ b_low L₁ closed₁ left₁

    low₂ : (k : ℕ) → k < m → σ k < N
    low₂ k l = σ-low us₁ vs₁ nodes polygons z b long₁ b_low L₁ closed₁ left₁ k (omega arith)

    stays : (k : ℕ) → k < m → (σ k ≡ t → ⊥) × (σ k ≡ u → ⊥)
    stays k l =
        let (n0, n1) = not_gone us₁ vs₁ nodes polygons z b long₁ b_low L₁ closed₁ left₁ k l in
        let no : σ k / 2 ≡ b → ⊥ = λ e. elim (cases_eq (σ k % 2) 0) [ inl i ↦ n0 (omega arith) | inr i ↦ n1 (omega arith) ] in
        (λ e. no (ap (λ (j : ℕ). j / 2) e), λ e. no (ap (λ (j : ℕ). j / 2) e ∙ u_of))

    pub join_rings : length (rings f N) ≡ length (rings g m)
    join_rings = omega (arith, count₁, lift_rings us₁ vs₁ nodes polygons z b long₁ b_low L₁ closed₁ left₁)

    -- ---- where the sides begin

    module _ (goods : all_good run ≡ true) (at_s : start_of us₁ vs' s ≡ start_of us vs u) (at_o : start_of us₁ vs' o ≡ start_of us vs o) where
      start₁ : (k : ℕ) → k < N → (k ≡ t → ⊥) → (k ≡ u → ⊥) → start_of us₁ vs' k ≡ start_of us vs (ρ k)
      start₁ k l nt nu =
          elim (cases_eq k s) [
            | inl e ↦ ap (start_of us₁ vs') e ∙ (at_s ∙ sym (ap (start_of us vs) (ap ρ e ∙ swapped_first s u)))
            | inr ns ↦
                elim (cases_eq k o) [
                  | inl e ↦ ap (start_of us₁ vs') e ∙ (at_o ∙ ap (start_of us vs) (sym e ∙ sym (swapped_else s u k ns nu)))
                  | inr other ↦
                      ap (λ (j : ℕ). get_or vs' j no_vertex) (row_else k l (λ e. elim (cases_eq (k % 2) (s % 2)) [ inl i ↦ ns (omega arith) | inr i ↦ other (omega arith) ]))
                      ∙ (get_or_append_left vs run no_vertex (row_of us k) (row_low us vs N k even L.runs_stand l) ∙ ap (start_of us vs) (sym (swapped_else s u k ns nu)))
                ]
          ]

      start₂ : (k : ℕ) → k < m → start_of us₂ vs' k ≡ start_of us vs (ρ (σ k))
      start₂ k l = let (nt, nu) = stays k l in ap (λ (j : ℕ). get_or vs' j no_vertex) (row₂ k l) ∙ start₁ (σ k) (low₂ k l) nt nu

      ends_together₂ : EndsTogether us₂ vs' m
      ends_together₂ k l (lk, ll, e) =
          let apart : (j : ℕ) → j < m → node_of us₁ (σ j) ≡ node_of us₁ (b + b) → ⊥ = own_node us₁ vs₁ nodes polygons z b long₁ b_low L₁ closed₁ left₁ in
          let i = fill_apart (node_of us₁ (b + b)) (nodes - 1) (node_of us₁ (σ k)) (node_of us₁ (σ l)) (apart k lk) (apart l ll) (sym (node₂ k lk) ∙ (e ∙ node₂ l ll)) in
          rw (start₂ k lk, start₂ l ll)
          (L.ends_together (ρ (σ k)) (ρ (σ l)) (ρ-low (σ k) (low₂ k lk), ρ-low (σ l) (low₂ l ll), sym (node₁ (σ k) (low₂ k lk)) ∙ (i ∙ node₁ (σ l) (low₂ l ll))))

      all_finite₂ : AllFinite vs'
      all_finite₂ i l =
          elim (cases_lt i (length vs)) [
            | inl k ↦ ap good (get_or_append_left vs run no_vertex i k) ∙ L.all_finite i k
            | inr k ↦ ap good (get_or-append_right vs run (length vs) i no_vertex refl k) ∙ good_at run goods (i - length vs) (omega (arith, l, long'))
          ]

      runs_stand₂ : RunsStand us₂ vs' m
      runs_stand₂ k l = let r = L₂.runs_stand k l in (r.0, omega (arith, r.1, long_vs₁, long'))

      pub join_lawful : Lawful us₂ vs' m (nodes - 1) polygons
      join_lawful =
          subst (λ (k : ℕ). Lawful us₂ vs' m (nodes - 1) k) polygons_stay
          (record {
            paired = L₂.paired;
            polygon_zero = L₂.polygon_zero;
            polygons_few = L₂.polygons_few;
            nodes_few = L₂.nodes_few;
            in_rings = L₂.in_rings;
            in_turns = L₂.in_turns;
            rings_close = L₂.rings_close;
            one_polygon = L₂.one_polygon;
            one_turn = L₂.one_turn;
            polygons_known = L₂.polygons_known;
            polygons_have_rings = L₂.polygons_have_rings;
            ends_together = ends_together₂;
            all_finite = all_finite₂;
            runs_stand = runs_stand₂;
            low_along = L₂.low_along;
            low_below = L₂.low_below;
            low_names = L₂.low_names;
          })

    -- ---- what the join means

    next₂ : (k : ℕ) → k < m → g k ≡ σ (h (σ k))
    next₂ = next_is us₁ vs₁ nodes polygons z b long₁ b_low L₁ closed₁ left₁

    leads₂ : (k : ℕ) → k < m → h (σ k) ≡ σ (g k)
    leads₂ k l = sym (ap σ (next₂ k l) ∙ exchanged_twice b z (h (σ k)))

    pub rings₂ : (k : ℕ) → k < m → ring g m k ≡ map σ (without t (without u (ring f N (σ k))))
    rings₂ k l =
        let (nt, nu) = stays k l in
        ring_renamed σ σ h g N m low₂ (λ j _. exchanged_twice b z j) leads₂ L₂.in_rings k l
        ∙ ap (map σ) (ring_over f h N s t even L.in_rings L.in_turns ls lt ts to to_t to_s is (σ k) (low₂ k l) nt nu)

    turns_lead : (k : ℕ) → k < m → turn f (ρ (σ k)) ≡ ρ (σ (turn g k))
    turns_lead k l =
        turn_over f h N s t even L.in_rings L.in_turns ls lt ts to to_t to_s is (σ k) (low₂ k l)
        ∙ ap ρ (ap h (exchanged_opp b z k) ∙ leads₂ (opp k) (opp_low m k (omega arith) l))

    pub turns₂ : (k : ℕ) → k < m → ring (turn g) m k ≡ map (λ j. σ (ρ j)) (ring (turn f) N (ρ (σ k)))
    turns₂ k l =
        ring_renamed (λ j. ρ (σ j)) (λ j. σ (ρ j)) (turn f) (turn g) N m (λ j i. ρ-low (σ j) (low₂ j i)) (λ j _. ap σ (swapped_twice s u (σ j)) ∙ exchanged_twice b z j) turns_lead L₂.in_turns
        k l

    pub nodes₂ : (k : ℕ) → k < m → node_of us₂ k ≡ fill (node_of us s) (nodes - 1) (node_of us (ρ (σ k)))
    nodes₂ k l = node₂ k l ∙ (ap (λ (j : ℕ). fill j (nodes - 1) (node_of us₁ (σ k))) own_unturned ∙ ap (fill (node_of us s) (nodes - 1)) (node₁ (σ k) (low₂ k l)))

    pub polygons₂ : (k : ℕ) → k < m → polygon_of us₂ k ≡ polygon_of us (σ k)
    polygons₂ k l =
        let (nt, nu) = stays k l in
        ap (λ (r : Side). r.polygon) (row_is us₁ vs₁ nodes polygons z b long₁ b_low L₁ closed₁ left₁ k l)
        ∙ (polygon_kept p q (last_polygon us₁ polygons b) (polygon_of us₁ (σ k)) p_q (cond-true (eqb p q) p (polygons - 1) (eq-eqb p q p_q))
        ∙ polygon_else (σ k) (low₂ k l) nt nu)

    -- the arc of s, which keeps its number, has the joined run
    pub one_run₂ : run_of us₂ vs' a ≡ run
    one_run₂ =
        let la : a + a + 1 < m = omega (arith, two.rising, two.arcs, lt) in
        let i : σ (a + a) ≡ a + a = exchanged_else b z (a + a) (λ e. two.arcs (omega (arith, e))) (λ e. omega (arith, e, la)) in
        let j : σ (a + a + 1) ≡ a + a + 1 = exchanged_else b z (a + a + 1) (λ e. two.arcs (omega (arith, e))) (λ e. omega (arith, e, la)) in
        let x : row_of us₂ (a + a) ≡ first =
        row₂ (a + a) (omega (arith, la))
        ∙ (ap (row_of us₁) i ∙ (row_joined (a + a) (omega (arith, la)) (omega arith) ∙ cond-true (eqb ((a + a) % 2) 0) first last (eq-eqb ((a + a) % 2) 0 (omega arith)))) in
        let y : row_of us₂ (a + a + 1) ≡ last =
        row₂ (a + a + 1) la
        ∙ (ap (row_of us₁) j ∙ (row_joined (a + a + 1) (omega (arith, la)) (omega arith) ∙ cond-false (eqb ((a + a + 1) % 2) 0) first last (ne_eqb ((a + a + 1) % 2) 0 (omega arith)))) in
        let k : row_of us₂ (a + a + 1) + 1 - row_of us₂ (a + a) ≡ length run = omega (arith, x, y) in
        ap (λ (n : ℕ). take n (drop (row_of us₂ (a + a)) vs')) k
        ∙ (ap (λ (n : ℕ). take (length run) (drop n vs')) (x ∙ fits_first)
        ∙ (ap (take (length run)) (drop_at vs run (length vs) refl) ∙ take_all (length run) run (omega arith)))

    -- the others have theirs
    pub other_runs₂ : (c : ℕ) → c < z → (c ≡ a → ⊥) → run_of us₂ vs' c ≡ run_of us vs (swapped b z c)
    other_runs₂ c l ne =
        let d = swapped b z c in
        let na : d ≡ a → ⊥ =
        λ e. ne (sym (swapped_twice b z c) ∙ (ap (swapped b z) e ∙ swapped_else b z a (λ i. two.arcs (sym i)) (λ i. omega (arith, i, two.rising, two.arcs, lt)))) in
        let i : σ (c + c) ≡ d + d = exchanged_even b z c in
        let j : σ (c + c + 1) ≡ d + d + 1 = exchanged_odd b z c in
        let ld : d + d + 1 < N = omega (arith, j, low₂ (c + c + 1) (omega arith)) in
        let r = L.runs_stand d ld in
        let x : row_of us₂ (c + c) ≡ row_of us (d + d) = row₂ (c + c) (omega arith) ∙ (ap (row_of us₁) i ∙ row_else (d + d) (omega (arith, ld)) (λ e. na (omega (arith, e)))) in
        let y : row_of us₂ (c + c + 1) ≡ row_of us (d + d + 1) = row₂ (c + c + 1) (omega arith) ∙ (ap (row_of us₁) j ∙ row_else (d + d + 1) ld (λ e. na (omega (arith, e)))) in
        rw (x, y) (run_before vs run (row_of us (d + d)) (row_of us (d + d + 1) + 1 - row_of us (d + d)) (omega (arith, r.0, r.1)))
