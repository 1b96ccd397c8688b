-- The state of a map two of whose arcs have become one.
use Rattle.std.proofs.Common.{◌≡◌, ℕ, suc, ◌+◌, ◌-◌, ◌/◌, ◌%◌, ◌<◌, ◌≤◌, true, false, cond, eqb, ltb, List, ◌++◌, map, length, get_or, take, drop, Ok, Err, sym, refl, ap, ◌∙◌, subst, inl, inr, arith}
use Rattle.std.specs.Prelude.{slice_range}
use Rattle.std.proofs.lemmas.Bool.{cases_eq, cond_both, ltb-true, lt-ltb, cond-true, cond-false, eq-eqb, ne_eqb, le-ltb}
use Rattle.std.proofs.lemmas.List.{get_or-append_right}
use Rattle.std.proofs.lemmas.List.FromFn.{length-map-range_with_len}
use Rattle.refusal.specs.declared.Refusal.TheVariants.{NoSuchElement, NotTwoEndsOfTwoArcs, NoRoom}
use Rattle.rings.specs.Circles.{ring, rings}
use Rattle.rings.specs.Law.{opp, turn}
use Rattle.rings.specs.Edits.{swapped, exchanged}
use Rattle.rings.specs.LetIn.{without}
use Rattle.topology.specs.declared.side.Side.{Side}
use Rattle.topology.specs.declared.vertex.Vertex.{Vertex}
use Rattle.topology.specs.Rows.{no_vertex, next_of, row_of, start_of}
use Rattle.topology.specs.States.{State}
use Rattle.topology.specs.Lawfuls.{Lawful}
use Rattle.topology.specs.Questions.{Rises}
use Rattle.topology.specs.Kept.{Stands}
use Rattle.topology.specs.Islands.{vertex_room}
use Rattle.topology.specs.Lifts.{lifted_sides, polygons_left}
use Rattle.topology.specs.Joins.{ends, of_two_arcs, TwoEnds, turned_if, run_of, joined_run, joined_at, joined_sides, lower_end, higher_end, joined, join_outcome, Joined}
use Rattle.topology.proofs.Assembling.{lawful_at}
use Rattle.topology.proofs.Settled.{Kept, refused}
use Rattle.topology.proofs.LiftLaw.{lifted_long}
use Rattle.topology.proofs.JoinRuns.{joined_long, joined_many, joined_start, joined_end, joined_good, joined_turned, joined_unturned}
use Rattle.topology.proofs.JoinLaw.{to_t, to_s, row_joined, polygons_stay, join_rings, join_lawful, rings₂, turns₂, nodes₂, polygons₂, one_run₂, other_runs₂}
use Rattle.topology.proofs.JoinEnds.{ends_tell}

-- the two ends of a node, from the outcome's words for them
pub two_told : (m : State) (v s t : ℕ) → of_two_arcs (ends m.sides v) ≡ true → s ≡ lower_end m v → t ≡ higher_end m v →
    TwoEnds m.sides s t
two_told m v s t h i j =
    let us = m.sides in
    subst (λ (x : ℕ). TwoEnds us x t) (sym i) (subst (λ (x : ℕ). TwoEnds us (lower_end m v) x) (sym j) (ends_tell us v h).0)

module _ (m : State) (law : Stands m) (s t : ℕ) (w : TwoEnds m.sides s t) where
  abbrev us : List Side
  us = m.sides

  abbrev vs : List Vertex
  vs = m.vertices

  abbrev a : ℕ
  a = s / 2

  abbrev b : ℕ
  b = t / 2

  abbrev z : ℕ
  z = length us / 2 - 1

  abbrev N : ℕ
  N = suc (suc (z + z))

  pub two_more : length us ≡ N
  two_more = omega (arith, law.paired, w.below)

  L : Lawful us vs N m.nodes m.polygons
  L = lawful_at {us = us} {vs = vs} m.nodes m.polygons refl refl two_more law

  pub lt : t < N
  lt = omega (arith, w.below, two_more)

  pub ls : s < N
  ls = omega (arith, w.rising, lt)

  abbrev run : List Vertex
  run = joined_run us vs s t

  abbrev many : ℕ → ℕ
  many k = row_of us (k + k + 1) + 1 - row_of us (k + k)

  run_long : length run ≡ many a + (many b - 1)
  run_long = joined_long us vs N L.paired L.runs_stand s t ls lt

  pub run_many : 2 ≤ length run
  run_many = joined_many us vs N L.paired L.runs_stand s t ls lt

  -- each side leads to the other
  pub leads_t : next_of us (opp s) ≡ t
  leads_t = to_t us vs m.nodes m.polygons z s t 0 0 two_more L w

  pub leads_s : next_of us (opp t) ≡ s
  leads_s = to_s us vs m.nodes m.polygons z s t 0 0 two_more L w

  -- the rows that the code goes by
  module _ (wstart wend rstart rend : ℕ) (ws : wstart ≡ row_of us (a + a)) (we : wend ≡ row_of us (a + a + 1) + 1)
      (rs : rstart ≡ cond (eqb (t % 2) 0) (row_of us (b + b) + 1) (row_of us (b + b))) (re : rend ≡ rstart + (row_of us (b + b + 1) - row_of us (b + b))) where
    stands_a : row_of us (a + a) < row_of us (a + a + 1)
    stands_a = (L.runs_stand a (omega (arith, ls))).0

    stands_b : row_of us (b + b) < row_of us (b + b + 1)
    stands_b = (L.runs_stand b (omega (arith, lt))).0

    pub count_told : wend - wstart + (rend - rstart) ≡ length run
    count_told = omega (arith, ws, we, re, run_long, stands_a, stands_b)

    rest_is : slice_range vs rstart rend ≡ take (many b - 1) (drop (cond (eqb (t % 2) 0) (row_of us (b + b) + 1) (row_of us (b + b))) vs)
    rest_is =
        let i : rend - rstart ≡ many b - 1 = omega (arith, re, stands_b) in
        ap (λ (k : ℕ). take k (drop rstart vs)) i ∙ ap (λ (k : ℕ). take (many b - 1) (drop k vs)) rs

    whole_is : slice_range vs wstart wend ≡ run_of us vs a
    whole_is = ap (λ (k : ℕ). slice_range vs k wend) ws ∙ ap (slice_range vs (row_of us (a + a))) we

    pub pushed_is : cond (eqb (s % 2) 1) (slice_range vs wstart wend ++ turned_if (eqb (s % 2) (t % 2)) (slice_range vs rstart rend))
        (turned_if (eqb (s % 2) (t % 2)) (slice_range vs rstart rend) ++ slice_range vs wstart wend) ≡ run
    pushed_is =
        let x = ap (turned_if (eqb (s % 2) (t % 2))) rest_is in
        elim (cases_eq (s % 2) 0) [
          | inl e ↦
              cond-false (eqb (s % 2) 1) _ _ (ne_eqb (s % 2) 1 (omega arith))
              ∙ (ap (λ (xs : List Vertex). xs ++ slice_range vs wstart wend) x
              ∙ (ap (λ (xs : List Vertex). turned_if (eqb (s % 2) (t % 2)) (take (many b - 1) (drop (cond (eqb (t % 2) 0) (row_of us (b + b) + 1) (row_of us (b + b))) vs)) ++ xs) whole_is
              ∙ sym (joined_unturned us vs N L.paired L.runs_stand s t ls lt e)))
          | inr ne ↦
              cond-true (eqb (s % 2) 1) _ _ (eq-eqb (s % 2) 1 (omega arith))
              ∙ (ap (λ (xs : List Vertex). slice_range vs wstart wend ++ xs) x
              ∙ (ap (λ (xs : List Vertex). xs ++ turned_if (eqb (s % 2) (t % 2)) (take (many b - 1) (drop (cond (eqb (t % 2) 0) (row_of us (b + b) + 1) (row_of us (b + b))) vs))) whole_is
              ∙ sym (joined_turned us vs N L.paired L.runs_stand s t ls lt ne)))
        ]

  -- ---- the map

  abbrev first : ℕ
  first = length vs

  abbrev last : ℕ
  last = length vs + (length run - 1)

  pub last_fits : last + 1 ≡ length vs + length run
  last_fits = omega (arith, run_many)

  abbrev pub us₁ : List Side
  us₁ = joined_sides us s t first last

  abbrev pub us₂ : List Side
  us₂ = lifted_sides us₁ m.nodes m.polygons b

  abbrev pub vs₂ : List Vertex
  vs₂ = vs ++ run

  pub long_us : length us₁ ≡ N
  long_us = length-map-range_with_len (joined_at us s t first last) 0 (length us) ∙ two_more

  pub long₂ : length us₂ ≡ z + z
  long₂ = lifted_long us₁ m.nodes m.polygons z b long_us (omega (arith, lt))

  -- where a side of the joined arc begins
  begins : (k : ℕ) → k < N → k / 2 ≡ a → start_of us₁ vs₂ k ≡ get_or run (cond (eqb (k % 2) 0) 0 (length run - 1)) no_vertex
  begins k l e =
      let i = row_joined us vs m.nodes m.polygons z s t first last two_more L w k l e in
      elim (cases_eq (k % 2) 0) [
        | inl d ↦
            let j = cond-true (eqb (k % 2) 0) first last (eq-eqb (k % 2) 0 d) in
            let n : length vs - length vs ≡ 0 = omega arith in
            ap (λ (x : ℕ). get_or vs₂ x no_vertex) (i ∙ j)
            ∙ (get_or-append_right vs run (length vs) (length vs) no_vertex refl (omega arith)
            ∙ ap (λ (x : ℕ). get_or run x no_vertex) (n ∙ sym (cond-true (eqb (k % 2) 0) 0 (length run - 1) (eq-eqb (k % 2) 0 d))))
        | inr d ↦
            let j = cond-false (eqb (k % 2) 0) first last (ne_eqb (k % 2) 0 d) in
            let n : last - length vs ≡ length run - 1 = omega arith in
            ap (λ (x : ℕ). get_or vs₂ x no_vertex) (i ∙ j)
            ∙ (get_or-append_right vs run (length vs) last no_vertex refl (omega arith)
            ∙ ap (λ (x : ℕ). get_or run x no_vertex) (n ∙ sym (cond-false (eqb (k % 2) 0) 0 (length run - 1) (ne_eqb (k % 2) 0 d))))
      ]

  pub law₂ : Lawful us₂ vs₂ (z + z) (m.nodes - 1) m.polygons
  law₂ =
      join_lawful us vs m.nodes m.polygons z s t first last two_more L w run refl last_fits run_many (joined_good us vs N L.paired L.runs_stand s t ls lt L.all_finite)
      (begins s ls refl ∙ joined_start us vs N L.paired L.runs_stand s t ls lt)
      (begins (opp s) (omega (arith, ls)) (omega arith) ∙ joined_end us vs N L.paired L.runs_stand s t ls lt)

  pub stay : polygons_left us₁ m.polygons b ≡ m.polygons
  stay = polygons_stay us vs m.nodes m.polygons z s t first last two_more L w run refl last_fits run_many

  fewer : length (rings (next_of us) N) ≡ length (rings (next_of us₂) (z + z))
  fewer = join_rings us vs m.nodes m.polygons z s t first last two_more L w run refl last_fits run_many

  -- what the join means
  pub join_means : 0 < m.nodes → Joined m (joined m s t) s t
  join_means some = record {
    hand = refl;
    arc_gone = omega (arith, two_more, long₂);
    node_gone = omega (arith, some);
    as_many_polygons = stay;
    as_many_rings = omega (arith, ap (λ (j : ℕ). length (rings (next_of us₂) j)) long₂, ap (λ (j : ℕ). length (rings (next_of us) j)) two_more, fewer);
    rings = λ k l.
        ap (λ (j : ℕ). ring (next_of us₂) j k) long₂
        ∙ (rings₂ us vs m.nodes m.polygons z s t first last two_more L w run refl last_fits run_many k (omega (arith, l, long₂))
        ∙ ap (λ (n : ℕ). map (exchanged b z) (without t (without (opp t) (ring (next_of us) n (exchanged b z k))))) (sym two_more));
    turns = λ k l.
        ap (λ (j : ℕ). ring (turn (next_of us₂)) j k) long₂
        ∙ (turns₂ us vs m.nodes m.polygons z s t first last two_more L w run refl last_fits run_many k (omega (arith, l, long₂))
        ∙ ap (λ (n : ℕ). map (λ j. exchanged b z (swapped s (opp t) j)) (ring (turn (next_of us)) n (swapped s (opp t) (exchanged b z k)))) (sym two_more));
    nodes = λ k l. nodes₂ us vs m.nodes m.polygons z s t first last two_more L w run refl last_fits run_many k (omega (arith, l, long₂));
    polygons = λ k l. polygons₂ us vs m.nodes m.polygons z s t first last two_more L w run refl last_fits run_many k (omega (arith, l, long₂));
    one_run = one_run₂ us vs m.nodes m.polygons z s t first last two_more L w run refl last_fits run_many;
    other_runs = λ c l ne. other_runs₂ us vs m.nodes m.polygons z s t first last two_more L w run refl last_fits run_many c (omega (arith, l, long₂)) ne;
  }

  -- nodes + rings - arcs is as it was
  pub join_sum : 0 < m.nodes → Rises 0 m (joined m s t)
  join_sum some =
      let x = ap (λ (j : ℕ). length (rings (next_of us₂) j)) long₂ in
      let y = ap (λ (j : ℕ). length (rings (next_of us) j)) two_more in
      let h : (z + z) / 2 + 1 ≡ length us / 2 = omega (arith, two_more) in
      let k = ap (λ (j : ℕ). j / 2) long₂ in
      omega (arith, x, y, fewer, h, k, some)

  -- what the outcome is
  pub join_outcome_is : (v : ℕ) → v < m.nodes → of_two_arcs (ends us v) ≡ true → s ≡ lower_end m v → t ≡ higher_end m v → vertex_room m (length run) ≡ true →
      join_outcome m v ≡ Ok (joined m s t)
  join_outcome_is v known h i j room =
      let c = lower_end m v in
      let d = higher_end m v in
      let e : vertex_room m (length (joined_run us vs c d)) ≡ true =
      subst (λ (k : ℕ). vertex_room m (length (joined_run us vs k d)) ≡ true) i (subst (λ (k : ℕ). vertex_room m (length (joined_run us vs s k)) ≡ true) j room) in
      cond-true (ltb v m.nodes) _ (Err NoSuchElement) (lt-ltb v m.nodes known)
      ∙ (cond-true (of_two_arcs (ends us v)) _ (Err NotTwoEndsOfTwoArcs) h
      ∙ (cond-true (vertex_room m (length (joined_run us vs c d))) (Ok (joined m c d)) (Err NoRoom) e
      ∙ (ap (λ (k : ℕ). Ok (joined m k d)) (sym i) ∙ ap (λ (k : ℕ). Ok (joined m s k)) (sym j))))

-- a join leaves the law and the sum
pub join_kept : (m : State) (v : ℕ) → Stands m → Kept m 0 0 (join_outcome m v)
join_kept m v law =
    cond_both (ltb v m.nodes) _ (Err NoSuchElement) (Kept m 0 0)
    (λ h.
    cond_both (of_two_arcs (ends m.sides v)) _ (Err NotTwoEndsOfTwoArcs) (Kept m 0 0)
    (λ i.
    cond_both (vertex_room m (length (joined_run m.sides m.vertices (lower_end m v) (higher_end m v)))) (Ok (joined m (lower_end m v) (higher_end m v))) (Err NoRoom) (Kept m 0 0)
    (λ _. made (ltb-true v m.nodes h) (ends_tell m.sides v i).0) (λ _. refused m 0 0 NoRoom law))
    (λ _. refused m 0 0 NotTwoEndsOfTwoArcs law))
    (λ _. refused m 0 0 NoSuchElement law)
  where
    s : ℕ
    s = lower_end m v

    t : ℕ
    t = higher_end m v

    made : v < m.nodes → TwoEnds m.sides s t → Kept m 0 0 (Ok (joined m s t))
    made h w =
        let long = long₂ m law s t w in
        record {
          stands = lawful_at (m.nodes - 1) (joined m s t).polygons refl refl (sym long) (subst (λ (k : ℕ). Lawful (joined m s t).sides (joined m s t).vertices (z m law s t w + z m law s t w) (m.nodes - 1) k) (sym (stay m law s t w)) (law₂ m law s t w));
          moves = omega (arith, join_sum m law s t w (omega (arith, h)));
        }

-- the refusals
module _ (m : State) (v : ℕ) where
  pub no_node : m.nodes ≤ v → join_outcome m v ≡ Err NoSuchElement
  no_node l = cond-false (ltb v m.nodes) _ (Err NoSuchElement) (le-ltb v m.nodes l)

  pub no_two : v < m.nodes → of_two_arcs (ends m.sides v) ≡ false → join_outcome m v ≡ Err NotTwoEndsOfTwoArcs
  no_two l h =
      cond-true (ltb v m.nodes) _ (Err NoSuchElement) (lt-ltb v m.nodes l) ∙ cond-false (of_two_arcs (ends m.sides v)) _ (Err NotTwoEndsOfTwoArcs) h

  pub no_room : (s t : ℕ) → v < m.nodes → of_two_arcs (ends m.sides v) ≡ true → s ≡ lower_end m v → t ≡ higher_end m v →
      vertex_room m (length (joined_run m.sides m.vertices s t)) ≡ false → join_outcome m v ≡ Err NoRoom
  no_room s t l h i j room =
      let us = m.sides in
      let vs = m.vertices in
      let c = lower_end m v in
      let d = higher_end m v in
      let e : vertex_room m (length (joined_run us vs c d)) ≡ false =
      subst (λ (k : ℕ). vertex_room m (length (joined_run us vs k d)) ≡ false) i (subst (λ (k : ℕ). vertex_room m (length (joined_run us vs s k)) ≡ false) j room) in
      cond-true (ltb v m.nodes) _ (Err NoSuchElement) (lt-ltb v m.nodes l)
      ∙ (cond-true (of_two_arcs (ends us v)) _ (Err NotTwoEndsOfTwoArcs) h ∙ cond-false (vertex_room m (length (joined_run us vs c d))) (Ok (joined m c d)) (Err NoRoom) e)
