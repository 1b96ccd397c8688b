-- A dissolve keeps the law, and two rings become one.
use Rattle.std.proofs.Common.{◌≡◌, ℕ, suc, ◌+◌, ◌-◌, ◌<◌, ◌≤◌, true, false, not, eqb, min, ◌⊎◌, ◌&&◌, ◌||◌, List, map, length, get_or, sym, ap, ◌∙◌, subst, arith, ◌∷◌, ◌++◌, inl, inr}
use Rattle.std.proofs.lemmas.Bool.{cases_eq, cases_lt}
use Rattle.std.proofs.lemmas.Bool.Decides.{nat_tests}
use Rattle.rings.specs.Circles.{walk, ring, rings, meets, one_if}
use Rattle.rings.specs.Law.{turn}
use Rattle.rings.specs.LetIn.{without}
use Rattle.rings.proofs.Exchange.{exchanged_twice, exchanged_last_unturned, exchanged_last_turned}
use Rattle.rings.specs.Edits.{exchanged, fill}
use Rattle.rings.proofs.LastOut.{meets_less}
use Rattle.topology.specs.declared.side.Side.{Side}
use Rattle.topology.specs.declared.vertex.Vertex.{Vertex}
use Rattle.topology.specs.Rows.{no_vertex, next_of, node_of, polygon_of, row_of, start_of}
use Rattle.topology.specs.MapLaw.{EndsTogether, RunsStand}
use Rattle.topology.specs.Lawfuls.{Lawful}
use Rattle.topology.specs.Lifts.{closed_alone, ring_left, lifted_sides, polygons_left, merged_number}
use Rattle.topology.specs.Dissolves.{share_ring, both_alone, freed}
use Rattle.topology.proofs.LiftLaw.{lift_lawful, lift_rings, σ-low, not_gone, row_is, next_is, node_is, lift_ring, lift_turn, lift_polygons, lift_polygon_gone}
use Rattle.topology.proofs.FreedLaw.{freed_lawful, freed_alone, freed_left, freed_long, freed_meets, vertices_long, at_s, at_o, in_rings₁, in_turns₁, count₁, node_else, row_same, row_s, polygon_s, polygon_o, polygon_merged, freed_first, freed_ring, freed_other, freed_turn}

-- the lower of the two and either of them become one number
merged_same : (p q polygons x : ℕ) → (x ≡ p) ⊎ (x ≡ q) → merged_number p q polygons (min p q) ≡ merged_number p q polygons x
merged_same p q polygons x e = grind (arith, nat_tests)

pub fill_itself : (n m x : ℕ) → n ≡ m → fill n m x ≡ x
fill_itself n m x e = grind (arith, nat_tests)

module _ (us : List Side) (vs : List Vertex) (nodes polygons z a : ℕ) (long : length us ≡ suc (suc (z + z))) (here : a < suc z)
    (L : Lawful us vs (suc (suc (z + z))) nodes polygons) (apart : share_ring us a ≡ false) (some : both_alone us a ≡ false) where
  abbrev N : ℕ
  N = suc (suc (z + z))

  abbrev m : ℕ
  m = z + z

  abbrev σ : ℕ → ℕ
  σ = exchanged a z

  abbrev us₁ : List Side
  us₁ = freed us nodes a

  abbrev vs₁ : List Vertex
  vs₁ = map (λ _. start_of us vs (a + a)) vs

  abbrev us₂ : List Side
  us₂ = lifted_sides us₁ (nodes + 1) polygons a

  abbrev P : ℕ
  P = polygons_left us₁ polygons a

  L₁ : Lawful us₁ vs₁ N (nodes + 1) polygons
  L₁ = freed_lawful us vs nodes polygons z a long here L apart some

  long₁ : length us₁ ≡ N
  long₁ = freed_long us vs nodes polygons z a long here L apart some

  alone₁ : closed_alone us₁ a ≡ true
  alone₁ = freed_alone us vs nodes polygons z a long here L apart some

  left₁ : ring_left us₁ a ≡ true
  left₁ = freed_left us vs nodes polygons z a long here L apart some

  L₂ : Lawful us₂ vs₁ m (nodes + 1 - 1) P
  L₂ = lift_lawful us₁ vs₁ (nodes + 1) polygons z a long₁ here L₁ alone₁ left₁

  other : (k : ℕ) → k < m → (σ k ≡ a + a → ⊥) × (σ k ≡ a + a + 1 → ⊥)
  other = not_gone us₁ vs₁ (nodes + 1) polygons z a long₁ here L₁ alone₁ left₁

  low : (k : ℕ) → k < N → σ k < N
  low = σ-low us₁ vs₁ (nodes + 1) polygons z a long₁ here L₁ alone₁ left₁

  row_kept : (k : ℕ) → k < m → row_of us₂ k ≡ row_of us (σ k)
  row_kept k l =
      ap (λ (r : Side). r.row) (row_is us₁ vs₁ (nodes + 1) polygons z a long₁ here L₁ alone₁ left₁ k l)
      ∙ row_same us vs nodes polygons z a long here L apart some (σ k) (low k (omega arith))

  node_kept : (k : ℕ) → k < m → node_of us₂ k ≡ node_of us (σ k)
  node_kept k l =
      let (ns, nt) = other k l in
      let own : node_of us₁ (a + a) ≡ nodes + 1 - 1 = ap (λ (r : Side). r.node) (row_s us vs nodes polygons z a long here L apart some) ∙ omega arith in
      node_is us₁ vs₁ (nodes + 1) polygons z a long₁ here L₁ alone₁ left₁ k l
      ∙ (fill_itself (node_of us₁ (a + a)) (nodes + 1 - 1) (node_of us₁ (σ k)) own ∙ node_else us vs nodes polygons z a long here L apart some (σ k) (low k (omega arith)) ns nt)

  ends_together₂ : EndsTogether us₂ vs m
  ends_together₂ k t (lk, lt, e) =
      let i : start_of us₂ vs k ≡ start_of us vs (σ k) = ap (λ (j : ℕ). get_or vs j no_vertex) (row_kept k lk) in
      let j : start_of us₂ vs t ≡ start_of us vs (σ t) = ap (λ (j : ℕ). get_or vs j no_vertex) (row_kept t lt) in
      rw (i, j) (L.ends_together (σ k) (σ t) (low k (omega arith), low t (omega arith), sym (node_kept k lk) ∙ (e ∙ node_kept t lt)))

  runs_stand₂ : RunsStand us₂ vs m
  runs_stand₂ k l = let b = L₂.runs_stand k l in (b.0, omega (arith, b.1, vertices_long us vs nodes polygons z a long here L apart some))

  pub dissolve_lawful : Lawful us₂ vs m nodes P
  dissolve_lawful =
      let e : nodes + 1 - 1 ≡ nodes = omega arith in
      subst (λ (k : ℕ). Lawful us₂ vs m k P) e
      (record {
        paired = L₂.paired;
        polygon_zero = L₂.polygon_zero;
        polygons_few = L₂.polygons_few;
        nodes_few = L₂.nodes_few;
        in_rings = L₂.in_rings;
        in_turns = L₂.in_turns;
        rings_close = L₂.rings_close;
        one_polygon = L₂.one_polygon;
        one_turn = L₂.one_turn;
        polygons_known = L₂.polygons_known;
        polygons_have_rings = L₂.polygons_have_rings;
        ends_together = ends_together₂;
        all_finite = L.all_finite;
        runs_stand = runs_stand₂;
        low_along = L₂.low_along;
        low_below = L₂.low_below;
        low_names = L₂.low_names;
      })

  -- a node has a number for the arc to be set free
  pub node_room : nodes + 1 ≤ N
  node_room = L₁.nodes_few

  -- one ring fewer
  pub dissolve_rings : length (rings (next_of us) N) ≡ length (rings (next_of us₂) m) + 1
  dissolve_rings = omega (arith, lift_rings us₁ vs₁ (nodes + 1) polygons z a long₁ here L₁ alone₁ left₁, count₁ us vs nodes polygons z a long here L apart some)

  -- two sides stand in one ring exactly if they did before, or if each stood in the ring of one of the arc's sides
  pub dissolve_meets : (k t : ℕ) → k < m → t < m →
      meets (next_of us₂) m k t
      ≡ (meets (next_of us) N (σ k) (σ t)
      || ((meets (next_of us) N (a + a) (σ k) || meets (next_of us) N (a + a + 1) (σ k)) && (meets (next_of us) N (a + a) (σ t) || meets (next_of us) N (a + a + 1) (σ t))))
  dissolve_meets k t lk lt =
      let (ks, ko) = other k lk in
      let (ts, to) = other t lt in
      meets_less (next_of us₁) z a here (in_rings₁ us vs nodes polygons z a long here L apart some) (in_turns₁ us vs nodes polygons z a long here L apart some)
      (at_s us vs nodes polygons z a long here L apart some) (at_o us vs nodes polygons z a long here L apart some) (next_of us₂) (next_is us₁ vs₁ (nodes + 1) polygons z a long₁ here L₁ alone₁ left₁) k t lk
      ∙ freed_meets us vs nodes polygons z a long here L apart some (σ k) (σ t) (low k (omega arith)) (low t (omega arith)) ks ko ts to

  -- ---- the rings and the turns, as lists

  abbrev h : ℕ → ℕ
  h = next_of us₁

  low₂ : (k : ℕ) → k < m → σ k < N
  low₂ k l = low k (omega arith)

  pub ring₂ : (k : ℕ) → k < m → ring (next_of us₂) m k ≡ map σ (ring h N (σ k))
  ring₂ k l = lift_ring us₁ vs₁ (nodes + 1) polygons z a long₁ here L₁ alone₁ left₁ k l

  stays_below : (x : ℕ) → x < N → (x ≡ a + a → ⊥) → (x ≡ a + a + 1 → ⊥) → σ x < m
  stays_below x l ns nt =
      elim (cases_lt (σ x) m) [
        | inl i ↦ i
        | inr i ↦
            elim (cases_eq (σ x) (z + z)) [
              | inl e ↦ absurd (ns (sym (exchanged_twice a z x) ∙ (ap σ e ∙ exchanged_last_unturned a z)))
              | inr n ↦
                  let e : σ x ≡ z + z + 1 = omega (arith, low x l) in
                  absurd (nt (sym (exchanged_twice a z x) ∙ (ap σ e ∙ exchanged_last_turned a z)))
            ]
      ]

  pub dissolve_ring : (x : ℕ) (xs : List ℕ) → walk (next_of us) N (a + a) (a + a) ++ walk (next_of us) N (a + a + 1) (a + a + 1) ≡ x ∷ xs →
      ring (next_of us₂) m (σ x) ≡ map σ (x ∷ xs)
  dissolve_ring x xs e =
      let (lx, ns, nt) = freed_first us vs nodes polygons z a long here L apart some x xs e in
      ring₂ (σ x) (stays_below x lx ns nt) ∙ (ap (λ (y : ℕ). map σ (ring h N y)) (exchanged_twice a z x) ∙ ap (map σ) (freed_ring us vs nodes polygons z a long here L apart some x xs e))

  pub dissolve_others : (k : ℕ) → k < m → meets (next_of us) N (a + a) (σ k) ≡ false → meets (next_of us) N (a + a + 1) (σ k) ≡ false →
      ring (next_of us₂) m k ≡ map σ (ring (next_of us) N (σ k))
  dissolve_others k l ms mo = ring₂ k l ∙ ap (map σ) (freed_other us vs nodes polygons z a long here L apart some (σ k) (low₂ k l) ms mo)

  pub dissolve_turns : (k : ℕ) → k < m → ring (turn (next_of us₂)) m k ≡ map σ (without (a + a + 1) (without (a + a) (ring (turn (next_of us)) N (σ k))))
  dissolve_turns k l =
      let (ns, nt) = other k l in
      lift_turn us₁ vs₁ (nodes + 1) polygons z a long₁ here L₁ alone₁ left₁ k l
      ∙ ap (map σ) (freed_turn us vs nodes polygons z a long here L apart some (σ k) (low₂ k l) ns nt)

  abbrev p : ℕ
  p = polygon_of us (a + a)

  abbrev q : ℕ
  q = polygon_of us (a + a + 1)

  -- the two polygons are one, and the last takes the number that went
  pub dissolve_polygons : (k : ℕ) → k < m → polygon_of us₂ k ≡ merged_number p q polygons (polygon_of us (σ k))
  dissolve_polygons k l =
      let (ns, nt) = other k l in
      let i = polygon_s us vs nodes polygons z a long here L apart some in
      let j = polygon_o us vs nodes polygons z a long here L apart some in
      let x = polygon_of us₁ (σ k) in
      lift_polygons us₁ vs₁ (nodes + 1) polygons z a long₁ here L₁ alone₁ left₁ k l
      ∙ (ap (λ (b : ℕ). merged_number b (polygon_of us₁ (a + a + 1)) polygons x) i
      ∙ (ap (λ (b : ℕ). merged_number p b polygons x) j
      ∙ elim (polygon_merged us vs nodes polygons z a long here L apart some (σ k) (low k (omega arith)) ns nt) [
        | inl e ↦ ap (merged_number p q polygons) e
        | inr e ↦ ap (merged_number p q polygons) e.0 ∙ merged_same p q polygons (polygon_of us (σ k)) e.1
      ]))

  -- one polygon fewer, where they were two
  pub dissolve_polygon_gone : P + one_if (not (eqb p q)) ≡ polygons
  dissolve_polygon_gone =
      let i = polygon_s us vs nodes polygons z a long here L apart some in
      let j = polygon_o us vs nodes polygons z a long here L apart some in
      sym (ap (λ (b : ℕ). P + one_if (not (eqb b (polygon_of us₁ (a + a + 1))))) i ∙ ap (λ (b : ℕ). P + one_if (not (eqb p b))) j)
      ∙ lift_polygon_gone us₁ vs₁ (nodes + 1) polygons z a long₁ here L₁ alone₁ left₁
