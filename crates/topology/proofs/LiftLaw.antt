-- A lift keeps the law.
use Rattle.std.proofs.Common.{◌≡◌, ℕ, suc, ◌+◌, ◌-◌, ◌/◌, ◌%◌, ◌<◌, ◌≤◌, true, cond, eqb, ◌⊎◌, List, [], ◌∷◌, map, length, get_or, take, set, sym, refl, ap, ◌∙◌, subst, inl, inr, arith, min, max, not}
use Rattle.std.proofs.lemmas.Bool.{ltb-true, cases_eq, cases_lt, cases_Bool, eq-eqb, eqb-true, or_cases, cond-true}
use Rattle.std.proofs.lemmas.Bool.Decides.{nat_tests}
use Rattle.std.proofs.lemmas.List.{get_or-map, get_or-take, get_or-set_same, get_or-set_other, length-set, length-take-le, length-map}
use Rattle.rings.specs.Circles.{one_if, occ, names, rings, ring, walk, meets}
use Rattle.rings.specs.Law.{opp, turn, Ringed, Closes, Along}
use Rattle.rings.specs.Edits.{swapped, exchanged, fill}
use Rattle.rings.proofs.Ringed.{ringed_circles}
use Rattle.rings.proofs.Renamed.{ring_renamed}
use Rattle.rings.proofs.Split.{opp_low}
use Rattle.rings.proofs.Closed.{within, one_image}
use Rattle.rings.proofs.Occurs.{one_other, one_below, below_one}
use Rattle.rings.proofs.OwnNode.{alone_own}
use Rattle.rings.proofs.LowMeets.{low_told, low_same, low_meets, names_low}
use Rattle.rings.proofs.Surgery.{names_from}
use Rattle.rings.proofs.Words.{node_low}
use Rattle.rings.proofs.LastOut.{ringed_less, turned_less, count_less, along_less, names_less, closes_less, nodes_less, meets_less}
use Rattle.rings.proofs.Labels.{names_comp, occ_image, fill_once, few_labels, few_but_zero, label_there, along_image}
use Rattle.rings.proofs.Exchange.{exchanged_twice, exchanged_opp, exchanged_low, exchanged_unturned, exchanged_turned, exchanged_last_unturned, exchanged_last_turned, exchanged_else, exchanged_even, exchanged_odd}
use Rattle.topology.specs.declared.side.Side.{Side}
use Rattle.topology.specs.declared.vertex.Vertex.{Vertex}
use Rattle.topology.specs.declared.renumbering.Renumbering.{Renumbering}
use Rattle.topology.specs.Rows.{no_side, no_vertex, next_of, node_of, polygon_of, row_of, low_of, start_of}
use Rattle.topology.specs.MapLaw.{OnePolygon, OneTurn, PolygonsKnown, PolygonsHaveRings, EndsTogether, RunsStand, LowAlong, LowBelow, LowNames}
use Rattle.topology.specs.Lawfuls.{Lawful}
use Rattle.topology.specs.Renumbered.{polygon_filled, renumbered}
use Rattle.topology.specs.Lifts.{closed_alone, other_under, ring_left, lift_numbers, lifted_sides, polygons_left, merged_number}
use Rattle.topology.proofs.Alone.{alone_rings, other_at}

side_exchanged : (a z x : ℕ) → (x ≡ a + a → ⊥) → (x ≡ a + a + 1 → ⊥) → fill (a + a) (z + z) (fill (a + a + 1) (z + z + 1) x) ≡ exchanged a z x
side_exchanged a z x n0 n1 =
    elim (cases_eq x (z + z)) [
      | inl e ↦ let w : fill (a + a) (z + z) (fill (a + a + 1) (z + z + 1) x) ≡ a + a = grind (arith, nat_tests) in w ∙ (sym (exchanged_last_unturned a z) ∙ ap (exchanged a z) (sym e))
      | inr ne ↦
          elim (cases_eq x (z + z + 1)) [
            | inl e ↦
                let w : fill (a + a) (z + z) (fill (a + a + 1) (z + z + 1) x) ≡ a + a + 1 = grind (arith, nat_tests) in w ∙ (sym (exchanged_last_turned a z) ∙ ap (exchanged a z) (sym e))
            | inr ne' ↦
                let w : fill (a + a) (z + z) (fill (a + a + 1) (z + z + 1) x) ≡ x = grind (arith, nat_tests) in w ∙ sym (exchanged_else a z x (omega arith) (omega arith))
          ]
    ]

pub fill_apart : (gap top x y : ℕ) → (x ≡ gap → ⊥) → (y ≡ gap → ⊥) → fill gap top x ≡ fill gap top y → x ≡ y
fill_apart gap top x y nx ny e = grind (arith, nat_tests)

some_left : (p q polygons : ℕ) → p < polygons → q < polygons → 0 < cond (eqb p q) polygons (polygons - 1)
some_left p q polygons lp lq = grind (arith, nat_tests)

-- a circle of one member meets no other
pub alone_meets : (f : ℕ → ℕ) (n x y : ℕ) → f x ≡ x → meets f (suc n) x y ≡ true → y ≡ x
alone_meets f n x y e h =
    let w : ring f (suc n) x ≡ x ∷ [] = ap (λ (ys : List ℕ). x ∷ ys) (cond-true (eqb x (f x)) [] (f x ∷ walk f n x (f x)) (eq-eqb x (f x) (sym e))) in
    let o : 0 < occ y (x ∷ []) = subst (λ (ys : List ℕ). 0 < occ y ys) w (ltb-true 0 (occ y (ring f (suc n) x)) h) in
    elim (cases_eq y x) [ inl i ↦ i | inr ne ↦ absurd (omega (arith, one_other y x ne)) ]

-- the lowest side of a ring, where the last arc takes side s
abbrev lowered : ℕ → ℕ → ℕ → ℕ → ℕ
lowered s x y l = cond (eqb l x) (min x s) (cond (eqb l y) (min y (s + 1)) l)

lowered_low : (s x y l : ℕ) → l ≡ x → x < s → lowered s x y l ≡ l
lowered_low s x y l e h = grind (arith, nat_tests)

lowered_side : (s x y l : ℕ) → l ≡ x → s ≤ x → lowered s x y l ≡ s
lowered_side s x y l e h = grind (arith, nat_tests)

lowered_low_2 : (s x y l : ℕ) → (l ≡ x → ⊥) → l ≡ y → y < s + 1 → lowered s x y l ≡ l
lowered_low_2 s x y l n e h = grind (arith, nat_tests)

lowered_side_2 : (s x y l : ℕ) → (l ≡ x → ⊥) → l ≡ y → s + 1 ≤ y → lowered s x y l ≡ s + 1
lowered_side_2 s x y l n e h = grind (arith, nat_tests)

lowered_else : (s x y l : ℕ) → (l ≡ x → ⊥) → (l ≡ y → ⊥) → lowered s x y l ≡ l
lowered_else s x y l n n' = grind (arith, nat_tests)

lowered_first : (s x y l : ℕ) → l ≡ x → lowered s x y l ≤ s
lowered_first s x y l e = grind (arith, nat_tests)

lowered_second : (s x y l : ℕ) → l ≡ y → lowered s x y l ≤ s + 1
lowered_second s x y l e = grind (arith, nat_tests)

lowered_below : (s x y l : ℕ) → lowered s x y l ≤ l
lowered_below s x y l = grind (arith, nat_tests)

-- the number of a polygon, where the higher of p and q goes: known, and where each number comes from
abbrev after : ℕ → ℕ → ℕ → ℕ → ℕ
after p q polygons x = fill (max p q) (cond (eqb p q) p (polygons - 1)) (fill (min p q) (max p q) x)

-- as the outcome of a lift has it
merged_after : (p q polygons x : ℕ) → p < polygons → q < polygons → x < polygons → after p q polygons x ≡ merged_number p q polygons x
merged_after p q polygons x lp lq lx = grind (arith, nat_tests)

gone_or_not : (p q polygons : ℕ) → p < polygons → cond (eqb p q) polygons (polygons - 1) + one_if (not (eqb p q)) ≡ polygons
gone_or_not p q polygons lp = elim (cases_Bool (eqb p q)) [ inl e ↦ rw e (omega arith) | inr e ↦ rw e (omega arith) ]

known_filled : (x p q polygons : ℕ) → x < polygons → p < polygons → q < polygons → after p q polygons x < cond (eqb p q) polygons (polygons - 1)
known_filled x p q polygons lx lp lq = grind (arith, nat_tests)

source_of : (u p q polygons : ℕ) → 0 < u → u < cond (eqb p q) polygons (polygons - 1) → p < polygons → q < polygons →
    ((0 < min p q) × ((x : ℕ) → (x ≡ p) ⊎ (x ≡ q) → after p q polygons x ≡ u))
    ⊎ ((x : ℕ) × ((0 < x) × (x < polygons) × (x ≡ p → ⊥) × (x ≡ q → ⊥)) × (after p q polygons x ≡ u))
source_of u p q polygons l k lp lq =
    elim (cases_eq u (min p q)) [
      | inl e ↦ inl (omega arith, λ x o. elim o [ inl i ↦ lower_first x i e | inr i ↦ lower_second x i e ])
      | inr n ↦
          elim (cases_eq u (max p q)) [
            | inl e ↦ inr (polygons - 1, (top_first e n, omega arith, top_p e n, top_q e n), top_last e n)
            | inr n' ↦ inr (u, (l, low n n', not_p n n', not_q n n'), stay n n')
          ]
    ]
  where
    lower_first : (x : ℕ) → x ≡ p → u ≡ min p q → after p q polygons x ≡ u
    lower_first x i e = grind (arith, nat_tests)

    lower_second : (x : ℕ) → x ≡ q → u ≡ min p q → after p q polygons x ≡ u
    lower_second x i e = grind (arith, nat_tests)

    top_first : u ≡ max p q → (u ≡ min p q → ⊥) → 0 < polygons - 1
    top_first e n = grind (arith, nat_tests)

    top_p : u ≡ max p q → (u ≡ min p q → ⊥) → polygons - 1 ≡ p → ⊥
    top_p e n i = grind (arith, nat_tests)

    top_q : u ≡ max p q → (u ≡ min p q → ⊥) → polygons - 1 ≡ q → ⊥
    top_q e n i = grind (arith, nat_tests)

    top_last : u ≡ max p q → (u ≡ min p q → ⊥) → after p q polygons (polygons - 1) ≡ u
    top_last e n = grind (arith, nat_tests)

    low : (u ≡ min p q → ⊥) → (u ≡ max p q → ⊥) → u < polygons
    low n n' = grind (arith, nat_tests)

    not_p : (u ≡ min p q → ⊥) → (u ≡ max p q → ⊥) → u ≡ p → ⊥
    not_p n n' i = grind (arith, nat_tests)

    not_q : (u ≡ min p q → ⊥) → (u ≡ max p q → ⊥) → u ≡ q → ⊥
    not_q n n' i = grind (arith, nat_tests)

    stay : (u ≡ min p q → ⊥) → (u ≡ max p q → ⊥) → after p q polygons u ≡ u
    stay n n' = grind (arith, nat_tests)

-- two rows fewer
pub lifted_long : (us : List Side) (nodes polygons z a : ℕ) → length us ≡ suc (suc (z + z)) → a < suc z → length (lifted_sides us nodes polygons a) ≡ z + z
lifted_long us nodes polygons z a long here =
    let x = get_or us (length us - 2) no_side in
    let y = get_or us (length us - 1) no_side in
    let xs = set (set us (a + a) x) (a + a + 1) y in
    let l : length xs ≡ length us = length-set (set us (a + a) x) (a + a + 1) y ∙ length-set us (a + a) x in
    length-map (take (length us - 2) xs) (renumbered (lift_numbers us nodes polygons a)) ∙ (length-take-le (length us - 2) xs (omega (arith, l)) ∙ omega (arith, long))

module _ (us : List Side) (vs : List Vertex) (nodes polygons z a : ℕ) (long : length us ≡ suc (suc (z + z))) (here : a < suc z)
    (L : Lawful us vs (suc (suc (z + z))) nodes polygons) (alone : closed_alone us a ≡ true) (left : ring_left us a ≡ true) where
  abbrev m : ℕ
  m = z + z

  abbrev N : ℕ
  N = suc (suc (z + z))

  abbrev σ : ℕ → ℕ
  σ = exchanged a z

  abbrev c : Renumbering
  c = lift_numbers us nodes polygons a

  abbrev us' : List Side
  us' = lifted_sides us nodes polygons a

  abbrev f : ℕ → ℕ
  f = next_of us

  abbrev g : ℕ → ℕ
  g = next_of us'

  both : (f (a + a) ≡ a + a) × (f (a + a + 1) ≡ a + a + 1)
  both = alone_rings us vs N nodes polygons a long L (omega arith) alone

  two_less : length us - 2 ≡ z + z
  two_less = omega (arith, long)

  one_less : length us - 1 ≡ z + z + 1
  one_less = omega (arith, long)

  twice : (k : ℕ) → σ (σ k) ≡ k
  twice k = exchanged_twice a z k

  pub σ-low : (k : ℕ) → k < N → σ k < N
  σ-low k l = exchanged_low a z N (omega arith) (omega arith) (omega arith) k l

  -- what is left is neither of the sides that go
  pub not_gone : (k : ℕ) → k < m → (σ k ≡ a + a → ⊥) × (σ k ≡ a + a + 1 → ⊥)
  not_gone k l = (
    λ e. omega (arith, sym (twice k) ∙ (ap σ e ∙ exchanged_unturned a z)),
    λ e. omega (arith, sym (twice k) ∙ (ap σ e ∙ exchanged_turned a z)),
  )

  abbrev xs : List Side
  xs = set (set us (a + a) (get_or us (length us - 2) no_side)) (a + a + 1) (get_or us (length us - 1) no_side)

  xs_long : length xs ≡ length us
  xs_long = length-set (set us (a + a) (get_or us (length us - 2) no_side)) (a + a + 1) (get_or us (length us - 1) no_side) ∙ length-set us (a + a) (get_or us (length us - 2) no_side)

  rows_long : length (take (length us - 2) xs) ≡ length us - 2
  rows_long = length-take-le (length us - 2) xs (omega (arith, xs_long))

  moved : (k : ℕ) → k < m → get_or xs k no_side ≡ get_or us (σ k) no_side
  moved k l =
      elim (cases_eq k (a + a + 1)) [
        | inl e ↦
            ap (λ (j : ℕ). get_or xs j no_side) e
            ∙ (get_or-set_same (set us (a + a) (get_or us (length us - 2) no_side)) (a + a + 1) (get_or us (length us - 1) no_side) no_side (omega (arith, long, length-set us (a + a) (get_or us (length us - 2) no_side)))
            ∙ ap (λ (j : ℕ). get_or us j no_side) (one_less ∙ (sym (exchanged_turned a z) ∙ ap σ (sym e))))
        | inr n1 ↦
            get_or-set_other (set us (a + a) (get_or us (length us - 2) no_side)) (a + a + 1) k (get_or us (length us - 1) no_side) no_side n1 ∙
            elim (cases_eq k (a + a)) [
              | inl e ↦
                  ap (λ (j : ℕ). get_or (set us (a + a) (get_or us (length us - 2) no_side)) j no_side) e
                  ∙ (get_or-set_same us (a + a) (get_or us (length us - 2) no_side) no_side (omega (arith, long)) ∙ ap (λ (j : ℕ). get_or us j no_side) (two_less ∙ (sym (exchanged_unturned a z) ∙ ap σ (sym e))))
              | inr n0 ↦
                  get_or-set_other us (a + a) k (get_or us (length us - 2) no_side) no_side n0
                  ∙ ap (λ (j : ℕ). get_or us j no_side) (sym (exchanged_else a z k (omega arith) (omega arith)))
            ]
      ]

  pub row_is : (k : ℕ) → k < m → get_or us' k no_side ≡ renumbered c (get_or us (σ k) no_side)
  row_is k l =
      get_or-map (renumbered c) (take (length us - 2) xs) k no_side no_side (omega (arith, rows_long, two_less))
      ∙ ap (renumbered c) (get_or-take (length us - 2) xs k no_side (omega (arith, two_less)) ∙ moved k l)

  pub next_is : (k : ℕ) → k < m → g k ≡ σ (f (σ k))
  next_is k l =
      let fc = ringed_circles f N L.in_rings in
      let (n0, n1) = not_gone k l in
      let ls = σ-low k (omega arith) in
      let d0 : f (σ k) ≡ a + a → ⊥ = λ e. n0 (one_image f N (rings f N) fc (σ k) (a + a) ls (omega arith) (e ∙ sym both.0)) in
      let d1 : f (σ k) ≡ a + a + 1 → ⊥ = λ e. n1 (one_image f N (rings f N) fc (σ k) (a + a + 1) ls (omega arith) (e ∙ sym both.1)) in
      ap (λ (r : Side). r.next) (row_is k l)
      ∙ (ap (λ (j : ℕ). fill (a + a) j (fill (a + a + 1) (j + 1) (f (σ k)))) two_less ∙ side_exchanged a z (f (σ k)) d0 d1)

  abbrev e0 : f (a + a) ≡ a + a
  e0 = both.0

  abbrev e1 : f (a + a + 1) ≡ a + a + 1
  e1 = both.1

  in_rings' : Ringed g m
  in_rings' = ringed_less f z a here L.in_rings L.in_turns e0 e1 g next_is

  in_turns' : Ringed (turn g) m
  in_turns' = turned_less f z a here L.in_rings L.in_turns e0 e1 g next_is

  inside : (k : ℕ) → k < m → g k < m
  inside = within g m (rings g m) (ringed_circles g m in_rings')

  turn_inside : (k : ℕ) → k < m → turn g k < m
  turn_inside = within (turn g) m (rings (turn g) m) (ringed_circles (turn g) m in_turns')

  -- a label of the rows, under the exchanged numbers
  moved_along : (lab : ℕ → ℕ) → Along f lab N → Along g (λ k. lab (σ k)) m
  moved_along lab along = along_less f z a here L.in_rings L.in_turns e0 e1 g next_is lab (λ k. lab (σ k)) along (λ k l. refl)

  moved_names : (lab : ℕ → ℕ) → Along f lab N → (v : ℕ) → occ v (names lab (rings f N)) ≡ one_if (eqb v (lab (a + a + 1))) + (one_if (eqb v (lab (a + a))) + occ v (names (λ k. lab (σ k)) (rings g m)))
  moved_names lab along = names_less f z a here L.in_rings L.in_turns e0 e1 g next_is lab (λ k. lab (σ k)) along (λ k l. refl)

  names_as : (h : ℕ → ℕ) (lab lab' φ : ℕ → ℕ) → Ringed h m → ((k : ℕ) → k < m → lab' k ≡ φ (lab k)) → names lab' (rings h m) ≡ map φ (names lab (rings h m))
  names_as h lab lab' φ r same =
      let hc = ringed_circles h m r in
      names_from h (λ k. φ (lab k)) lab' (rings h m) hc.round (λ x o. same x (below_one x m (omega (arith, hc.once x)))) ∙ names_comp φ lab (rings h m)

  -- ---- nodes

  abbrev v : ℕ
  v = node_of us (a + a)

  abbrev fill_node : ℕ → ℕ
  fill_node = fill v (nodes - 1)

  pub node_is : (k : ℕ) → k < m → node_of us' k ≡ fill_node (node_of us (σ k))
  node_is k l = ap (λ (r : Side). r.node) (row_is k l)

  moved_closes : Closes g (λ k. node_of us (σ k)) m
  moved_closes = closes_less f z a here L.in_rings L.in_turns e0 e1 g next_is (node_of us) (λ k. node_of us (σ k)) L.rings_close (λ k l. refl)

  rings_close' : Closes g (node_of us') m
  rings_close' = along_image (turn g) (λ k. node_of us (σ k)) (node_of us') fill_node m turn_inside node_is moved_closes

  v_low : v < nodes
  v_low = node_low f (node_of us) N nodes L.in_turns L.rings_close L.one_turn (a + a) (omega arith)

  one_turn' : OneTurn us' m (nodes - 1)
  one_turn' w =
      ap (occ w) (names_as (turn g) (λ k. node_of us (σ k)) (node_of us') fill_node in_turns' node_is)
      ∙ fill_once v nodes (names (λ k. node_of us (σ k)) (rings (turn g) m)) v_low
      (λ u. sym (L.one_turn u) ∙ nodes_less f z a here L.in_rings L.in_turns e0 e1 g next_is (node_of us) (λ k. node_of us (σ k)) L.rings_close (λ k l. refl) u) w

  -- ---- polygons

  abbrev p : ℕ
  p = polygon_of us (a + a)

  abbrev q : ℕ
  q = polygon_of us (a + a + 1)

  abbrev P' : ℕ
  P' = polygons_left us polygons a

  polygon_is : (k : ℕ) → k < m → polygon_of us' k ≡ polygon_filled c (polygon_of us (σ k))
  polygon_is k l = ap (λ (r : Side). r.polygon) (row_is k l)

  one_polygon' : OnePolygon us' m
  one_polygon' = along_image g (λ k. polygon_of us (σ k)) (polygon_of us') (polygon_filled c) m inside polygon_is (moved_along (polygon_of us) L.one_polygon)

  p_low : p < polygons
  p_low = L.polygons_known (a + a) (omega arith)

  q_low : q < polygons
  q_low = L.polygons_known (a + a + 1) (omega arith)

  polygons_known' : PolygonsKnown us' m P'
  polygons_known' s l =
      let k = L.polygons_known (σ s) (σ-low s (omega arith)) in
      subst (λ (x : ℕ). x < P') (sym (polygon_is s l)) (known_filled (polygon_of us (σ s)) p q polygons k p_low q_low)

  polygon_names : names (polygon_of us') (rings g m) ≡ map (polygon_filled c) (names (λ k. polygon_of us (σ k)) (rings g m))
  polygon_names = names_as g (λ k. polygon_of us (σ k)) (polygon_of us') (polygon_filled c) in_rings' polygon_is

  -- a polygon with a ring that is left has it under its number
  has_from : (x : ℕ) → 0 < occ x (names (λ k. polygon_of us (σ k)) (rings g m)) → 0 < occ (polygon_filled c x) (names (polygon_of us') (rings g m))
  has_from x h = subst (λ (ys : List ℕ). 0 < occ (polygon_filled c x) ys) (sym polygon_names) (occ_image (polygon_filled c) x (names (λ k. polygon_of us (σ k)) (rings g m)) h)

  -- a polygon of neither side keeps its rings
  has_other : (x : ℕ) → 0 < x → x < polygons → (x ≡ p → ⊥) → (x ≡ q → ⊥) → 0 < occ (polygon_filled c x) (names (polygon_of us') (rings g m))
  has_other x l k np nq =
      has_from x (omega (arith, L.polygons_have_rings x l k, moved_names (polygon_of us) L.one_polygon x, one_other x p np, one_other x q nq))

  other_has : (s : ℕ) → s < N → (s / 2 ≡ a → ⊥) → 0 < occ (polygon_of us s) (names (λ k. polygon_of us (σ k)) (rings g m))
  other_has s l ne =
      let lk : σ s < m =
      elim (cases_lt (σ s) m) [
        | inl i ↦ i
        | inr i ↦
            elim (cases_eq (σ s) (z + z)) [
              | inl e ↦ absurd (ne (let w = sym (twice s) ∙ (ap σ e ∙ exchanged_last_unturned a z) in omega arith))
              | inr n ↦
                  let e : σ s ≡ z + z + 1 = omega (arith, σ-low s l) in
                  absurd (ne (let w = sym (twice s) ∙ (ap σ e ∙ exchanged_last_turned a z) in omega arith))
            ]
      ] in
      subst (λ (x : ℕ). 0 < occ (polygon_of us x) (names (λ k. polygon_of us (σ k)) (rings g m))) (twice s)
      (label_there g (λ k. polygon_of us (σ k)) m in_rings' (moved_along (polygon_of us) L.one_polygon) (σ s) lk)

  -- the polygon that stays is 0 or has a ring left
  stays : 0 < min p q → (x : ℕ) × ((x ≡ p) ⊎ (x ≡ q)) × (0 < occ x (names (λ k. polygon_of us (σ k)) (rings g m)))
  stays l =
      elim (or_cases (eqb (min p q) 0) (other_under us a p q (length us)) left) [
        | inl t ↦ absurd (let w = eqb-true (min p q) 0 t in omega arith)
        | inr t ↦
            let r = other_at us a p q (length us) t in
            let b = r.below in
            (polygon_of us r.side, r.under, other_has r.side (omega (arith, long)) r.other)
      ]

  polygons_have_rings' : PolygonsHaveRings us' m P'
  polygons_have_rings' u l k =
      let s = source_of u p q polygons l k p_low q_low in
      elim s [
        | inl w ↦
            let r = stays w.0 in
            subst (λ (x : ℕ). 0 < occ x (names (polygon_of us') (rings g m))) (w.1 r.0 r.1) (has_from r.0 r.2)
        | inr w ↦ subst (λ (x : ℕ). 0 < occ x (names (polygon_of us') (rings g m))) w.2 (has_other w.0 w.1.0 w.1.1 w.1.2 w.1.3)
      ]

  -- ---- vertices

  -- no side that is left begins at the node that goes
  pub own_node : (s : ℕ) → s < m → node_of us (σ s) ≡ v → ⊥
  own_node s l e =
      let (n0, n1) = not_gone s l in
      elim (alone_own f (node_of us) N nodes a (omega arith) L.in_turns L.rings_close L.one_turn e0 e1 (σ s) (σ-low s (omega arith)) e) [ inl i ↦ n0 i | inr i ↦ n1 i ]

  start_is : (s : ℕ) → s < m → start_of us' vs s ≡ start_of us vs (σ s)
  start_is s l = ap (λ (r : Side). get_or vs r.row no_vertex) (row_is s l)

  ends_together' : EndsTogether us' vs m
  ends_together' s t (ls, lt, e) =
      rw (start_is s ls, start_is t lt)
      (L.ends_together (σ s) (σ t) (
        σ-low s (omega arith),
        σ-low t (omega arith),
        fill_apart v (nodes - 1) (node_of us (σ s)) (node_of us (σ t)) (own_node s ls) (own_node t lt) (sym (node_is s ls) ∙ (e ∙ node_is t lt)),
      ))

  runs_stand' : RunsStand us' vs m
  runs_stand' k l =
      let b = swapped a z k in
      let x : σ (k + k) ≡ b + b = exchanged_even a z k in
      let y : σ (k + k + 1) ≡ b + b + 1 = exchanged_odd a z k in
      let r = L.runs_stand b (omega (arith, y, σ-low (k + k + 1) (omega arith))) in
      let i : row_of us' (k + k) ≡ row_of us (b + b) = ap (λ (s : Side). s.row) (row_is (k + k) (omega arith)) ∙ ap (row_of us) x in
      let j : row_of us' (k + k + 1) ≡ row_of us (b + b + 1) = ap (λ (s : Side). s.row) (row_is (k + k + 1) l) ∙ ap (row_of us) y in
      (omega (arith, r.0, i, j), omega (arith, r.1, j))

  -- ---- the lowest sides

  abbrev low : ℕ → ℕ
  low = low_of us

  abbrev low_to : ℕ → ℕ
  low_to = lowered (a + a) (low (z + z)) (low (z + z + 1))

  low_is : (k : ℕ) → k < m → low_of us' k ≡ low_to (low (σ k))
  low_is k l =
      ap (λ (r : Side). r.low) (row_is k l)
      ∙ (ap (λ (j : ℕ). lowered (a + a) (low j) (low (length us - 1)) (low (σ k))) two_less ∙ ap (λ (j : ℕ). lowered (a + a) (low (z + z)) (low j) (low (σ k))) one_less)

  low_along' : LowAlong us' m
  low_along' = along_image g (λ k. low (σ k)) (low_of us') low_to m inside low_is (moved_along low L.low_along)

  low_below' : LowBelow us' m
  low_below' s l =
      subst (λ (x : ℕ). x ≤ s) (sym (low_is s l))
      (elim (cases_eq s (a + a)) [
        | inl e ↦ let w = lowered_first (a + a) (low (z + z)) (low (z + z + 1)) (low (σ s)) (ap low (ap σ e ∙ exchanged_unturned a z)) in omega (arith, w)
        | inr n0 ↦
            elim (cases_eq s (a + a + 1)) [
              | inl e ↦ let w = lowered_second (a + a) (low (z + z)) (low (z + z + 1)) (low (σ s)) (ap low (ap σ e ∙ exchanged_turned a z)) in omega (arith, w)
              | inr n1 ↦
                  let w = lowered_below (a + a) (low (z + z)) (low (z + z + 1)) (low (σ s)) in
                  let e : σ s ≡ s = exchanged_else a z s (omega arith) (omega arith) in
                  omega (arith, w, L.low_below (σ s) (σ-low s (omega arith)), e)
            ]
      ])

  abbrev X : ℕ
  X = low (z + z)

  abbrev Y : ℕ
  Y = low (z + z + 1)

  told : (s : ℕ) → s < N → (low s < N) × (low (low s) ≡ low s)
  told = low_told f low N L.in_rings L.low_along L.low_names

  same : (s t : ℕ) → s < N → t < N → low s ≡ low t → meets f N s t ≡ true
  same = low_same f low N L.in_rings L.low_along L.low_names

  -- no ring that is left has a side that goes as its lowest
  not_lowest : (s x : ℕ) → s < N → x < N → f x ≡ x → (s ≡ x → ⊥) → low s ≡ x → ⊥
  not_lowest s x ls lx e ne i =
      let h = same x s lx ls (ap low (sym i) ∙ (told s ls).1) in
      ne (alone_meets f (suc (z + z)) x s e h)

  stays_low : (s : ℕ) → s < m → low (σ s) / 2 ≡ a → ⊥
  stays_low s l e =
      let (n0, n1) = not_gone s l in
      let ls = σ-low s (omega arith) in
      elim (cases_eq (low (σ s) % 2) 0) [
        | inl i ↦ not_lowest (σ s) (a + a) ls (omega arith) e0 n0 (omega arith)
        | inr i ↦ not_lowest (σ s) (a + a + 1) ls (omega arith) e1 n1 (omega arith)
      ]

  there_old : (s : ℕ) → s < m → (low (σ s) / 2 ≡ z → ⊥) → meets f N (σ s) (σ (low (σ s))) ≡ true
  there_old s l nz =
      ap (meets f N (σ s)) (exchanged_else a z (low (σ s)) (stays_low s l) nz) ∙ low_meets f low N L.in_rings L.low_along L.low_names (σ s) (σ-low s (omega arith))

  low_there_f : (s : ℕ) → s < m → meets f N (σ s) (σ (low_to (low (σ s)))) ≡ true
  low_there_f s l =
      let ls = σ-low s (omega arith) in
      let k = low (σ s) in
      let na = stays_low s l in
      elim (cases_eq k X) [
        | inl e ↦
            elim (cases_lt X (a + a)) [
              | inl h ↦ ap (λ (x : ℕ). meets f N (σ s) (σ x)) (lowered_low (a + a) X Y k e h) ∙ there_old s l (omega arith)
              | inr h ↦ ap (λ (x : ℕ). meets f N (σ s) (σ x)) (lowered_side (a + a) X Y k e h) ∙ (ap (meets f N (σ s)) (exchanged_unturned a z) ∙ same (σ s) (z + z) ls (omega arith) e)
            ]
        | inr nx ↦
            elim (cases_eq k Y) [
              | inl e ↦
                  elim (cases_lt Y (a + a + 1)) [
                    | inl h ↦ ap (λ (x : ℕ). meets f N (σ s) (σ x)) (lowered_low_2 (a + a) X Y k nx e h) ∙ there_old s l (omega arith)
                    | inr h ↦ ap (λ (x : ℕ). meets f N (σ s) (σ x)) (lowered_side_2 (a + a) X Y k nx e h) ∙ (ap (meets f N (σ s)) (exchanged_turned a z) ∙ same (σ s) (z + z + 1) ls (omega arith) e)
                  ]
              | inr ny ↦
                  ap (λ (x : ℕ). meets f N (σ s) (σ x)) (lowered_else (a + a) X Y k nx ny)
                  ∙ there_old s l
                  (λ i.
                  elim (cases_eq (k % 2) 0) [
                    | inl h ↦ let w : k ≡ z + z = omega arith in nx (sym (told (σ s) ls).1 ∙ ap low w)
                    | inr h ↦ let w : k ≡ z + z + 1 = omega arith in ny (sym (told (σ s) ls).1 ∙ ap low w)
                  ])
            ]
      ]

  low_there : (s : ℕ) → s < m → meets g m s (low_of us' s) ≡ true
  low_there s l =
      meets_less f z a here L.in_rings L.in_turns e0 e1 g next_is s (low_of us' s) l
      ∙ (ap (λ (x : ℕ). meets f N (σ s) (σ x)) (low_is s l) ∙ low_there_f s l)

  low_names' : LowNames us' m
  low_names' = names_low g (low_of us') m in_rings' low_along' low_there

  -- ---- the law

  zero_left : 0 < P'
  zero_left = some_left p q polygons p_low q_low

  pub lift_lawful : Lawful us' vs (z + z) (nodes - 1) P'
  lift_lawful = record {
    paired = omega arith;
    polygon_zero = zero_left;
    polygons_few = few_but_zero g (polygon_of us') m P' in_rings' polygons_have_rings';
    nodes_few = few_labels (turn g) (node_of us') m (nodes - 1) in_turns' (λ u l. omega (arith, one_turn' u, one_below u (nodes - 1) l));
    in_rings = in_rings';
    in_turns = in_turns';
    rings_close = rings_close';
    one_polygon = one_polygon';
    one_turn = one_turn';
    polygons_known = polygons_known';
    polygons_have_rings = polygons_have_rings';
    ends_together = ends_together';
    all_finite = L.all_finite;
    runs_stand = runs_stand';
    low_along = low_along';
    low_below = low_below';
    low_names = low_names';
  }

  -- two rings fewer
  pub lift_rings : length (rings f N) ≡ length (rings g m) + 2
  lift_rings = count_less f z a here L.in_rings L.in_turns e0 e1 g next_is

  -- ---- the rings and the turns, as lists, and the polygons

  leads : (k : ℕ) → k < m → f (σ k) ≡ σ (g k)
  leads k l = sym (ap σ (next_is k l) ∙ twice (f (σ k)))

  pub lift_ring : (k : ℕ) → k < m → ring g m k ≡ map σ (ring f N (σ k))
  lift_ring k l = ring_renamed σ σ f g N m (λ j i. σ-low j (omega arith)) (λ j _. twice j) leads in_rings' k l

  pub lift_turn : (k : ℕ) → k < m → ring (turn g) m k ≡ map σ (ring (turn f) N (σ k))
  lift_turn k l =
      ring_renamed σ σ (turn f) (turn g) N m (λ j i. σ-low j (omega arith)) (λ j _. twice j) (λ j i. ap f (exchanged_opp a z j) ∙ leads (opp j) (opp_low m j (omega arith) i)) in_turns' k l

  pub lift_polygons : (k : ℕ) → k < m → polygon_of us' k ≡ merged_number p q polygons (polygon_of us (σ k))
  lift_polygons k l =
      polygon_is k l ∙ merged_after p q polygons (polygon_of us (σ k)) p_low (L.polygons_known (a + a + 1) (omega arith)) (L.polygons_known (σ k) (σ-low k (omega arith)))

  pub lift_polygon_gone : P' + one_if (not (eqb p q)) ≡ polygons
  lift_polygon_gone = gone_or_not p q polygons p_low
