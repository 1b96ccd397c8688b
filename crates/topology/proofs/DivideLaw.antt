-- A division keeps the law, and makes two rings of one.
use Rattle.std.proofs.Common.{◌≡◌, ℕ, suc, ◌+◌, ◌-◌, ◌<◌, ◌≤◌, Bool, true, false, cond, ◌&&◌, eqb, ltb, leb, ◌⊎◌, List, [], ◌∷◌, ◌++◌, map, length, get_or, sym, refl, ap, ◌∙◌, subst, inl, inr, add-one, arith}
use mathlib.Core.Path.{fun_ext}
use Rattle.std.proofs.lemmas.Bool.{cases_eq, cases_lt, cases_Bool, and_parts, leb-true, lt-ltb, eq-eqb, ne_eqb, ltb-true, cond-true, cond-false, false≢true}
use Rattle.std.proofs.lemmas.List.{get_or_append_left, get_or-append_right, get_or_past, get_or-map, length-append, length-map}
use Rattle.rings.specs.LetIn.{let_in, divide_after}
use Rattle.rings.proofs.DivideRings.{unturned_ring, turned_ring, turn_divided}
use Rattle.rings.specs.Circles.{one_if, occ, names, put, ring, rings, walk, meets, Divided}
use Rattle.rings.specs.Law.{turn, Ringed, Closes, Along, Noded}
use Rattle.rings.specs.Edits.{divide_next, divide_node}
use Rattle.rings.proofs.Occurs.{one_other, below_one}
use Rattle.rings.proofs.Links.{put_same, put_other}
use Rattle.rings.proofs.Ringed.{ringed_circles}
use Rattle.rings.proofs.Closed.{within, one_image, meets_next, meets_self, meets_sym}
use Rattle.rings.proofs.Labels.{few_but_zero, label_there}
use Rattle.rings.proofs.LowMeets.{low_meets, names_low}
use Rattle.rings.proofs.Division.{DivideKeeps, divide_keeps, divide_divided, same_ring, at_p, at_n, at_q, at_top, at_top_alone, at_else}
use Rattle.rings.proofs.TwoRings.{ring_same, new_apart, just_one, neither, either, others_stay, told_along}
use Rattle.rings.proofs.Words.{some_circle}
use Rattle.topology.specs.declared.side.Side.{Side}
use Rattle.topology.specs.declared.vertex.Vertex.{Vertex}
use Rattle.topology.specs.Rows.{no_side, no_vertex, next_of, node_of, polygon_of, row_of, low_of, good, same_place, start_of}
use Rattle.topology.specs.MapLaw.{AllFinite, EndsTogether, RunsStand, PolygonsKnown, LowBelow}
use Rattle.topology.specs.Lawfuls.{Lawful}
use Rattle.topology.specs.Islands.{all_good}
use Rattle.topology.specs.Divisions.{lowest_of, ring_low, ring_told, relinked, unturned_to, turned_to, linked, fit_run}
use Rattle.topology.proofs.Places.{place_self, place_sym, place_chain}
use Rattle.topology.proofs.IslandLaw.{good_at, row_low}
use Rattle.topology.proofs.RingTold.{told_long, told_polygon, told_low, told_else, lowest_first, lowest_other, lowest_there}

-- ---- the linked rows

module _ (us : List Side) (first second row last : ℕ) where
  abbrev n : ℕ
  n = length us

  abbrev a : Side
  a = unturned_to us first second row

  abbrev b : Side
  b = turned_to us first second last

  abbrev olds : List Side
  olds = map (relinked n first second) us

  abbrev ws : List Side
  ws = linked us first second row last

  olds_long : length olds ≡ n
  olds_long = length-map us (relinked n first second)

  pub linked_long : length ws ≡ n + 2
  linked_long = length-append olds (a ∷ b ∷ []) ∙ omega (arith, olds_long)

  pub old_row : (k : ℕ) → k < n → get_or ws k no_side ≡ relinked n first second (get_or us k no_side)
  old_row k l = get_or_append_left olds (a ∷ b ∷ []) no_side k (omega (arith, olds_long)) ∙ get_or-map (relinked n first second) us k no_side no_side l

  pub n_row : get_or ws n no_side ≡ a
  n_row =
      let e : n - n ≡ 0 = omega arith in
      get_or-append_right olds (a ∷ b ∷ []) n n no_side olds_long (omega arith) ∙ ap (λ (j : ℕ). get_or (a ∷ b ∷ []) j no_side) e

  pub top_row : get_or ws (suc n) no_side ≡ b
  top_row =
      let e : suc n - n ≡ 1 = omega arith in
      get_or-append_right olds (a ∷ b ∷ []) n (suc n) no_side olds_long (omega arith) ∙ ap (λ (j : ℕ). get_or (a ∷ b ∷ []) j no_side) e

  pub past_row : (k : ℕ) → n + 2 ≤ k → get_or ws k no_side ≡ no_side
  past_row k g = get_or_past ws k no_side (omega (arith, linked_long))

  -- a side is an old one, one of the two, or none
  which : (k : ℕ) → (k < n) ⊎ ((k ≡ n) ⊎ ((k ≡ suc n) ⊎ (n + 2 ≤ k)))
  which k =
      elim (cases_lt k n) [
        | inl l ↦ inl l
        | inr g ↦ elim (cases_eq k n) [ inl e ↦ inr (inl e) | inr ne ↦ elim (cases_eq k (suc n)) [ inl e ↦ inr (inr (inl e)) | inr nt ↦ inr (inr (inr (omega arith))) ] ]
      ]

  -- a field by these rows
  by_rows : (F : Side → ℕ) (h : ℕ → ℕ) → ((k : ℕ) → k < n → F (relinked n first second (get_or us k no_side)) ≡ h k) → F a ≡ h n → F b ≡ h (suc n) →
      ((k : ℕ) → n + 2 ≤ k → F no_side ≡ h k) → (k : ℕ) → F (get_or ws k no_side) ≡ h k
  by_rows F h old new top past k =
      elim (which k) [
        | inl l ↦ ap F (old_row k l) ∙ old k l
        | inr w ↦
            elim w [
              | inl e ↦ ap (λ (j : ℕ). F (get_or ws j no_side)) e ∙ (ap F n_row ∙ (new ∙ ap h (sym e)))
              | inr v ↦
                  elim v [
                    | inl e ↦ ap (λ (j : ℕ). F (get_or ws j no_side)) e ∙ (ap F top_row ∙ (top ∙ ap h (sym e)))
                    | inr g ↦ ap F (past_row k g) ∙ past k g
                  ]
            ]
      ]

-- the new links of an old side
relink_old : (f : ℕ → ℕ) (n p q k first second : ℕ) → p < n → q < n → k < n → f p ≡ first → f q ≡ second → (f k ≡ first → k ≡ p) → (f k ≡ second → k ≡ q) →
    cond (eqb (f k) first) n (cond (eqb (f k) second) (n + 1) (f k)) ≡ divide_next f n p q k
relink_old f n p q k first second lp lq lk fp fq one two =
    elim (cases_eq k p) [
      | inl e ↦
          cond-true (eqb (f k) first) n (cond (eqb (f k) second) (n + 1) (f k)) (eq-eqb (f k) first (ap f e ∙ fp))
          ∙ sym (ap (divide_next f n p q) e ∙ at_p f n p q lp lq)
      | inr np ↦
          cond-false (eqb (f k) first) n (cond (eqb (f k) second) (n + 1) (f k)) (ne_eqb (f k) first (λ e. np (one e)))
          ∙ elim (cases_eq k q) [
            | inl e ↦
                cond-true (eqb (f k) second) (n + 1) (f k) (eq-eqb (f k) second (ap f e ∙ fq))
                ∙ (add-one n ∙ sym (ap (divide_next f n p q) e ∙ at_q f n p q lp lq (λ i. np (e ∙ i))))
            | inr nq ↦ cond-false (eqb (f k) second) (n + 1) (f k) (ne_eqb (f k) second (λ e. nq (two e))) ∙ sym (at_else f n p q lp lq k lk np nq)
          ]
    ]

past_divide : (f : ℕ → ℕ) (n p q k : ℕ) → p < n → q < n → n + 2 ≤ k → divide_next f n p q k ≡ f k
past_divide f n p q k lp lq g =
    put_other (put (put (put f q (suc n)) (suc n) (put f q (suc n) p)) n (f q)) p n k (omega arith)
    ∙ (put_other (put (put f q (suc n)) (suc n) (put f q (suc n) p)) n (f q) k (omega arith)
    ∙ (put_other (put f q (suc n)) (suc n) (put f q (suc n) p) k (omega arith) ∙ put_other f q (suc n) k (omega arith)))

-- ---- the law

module _ (us : List Side) (vs run : List Vertex) (nodes polygons first second p q pu pt : ℕ) (L : Lawful us vs (length us) nodes polygons)
    (lf : first < length us) (ls : second < length us) (lp : p < length us) (lq : q < length us) (fp : next_of us p ≡ first) (fq : next_of us q ≡ second)
    (share : meets (next_of us) (length us) first second ≡ true) where
  abbrev row : ℕ
  row = length vs

  abbrev last : ℕ
  last = length vs + (length run - 1)

  abbrev N : ℕ
  N = length us + 2

  abbrev m : ℕ
  m = length us

  abbrev f : ℕ → ℕ
  f = next_of us

  abbrev xs : List Side
  xs = linked us first second row last

  abbrev g : ℕ → ℕ
  g = next_of xs

  one : (k j : ℕ) → k < m → j < m → f k ≡ f j → k ≡ j
  one k j lk lj e = one_image f m (rings f m) (ringed_circles f m L.in_rings) k j lk lj e

  top_next : cond (eqb first second) (m + 1) first ≡ divide_next f m p q (suc m)
  top_next =
      elim (cases_eq q p) [
        | inl e ↦
            cond-true (eqb first second) (m + 1) first (eq-eqb first second (sym fp ∙ (ap f (sym e) ∙ fq))) ∙ (add-one m ∙ sym (at_top_alone f m p q lp lq e))
        | inr ne ↦
            cond-false (eqb first second) (m + 1) first (ne_eqb first second (λ e. ne (one q p lq lp (fq ∙ (sym e ∙ sym fp)))))
            ∙ (sym fp ∙ sym (at_top f m p q lp lq ne))
      ]

  pub next_is : g ≡ divide_next f m p q
  next_is =
      fun_ext
      (by_rows us first second row last (λ r. r.next) (divide_next f m p q)
      (λ k l. relink_old f m p q k first second lp lq l fp fq (λ e. one k p l lp (e ∙ sym fp)) (λ e. one k q l lq (e ∙ sym fq)))
      (sym fq ∙ sym (at_n f m p q lp lq)) top_next
      (λ k h. sym (past_divide f m p q k lp lq h ∙ ap (λ (r : Side). r.next) (get_or_past us k no_side (omega arith)))))

  pub node_is : node_of xs ≡ divide_node f (node_of us) m p q
  node_is =
      fun_ext
      (by_rows us first second row last (λ r. r.node) (divide_node f (node_of us) m p q)
      (λ k l. sym (put_other (put (node_of us) (suc m) (node_of us (f q))) m (node_of us (f p)) k (omega arith) ∙ put_other (node_of us) (suc m) (node_of us (f q)) k (omega arith)))
      (ap (node_of us) (sym fp) ∙ sym (put_same (put (node_of us) (suc m) (node_of us (f q))) m (node_of us (f p))))
      (ap (node_of us) (sym fq) ∙ sym (put_other (put (node_of us) (suc m) (node_of us (f q))) m (node_of us (f p)) (suc m) (omega arith) ∙ put_same (node_of us) (suc m) (node_of us (f q))))
      (λ k h.
      sym
      (put_other (put (node_of us) (suc m) (node_of us (f q))) m (node_of us (f p)) k (omega arith)
      ∙ (put_other (node_of us) (suc m) (node_of us (f q)) k (omega arith) ∙ ap (λ (r : Side). r.node) (get_or_past us k no_side (omega arith))))))

  -- p and q stand in the ring of the first side
  p_first : (k : ℕ) → meets f m first k ≡ meets f m p k
  p_first k =
      ring_same f m p first L.in_rings lp
      (ap (meets f m p) (sym fp) ∙ (meets_next f m (rings f m) (ringed_circles f m L.in_rings) p p lp lp ∙ meets_self f m p)) k

  p_q : meets f m p q ≡ true
  p_q = sym (meets_next f m (rings f m) (ringed_circles f m L.in_rings) p q lp lq) ∙ (ap (meets f m p) fq ∙ (sym (p_first second) ∙ share))

  D : Divided f g m p q
  D = subst (λ (h : ℕ → ℕ). Divided f h m p q) (sym next_is) (divide_divided f m p q lp lq)

  K : DivideKeeps f (node_of us) (polygon_of us) m nodes p q polygons
  K = divide_keeps f (node_of us) (polygon_of us) m nodes p q polygons L.paired L.in_rings L.in_turns L.rings_close L.one_polygon L.one_turn lp lq (λ _. p_q)

  pub linked_rings : Ringed g N
  linked_rings = subst (λ (h : ℕ → ℕ). Ringed h N) (sym next_is) K.ringed

  -- the rings and the turns, as lists
  in_one_ring : (f q ≡ f p → ⊥) → meets f m (f q) (f p) ≡ true
  in_one_ring _ =
      let c = ringed_circles f m L.in_rings in
      meets_next f m (rings f m) c (f q) p (within f m (rings f m) c q lq) lp
      ∙ (ring_same f m p (f q) L.in_rings lp (meets_next f m (rings f m) c p q lp lq ∙ p_q) p ∙ meets_self f m p)

  pub unturned_list : ring g N m ≡ m ∷ second ∷ walk f m first second
  unturned_list = unturned_ring f g m p q L.in_rings lp lq D in_one_ring ∙ (ap (λ (x : ℕ). m ∷ x ∷ walk f m (f p) x) fq ∙ ap (λ (x : ℕ). m ∷ second ∷ walk f m x second) fp)

  pub turned_list : ring g N (suc m) ≡ suc m ∷ cond (eqb first second) [] (first ∷ walk f m second first)
  turned_list =
      turned_ring f g m p q L.in_rings lp lq D in_one_ring
      ∙ (ap (λ (x : ℕ). suc m ∷ cond (eqb (f p) x) [] (f p ∷ walk f m x (f p))) fq ∙ ap (λ (x : ℕ). suc m ∷ cond (eqb x second) [] (x ∷ walk f m second x)) fp)

  pub turn_list : (k : ℕ) → k < m → ring (turn g) N k ≡ let_in (divide_after (turn f) m first second) (ring (turn f) m k)
  turn_list k l =
      turn_divided f g m p q L.in_rings lp lq D L.paired L.in_turns k l
      ∙ (ap (λ (x : ℕ). let_in (divide_after (turn f) m x (f q)) (ring (turn f) m k)) fp ∙ ap (λ (x : ℕ). let_in (divide_after (turn f) m first x) (ring (turn f) m k)) fq)

  -- ---- the rows told

  abbrev U : ℕ → Bool
  U = meets g N m

  abbrev T : ℕ → Bool
  T = meets g N (suc m)

  abbrev us₁ : List Side
  us₁ = ring_told xs m pu

  abbrev us' : List Side
  us' = ring_told us₁ (m + 1) pt

  xs_long : length xs ≡ N
  xs_long = linked_long us first second row last

  long₁ : length us₁ ≡ N
  long₁ = told_long xs m pu ∙ xs_long

  pub long' : length us' ≡ N
  long' = told_long us₁ (m + 1) pt ∙ long₁

  pub next₁ : next_of us₁ ≡ g
  next₁ = told_else xs m pu (λ r. r.next) (λ r. refl)

  pub next' : next_of us' ≡ g
  next' = told_else us₁ (m + 1) pt (λ r. r.next) (λ r. refl) ∙ next₁

  node' : node_of us' ≡ node_of xs
  node' = told_else us₁ (m + 1) pt (λ r. r.node) (λ r. refl) ∙ told_else xs m pu (λ r. r.node) (λ r. refl)

  row' : row_of us' ≡ row_of xs
  row' = told_else us₁ (m + 1) pt (λ r. r.row) (λ r. refl) ∙ told_else xs m pu (λ r. r.row) (λ r. refl)

  abbrev lu : ℕ
  lu = lowest_of m (walk g N m m)

  abbrev lt : ℕ
  lt = lowest_of (suc m) (walk g N (suc m) (suc m))

  lu_is : ring_low xs m ≡ lu
  lu_is = ap (λ (j : ℕ). lowest_of m (walk g j m m)) xs_long

  lt_is : ring_low us₁ (m + 1) ≡ lt
  lt_is =
      ap (λ (h : ℕ → ℕ). lowest_of (m + 1) (walk h (length us₁) (m + 1) (m + 1))) next₁
      ∙ (ap (λ (j : ℕ). lowest_of (m + 1) (walk g j (m + 1) (m + 1))) long₁ ∙ ap (λ (j : ℕ). lowest_of j (walk g N j j)) (add-one m))

  met_U : (k : ℕ) → meets (next_of xs) (length xs) m k ≡ U k
  met_U k = ap (λ (j : ℕ). meets g j m k) xs_long

  met_T : (k : ℕ) → meets (next_of us₁) (length us₁) (m + 1) k ≡ T k
  met_T k =
      ap (λ (h : ℕ → ℕ). meets h (length us₁) (m + 1) k) next₁
      ∙ (ap (λ (j : ℕ). meets g j (m + 1) k) long₁ ∙ ap (λ (j : ℕ). meets g N j k) (add-one m))

  polygon' : (k : ℕ) → k < N → polygon_of us' k ≡ cond (T k) pt (cond (U k) pu (polygon_of xs k))
  polygon' k l =
      told_polygon us₁ (m + 1) pt k (omega (arith, long₁))
      ∙ (ap (λ (v : Bool). cond v pt (polygon_of us₁ k)) (met_T k)
      ∙ ap (cond (T k) pt) (told_polygon xs m pu k (omega (arith, xs_long)) ∙ ap (λ (v : Bool). cond v pu (polygon_of xs k)) (met_U k)))

  low' : (k : ℕ) → k < N → low_of us' k ≡ cond (T k) lt (cond (U k) lu (low_of xs k))
  low' k l =
      told_low us₁ (m + 1) pt k (omega (arith, long₁))
      ∙ (ap (λ (v : Bool). cond v (ring_low us₁ (m + 1)) (low_of us₁ k)) (met_T k)
      ∙ (ap (λ (v : ℕ). cond (T k) v (low_of us₁ k)) lt_is
      ∙ ap (cond (T k) lt)
      (told_low xs m pu k (omega (arith, xs_long)) ∙ (ap (λ (v : Bool). cond v (ring_low xs m) (low_of xs k)) (met_U k) ∙ ap (λ (v : ℕ). cond (U k) v (low_of xs k)) lu_is))))

  polygon_old : (k : ℕ) → k < m → polygon_of xs k ≡ polygon_of us k
  polygon_old k l = ap (λ (r : Side). r.polygon) (old_row us first second row last k l)

  low_old : (k : ℕ) → k < m → low_of xs k ≡ low_of us k
  low_old k l = ap (λ (r : Side). r.low) (old_row us first second row last k l)

  -- a label along the two new rings
  along_both : (lab : ℕ → ℕ) (x y : ℕ) (lab' : ℕ → ℕ) → Along f lab m → ((k : ℕ) → k < m → lab' k ≡ lab k) → Along g (λ k. cond (T k) y (cond (U k) x (lab' k))) N
  along_both lab x y lab' along same = told_along f g m p q L.in_rings linked_rings lp lq (λ _. p_q) D lab lab' x y along same

  along_as : (new lab : ℕ → ℕ) → ((k : ℕ) → k < N → new k ≡ lab k) → Along g lab N → Along g new N
  along_as new lab same along k l = same (g k) (within g N (rings g N) (ringed_circles g N linked_rings) k l) ∙ (along k l ∙ sym (same k l))

  polygon_along : Along g (polygon_of us') N
  polygon_along = along_as (polygon_of us') (λ k. cond (T k) pt (cond (U k) pu (polygon_of xs k))) polygon' (along_both (polygon_of us) pu pt (polygon_of xs) L.one_polygon polygon_old)

  low_along : Along g (low_of us') N
  low_along = along_as (low_of us') (λ k. cond (T k) lt (cond (U k) lu (low_of xs k))) low' (along_both (low_of us) lu lt (low_of xs) L.low_along low_old)

  -- ---- which ring a side stands in

  apart : T m ≡ false
  apart =
      meets_sym g N (rings g N) (ringed_circles g N linked_rings) (suc m) m (omega arith) (omega arith)
      ∙ new_apart f g m p q L.in_rings linked_rings lp lq (λ _. p_q) D

  none : (k : ℕ) → k < N → U k ≡ false → T k ≡ false → (k < m) × (g k ≡ f k) × (meets f m p k ≡ false)
  none = neither f g m p q L.in_rings linked_rings lp lq (λ _. p_q) D

  some : (k : ℕ) → k < m → (U k ≡ true) ⊎ (T k ≡ true) → meets f m p k ≡ true
  some = either f g m p q L.in_rings linked_rings lp lq (λ _. p_q) D

  data_at : (x y v : ℕ) (k : ℕ) → (T k ≡ true → cond (T k) y (cond (U k) x v) ≡ y) × (T k ≡ false → U k ≡ true → cond (T k) y (cond (U k) x v) ≡ x) × (T k ≡ false → U k ≡ false → cond (T k) y (cond (U k) x v) ≡ v)
  data_at x y v k = (
    λ t. cond-true (T k) y (cond (U k) x v) t,
    λ t u. cond-false (T k) y (cond (U k) x v) t ∙ cond-true (U k) x v u,
    λ t u. cond-false (T k) y (cond (U k) x v) t ∙ cond-false (U k) x v u,
  )

  -- what holds of the labels of the two new rings, and of the others that stay, holds of all
  each : (P : ℕ → Type 0) (x y : ℕ) (lab : ℕ → ℕ) (k : ℕ) → k < N → (T k ≡ true → P y) → (T k ≡ false → U k ≡ true → P x) → (T k ≡ false → U k ≡ false → k < m → P (lab k)) →
      P (cond (T k) y (cond (U k) x (lab k)))
  each P x y lab k l ht hu hn =
      elim (cases_Bool (T k)) [
        | inl t ↦ subst P (sym ((data_at x y (lab k) k).0 t)) (ht t)
        | inr t ↦
            elim (cases_Bool (U k)) [
              | inl u ↦ subst P (sym ((data_at x y (lab k) k).1 t u)) (hu t u)
              | inr u ↦ subst P (sym ((data_at x y (lab k) k).2 t u)) (hn t u (none k l u t).0)
            ]
      ]

  -- ---- the lowest sides

  low_met : (s : ℕ) → meets g N s (lowest_of s (walk g N s s)) ≡ true
  low_met s = lt-ltb 0 (occ (lowest_of s (walk g N s s)) (ring g N s)) (lowest_there s (walk g N s s))

  low_most : (s k : ℕ) → meets g N s k ≡ true → lowest_of s (walk g N s s) ≤ k
  low_most s k h =
      let o = ltb-true 0 (occ k (ring g N s)) h in
      elim (cases_eq k s) [
        | inl e ↦ let w = lowest_first s (walk g N s s) in omega arith
        | inr ne ↦ lowest_other s k (walk g N s s) (omega (arith, one_other k s ne))
      ]

  low_below : LowBelow us' N
  low_below k l =
      subst (λ (v : ℕ). v ≤ k) (sym (low' k l))
      (each (λ v. v ≤ k) lu lt (low_of xs) k l (λ t. low_most (suc m) k t) (λ t u. low_most m k u)
      (λ t u lk. subst (λ (v : ℕ). v ≤ k) (sym (low_old k lk)) (L.low_below k lk)))

  -- a side and the lowest side of its ring
  back : (s k : ℕ) → s < N → meets g N s k ≡ true → meets g N k (lowest_of s (walk g N s s)) ≡ true
  back s k l h = ring_same g N s k linked_rings l h (lowest_of s (walk g N s s)) ∙ low_met s

  low_there : (k : ℕ) → k < N → meets g N k (low_of us' k) ≡ true
  low_there k l =
      subst (λ (v : ℕ). meets g N k v ≡ true) (sym (low' k l))
      (each (λ v. meets g N k v ≡ true) lu lt (low_of xs) k l (λ t. back (suc m) k (omega arith) t) (λ t u. back m k (omega arith) u)
      (λ t u lk.
      let stay = others_stay f g m p q L.in_rings linked_rings lp lq (λ _. p_q) D k lk (none k l u t).2 in
      ap (λ (v : ℕ). meets g N k v) (low_old k lk)
      ∙ (ap (λ (ys : List ℕ). ltb 0 (occ (low_of us k) ys)) stay ∙ low_meets f (low_of us) m L.in_rings L.low_along L.low_names k lk)))

  -- ---- the polygons

  pub at_unturned : polygon_of us' m ≡ pu
  at_unturned = polygon' m (omega arith) ∙ (data_at pu pt (polygon_of xs m) m).1 apart (meets_self g N m)

  pub at_turned : polygon_of us' (suc m) ≡ pt
  at_turned = polygon' (suc m) (omega arith) ∙ (data_at pu pt (polygon_of xs (suc m)) (suc m)).0 (meets_self g N (suc m))

  -- a side of another ring has the polygon that it had
  pub at_other : (k : ℕ) → k < m → meets f m first k ≡ false → polygon_of us' k ≡ polygon_of us k
  at_other k lk e =
      elim (cases_Bool (T k)) [
        | inl t ↦ absurd (false≢true (sym e ∙ (p_first k ∙ some k lk (inr t))))
        | inr t ↦
            elim (cases_Bool (U k)) [
              | inl u ↦ absurd (false≢true (sym e ∙ (p_first k ∙ some k lk (inl u))))
              | inr u ↦ polygon' k (omega arith) ∙ ((data_at pu pt (polygon_of xs k) k).2 t u ∙ polygon_old k lk)
            ]
      ]

  module _ (named : ((pu ≡ polygons) × (pt ≡ polygon_of us first)) ⊎ ((pu ≡ polygon_of us first) × (pt ≡ polygons))) where
    known : PolygonsKnown us' N (polygons + 1)
    known k l =
        let o = L.polygons_known first lf in
        subst (λ (v : ℕ). v < polygons + 1) (sym (polygon' k l))
        (each (λ v. v < polygons + 1) pu pt (polygon_of xs) k l
        (λ t. elim named [ inl w ↦ omega (arith, w.1) | inr w ↦ omega (arith, w.1) ])
        (λ t u. elim named [ inl w ↦ omega (arith, w.0) | inr w ↦ omega (arith, w.0) ])
        (λ t u lk. omega (arith, polygon_old k lk, L.polygons_known k lk)))

    has : (x k : ℕ) → k < N → polygon_of us' k ≡ x → 0 < occ x (names (polygon_of us') (rings g N))
    has x k l e = subst (λ (v : ℕ). 0 < occ v (names (polygon_of us') (rings g N))) e (label_there g (polygon_of us') N linked_rings polygon_along k l)

    -- the new polygon and the old one stand at the new sides
    has_new : 0 < occ polygons (names (polygon_of us') (rings g N))
    has_new = elim named [ inl w ↦ has polygons m (omega arith) (at_unturned ∙ w.0) | inr w ↦ has polygons (suc m) (omega arith) (at_turned ∙ w.1) ]

    has_old : 0 < occ (polygon_of us first) (names (polygon_of us') (rings g N))
    has_old =
        elim named [
          | inl w ↦ has (polygon_of us first) (suc m) (omega arith) (at_turned ∙ w.1)
          | inr w ↦ has (polygon_of us first) m (omega arith) (at_unturned ∙ w.0)
        ]

    of_ring : (k : ℕ) → k < m → (U k ≡ true) ⊎ (T k ≡ true) → polygon_of us k ≡ polygon_of us first
    of_ring k lk h =
        same_ring f (polygon_of us) m (rings f m) (ringed_circles f m L.in_rings) L.one_polygon first k lf lk (λ _. p_first k ∙ some k lk h)

    have_rings : (x : ℕ) → 0 < x → x < polygons + 1 → 0 < occ x (names (polygon_of us') (rings g N))
    have_rings x h l =
        elim (cases_eq x polygons) [
          | inl e ↦ subst (λ (v : ℕ). 0 < occ v (names (polygon_of us') (rings g N))) (sym e) has_new
          | inr ne ↦
              let c = ringed_circles f m L.in_rings in
              let (k, on, e) = some_circle f (polygon_of us) x (rings f m) c.round (L.polygons_have_rings x h (omega arith)) in
              let lk = below_one k m (omega (arith, on, c.once k)) in
              elim (cases_Bool (T k)) [
                | inl t ↦ subst (λ (v : ℕ). 0 < occ v (names (polygon_of us') (rings g N))) (sym (of_ring k lk (inr t)) ∙ e) has_old
                | inr t ↦
                    elim (cases_Bool (U k)) [
                      | inl u ↦ subst (λ (v : ℕ). 0 < occ v (names (polygon_of us') (rings g N))) (sym (of_ring k lk (inl u)) ∙ e) has_old
                      | inr u ↦ has x k (omega arith) (polygon' k (omega arith) ∙ ((data_at pu pt (polygon_of xs k) k).2 t u ∙ (polygon_old k lk ∙ e)))
                    ]
              ]
        ]

    -- ---- the vertices

    module _ (fit : fit_run run ≡ true) (starts : same_place (get_or run 0 no_vertex) (start_of us vs first) ≡ true) (ends : same_place (get_or run (length run - 1) no_vertex) (start_of us vs second) ≡ true) where
      two : 2 ≤ length run
      two = leb-true 2 (length run) (and_parts (leb 2 (length run)) (all_good run) fit).0

      goods : all_good run ≡ true
      goods = (and_parts (leb 2 (length run)) (all_good run) fit).1

      abbrev vs' : List Vertex
      vs' = vs ++ run

      vs_long : length vs' ≡ length vs + length run
      vs_long = length-append vs run

      old_vertex : (i : ℕ) → i < length vs → get_or vs' i no_vertex ≡ get_or vs i no_vertex
      old_vertex i l = get_or_append_left vs run no_vertex i l

      new_vertex : (i : ℕ) → get_or vs' (length vs + i) no_vertex ≡ get_or run i no_vertex
      new_vertex i =
          let e : length vs + i - length vs ≡ i = omega arith in
          get_or-append_right vs run (length vs) (length vs + i) no_vertex refl (omega arith) ∙ ap (λ (j : ℕ). get_or run j no_vertex) e

      all_finite : AllFinite vs'
      all_finite i l =
          elim (cases_lt i (length vs)) [
            | inl o ↦ rw (old_vertex i o) (L.all_finite i o)
            | inr h ↦
                let e : i ≡ length vs + (i - length vs) = omega arith in
                rw (e, new_vertex (i - length vs)) (good_at run goods (i - length vs) (omega (arith, vs_long)))
          ]

      row_old : (k : ℕ) → k < m → row_of us' k ≡ row_of us k
      row_old k l = ap (λ (h : ℕ → ℕ). h k) row' ∙ ap (λ (r : Side). r.row) (old_row us first second row last k l)

      row_n : row_of us' m ≡ row
      row_n = ap (λ (h : ℕ → ℕ). h m) row' ∙ ap (λ (r : Side). r.row) (n_row us first second row last)

      row_top : row_of us' (suc m) ≡ last
      row_top = ap (λ (h : ℕ → ℕ). h (suc m)) row' ∙ ap (λ (r : Side). r.row) (top_row us first second row last)

      node_old : (k : ℕ) → k < m → node_of us' k ≡ node_of us k
      node_old k l = ap (λ (h : ℕ → ℕ). h k) node' ∙ ap (λ (r : Side). r.node) (old_row us first second row last k l)

      node_n : node_of us' m ≡ node_of us first
      node_n = ap (λ (h : ℕ → ℕ). h m) node' ∙ ap (λ (r : Side). r.node) (n_row us first second row last)

      node_top : node_of us' (suc m) ≡ node_of us second
      node_top = ap (λ (h : ℕ → ℕ). h (suc m)) node' ∙ ap (λ (r : Side). r.node) (top_row us first second row last)

      good_old : (k : ℕ) → k < m → good (start_of us vs k) ≡ true
      good_old k l = L.all_finite (row_of us k) (row_low us vs m k L.paired L.runs_stand l)

      runs_stand : RunsStand us' vs' N
      runs_stand k l =
          elim (cases_lt (k + k + 1) m) [
            | inl o ↦
                let r = L.runs_stand k o in
                let x = row_old (k + k) (omega arith) in
                let y = row_old (k + k + 1) o in
                (omega (arith, r.0, x, y), omega (arith, r.1, y, vs_long))
            | inr h ↦
                let d : k + k ≡ m = omega (arith, L.paired) in
                let e : k + k + 1 ≡ suc m = omega arith in
                let x = ap (row_of us') d ∙ row_n in
                let y = ap (row_of us') e ∙ row_top in
                (omega (arith, x, y, two), omega (arith, y, vs_long, two))
          ]

      -- each side begins where some old side begins, at its place
      abbrev Old : ℕ → Type 0
      Old s = (o : ℕ) × (o < m) × (node_of us' s ≡ node_of us o) × (same_place (start_of us' vs' s) (start_of us vs o) ≡ true)

      old_of : (s : ℕ) → s < N → Old s
      old_of s l =
          elim (cases_lt s m) [
            | inl o ↦
                let e : start_of us' vs' s ≡ start_of us vs s =
                ap (λ (i : ℕ). get_or vs' i no_vertex) (row_old s o) ∙ old_vertex (row_of us s) (row_low us vs m s L.paired L.runs_stand o) in
                (s, o, node_old s o, rw e (place_self (start_of us vs s) (good_old s o)))
            | inr h ↦
                elim (cases_eq s m) [
                  | inl i ↦
                      let z : row ≡ length vs + 0 = omega arith in
                      let e : start_of us' vs' s ≡ get_or run 0 no_vertex = ap (λ (j : ℕ). get_or vs' j no_vertex) (ap (row_of us') i ∙ (row_n ∙ z)) ∙ new_vertex 0 in
                      (first, lf, ap (node_of us') i ∙ node_n, rw e starts)
                  | inr ne ↦
                      let i : s ≡ suc m = omega arith in
                      let e : start_of us' vs' s ≡ get_or run (length run - 1) no_vertex = ap (λ (j : ℕ). get_or vs' j no_vertex) (ap (row_of us') i ∙ row_top) ∙ new_vertex (length run - 1) in
                      (second, ls, ap (node_of us') i ∙ node_top, rw e ends)
                ]
          ]

      ends_together : EndsTogether us' vs' N
      ends_together s t (l, k, e) =
          let (o, lo, eo, po) = old_of s l in
          let (u, lv, ev, pv) = old_of t k in
          let A = start_of us' vs' s in
          let B = start_of us vs o in
          let C = start_of us vs u in
          let E = start_of us' vs' t in
          place_chain A B E po (place_chain B C E (L.ends_together o u (lo, lv, sym eo ∙ (e ∙ ev))) (place_sym E C pv))

      along_to : (lab : ℕ → ℕ) → Along g lab N → Along (next_of us') lab N
      along_to lab h = subst (λ (z : ℕ → ℕ). Along z lab N) (sym next') h

      nexts : next_of us' ≡ divide_next f m p q
      nexts = next' ∙ next_is

      nodes_are : node_of us' ≡ divide_node f (node_of us) m p q
      nodes_are = node' ∙ node_is

      pub divide_lawful : Lawful us' vs' N nodes (polygons + 1)
      divide_lawful = record {
        paired = omega (arith, L.paired);
        polygon_zero = omega arith;
        polygons_few = few_but_zero g (polygon_of us') N (polygons + 1) linked_rings have_rings;
        nodes_few = omega (arith, L.nodes_few);
        in_rings = subst (λ (z : ℕ → ℕ). Ringed z N) (sym nexts) K.ringed;
        in_turns = subst (λ (z : ℕ → ℕ). Ringed (turn z) N) (sym nexts) K.turned;
        rings_close =
            subst (λ (z : ℕ → ℕ). Closes z (node_of us') N) (sym nexts)
            (subst (λ (h : ℕ → ℕ). Closes (divide_next f m p q) h N) (sym nodes_are) K.closes);
        one_polygon = along_to (polygon_of us') polygon_along;
        one_turn =
            subst (λ (z : ℕ → ℕ). Noded z (node_of us') N nodes) (sym nexts)
            (subst (λ (h : ℕ → ℕ). Noded (divide_next f m p q) h N nodes) (sym nodes_are) K.noded);
        polygons_known = known;
        polygons_have_rings = subst (λ (z : ℕ → ℕ). (x : ℕ) → 0 < x → x < polygons + 1 → 0 < occ x (names (polygon_of us') (rings z N))) (sym next') have_rings;
        ends_together = ends_together;
        all_finite = all_finite;
        runs_stand = runs_stand;
        low_along = along_to (low_of us') low_along;
        low_below = low_below;
        low_names =
            subst (λ (z : ℕ → ℕ). (v : ℕ) → occ v (names (low_of us') (rings z N)) ≡ one_if (ltb v N && eqb (low_of us' v) v)) (sym next')
            (names_low g (low_of us') N linked_rings low_along low_there);
      }

  -- ---- one ring becomes two

  pub rings_more : length (rings g N) ≡ suc (length (rings f m))
  rings_more = ap (λ (h : ℕ → ℕ). length (rings h N)) next_is ∙ K.count

  pub two_apart : U (suc m) ≡ false
  two_apart = new_apart f g m p q L.in_rings linked_rings lp lq (λ _. p_q) D

  pub in_just_one : (k : ℕ) → k < m → one_if (U k) + one_if (T k) ≡ one_if (meets f m first k)
  in_just_one k l = just_one f g m p q L.in_rings linked_rings lp lq (λ _. p_q) D k l ∙ ap one_if (sym (p_first k))

  pub other_rings : (k : ℕ) → k < m → meets f m first k ≡ false → ring g N k ≡ ring f m k
  other_rings k l h = others_stay f g m p q L.in_rings linked_rings lp lq (λ _. p_q) D k l (sym (p_first k) ∙ h)
