-- An arc that has left both its rings and has a node of its own: the law.
use Rattle.std.proofs.Common.{◌≡◌, ℕ, zero, suc, ◌+◌, ◌/◌, ◌%◌, ◌<◌, ◌≤◌, Bool, true, false, cond, not, ◌&&◌, ◌||◌, eqb, ◌⊎◌, List, map, length, get_or, set, sym, refl, ap, ◌∙◌, subst, inl, inr, arith, min, ◌∷◌, ◌++◌}
use Rattle.std.proofs.Math.Bool.{or-false}
use Rattle.std.proofs.lemmas.Bool.{cases_eq, cases_lt, cases_Bool, eq-eqb, ne_eqb, eqb-true, and_parts, and_from, or_cases, or_left, or_right, or_from, not_from_true, not_from_false, cond-true, cond-false, both_ways}
use Rattle.std.proofs.lemmas.List.{get_or-map, get_or-set_same, get_or-set_other, length-set, length-map}
use Rattle.rings.specs.Circles.{occ, names, walk, ring, rings, meets}
use Rattle.rings.specs.LetIn.{without}
use Rattle.rings.specs.Law.{opp, turn, Ringed}
use Rattle.rings.proofs.Ringed.{ringed_circles}
use Rattle.rings.proofs.Closed.{within}
use Rattle.rings.proofs.Occurs.{one_below, below_one}
use Rattle.rings.proofs.LowMeets.{low_same, low_told}
use Rattle.rings.proofs.SameLow.{meets_low}
use Rattle.rings.proofs.Division.{same_ring}
use Rattle.rings.proofs.Words.{some_circle}
use Rattle.rings.proofs.Labels.{few_labels, label_there}
use Rattle.rings.proofs.SetFree.{past, not_so, not_os, ringed_free, count_free, along_free, low_along_free, low_names_free, turned_free, closes_free, noded_free, first_there, one_ring, other_ring, turn_free}
use Rattle.topology.specs.declared.side.Side.{Side}
use Rattle.topology.specs.declared.vertex.Vertex.{Vertex}
use Rattle.topology.specs.declared.merging.Merging.{Merging}
use Rattle.topology.specs.Rows.{no_side, no_vertex, next_of, node_of, polygon_of, row_of, low_of, good, start_of}
use Rattle.topology.specs.MapLaw.{PolygonsKnown, PolygonsHaveRings, EndsTogether, AllFinite, RunsStand, LowAlong, LowBelow, LowNames, OnePolygon, OneTurn, RingsClose}
use Rattle.topology.specs.Lawfuls.{Lawful}
use Rattle.topology.specs.Lifts.{closed_alone, ring_left, other_under}
use Rattle.topology.specs.Merged.{merges, merged}
use Rattle.topology.specs.Dissolves.{share_ring, both_alone, in_either, first_from, merging, alone_at, freed}
use Rattle.topology.proofs.Alone.{rings_alone, other_found}
use Rattle.topology.proofs.Places.{place_self}
use Rattle.topology.proofs.IslandLaw.{row_low}

-- the first that passes a test does so, and comes no later than another that does
pub first_found : (P : ℕ → Bool) (k n t : ℕ) → k ≤ t → t < k + n → P t ≡ true → (P (first_from P k n) ≡ true) × (first_from P k n ≤ t)
first_found P k zero t l h p = absurd (omega arith)
first_found P k (suc n) t l h p =
    elim (cases_Bool (P k)) [
      | inl e ↦
          let w = cond-true (P k) k (first_from P (k + 1) n) e in
          (ap P w ∙ e, omega (arith, w))
      | inr e ↦
          let w = cond-false (P k) k (first_from P (k + 1) n) e in
          let ne : k ≡ t → ⊥ = λ i. both_ways (P k) e (ap P i ∙ p) in
          let r = first_found P (k + 1) n t (omega arith) (omega arith) p in
          let b = r.1 in
          (ap P w ∙ r.0, omega (arith, w, b))
    ]

-- a number is one of two, as each test tells it
one_of_two : (k s o : ℕ) →
    (((eqb k s || eqb k o) ≡ true) × ((eqb s k || eqb o k) ≡ true) × ((k ≡ s) ⊎ (k ≡ o)))
    ⊎ (((eqb k s || eqb k o) ≡ false) × ((eqb s k || eqb o k) ≡ false) × (k ≡ s → ⊥) × (k ≡ o → ⊥))
one_of_two k s o =
    elim (cases_eq k s) [
      | inl e ↦ inl (or_left (eqb k s) (eqb k o) (eq-eqb k s e), or_left (eqb s k) (eqb o k) (eq-eqb s k (sym e)), inl e)
      | inr ns ↦
          elim (cases_eq k o) [
            | inl e ↦ inl (or_right (eqb k s) (eqb k o) (eq-eqb k o e), or_right (eqb s k) (eqb o k) (eq-eqb o k (sym e)), inr e)
            | inr nt ↦
                inr (or_from (eqb k s) (eqb k o) (ne_eqb k s ns) (ne_eqb k o nt), or_from (eqb s k) (eqb o k) (ne_eqb s k (λ e. ns (sym e))) (ne_eqb o k (λ e. nt (sym e))), ns, nt)
          ]
    ]

-- where s and o have one number x now, two numbers are one exactly if they were, or if each was one of s and o
one_told : (k t s o x : ℕ) → ((k ≡ s → ⊥) → (k ≡ o → ⊥) → k ≡ x → ⊥) → ((t ≡ s → ⊥) → (t ≡ o → ⊥) → t ≡ x → ⊥) →
    eqb (cond (eqb k s || eqb k o) x k) (cond (eqb t s || eqb t o) x t) ≡ (eqb k t || ((eqb s k || eqb o k) && (eqb s t || eqb o t)))
one_told k t s o x hk ht =
    elim (one_of_two k s o) [
      | inl (a, b, e) ↦
          elim (one_of_two t s o) [
            | inl (a', b', e') ↦ rw (a, b, a', b') (eq-eqb x x refl ∙ sym (or_right (eqb k t) true refl))
            | inr (a', b', ms, mt) ↦
                let ne : k ≡ t → ⊥ = λ i. elim e [ inl j ↦ ms (sym i ∙ j) | inr j ↦ mt (sym i ∙ j) ] in
                rw (a, b, a', b') (ne_eqb x t (λ i. ht ms mt (sym i)) ∙ sym (or_from (eqb k t) false (ne_eqb k t ne) refl))
          ]
      | inr (a, b, ns, nt) ↦
          elim (one_of_two t s o) [
            | inl (a', b', e') ↦
                let ne : k ≡ t → ⊥ = λ i. elim e' [ inl j ↦ ns (i ∙ j) | inr j ↦ nt (i ∙ j) ] in
                rw (a, b, a') (ne_eqb k x (hk ns nt) ∙ sym (or_from (eqb k t) false (ne_eqb k t ne) refl))
            | inr (a', b', ms, mt) ↦ rw (a, b, a') (sym (or-false (eqb k t)))
          ]
    ]

module _ (us : List Side) (vs : List Vertex) (nodes polygons z a : ℕ) (long : length us ≡ suc (suc (z + z))) (here : a < suc z)
    (L : Lawful us vs (suc (suc (z + z))) nodes polygons) (apart : share_ring us a ≡ false) (some : both_alone us a ≡ false) where
  abbrev N : ℕ
  N = suc (suc (z + z))

  abbrev s : ℕ
  s = a + a

  abbrev o : ℕ
  o = a + a + 1

  abbrev c : Merging
  c = merging us a

  abbrev us₁ : List Side
  us₁ = freed us nodes a

  abbrev f : ℕ → ℕ
  f = next_of us

  abbrev h : ℕ → ℕ
  h = next_of us₁

  abbrev low : ℕ → ℕ
  low = low_of us

  abbrev x : ℕ
  x = first_from (in_either us a) 0 (length us)

  ls : s < N
  ls = omega arith

  lo : o < N
  lo = omega arith

  ne : o ≡ s → ⊥
  ne e = omega arith

  abbrev changed : List Side
  changed = map (merged c) us

  abbrev once : List Side
  once = set changed s (alone_at nodes s (get_or us s no_side))

  changed_long : length changed ≡ N
  changed_long = length-map us (merged c) ∙ long

  once_long : length once ≡ N
  once_long = length-set changed s (alone_at nodes s (get_or us s no_side)) ∙ changed_long

  pub freed_long : length us₁ ≡ N
  freed_long = length-set once o (alone_at nodes o (get_or us o no_side)) ∙ once_long

  pub row_s : get_or us₁ s no_side ≡ alone_at nodes s (get_or us s no_side)
  row_s =
      get_or-set_other once o s (alone_at nodes o (get_or us o no_side)) no_side (λ e. ne (sym e))
      ∙ get_or-set_same changed s (alone_at nodes s (get_or us s no_side)) no_side (omega (arith, changed_long))

  pub row_o : get_or us₁ o no_side ≡ alone_at nodes o (get_or us o no_side)
  row_o = get_or-set_same once o (alone_at nodes o (get_or us o no_side)) no_side (omega (arith, once_long))

  pub row_else : (k : ℕ) → k < N → (k ≡ s → ⊥) → (k ≡ o → ⊥) → get_or us₁ k no_side ≡ merged c (get_or us k no_side)
  row_else k l ns nt =
      get_or-set_other once o k (alone_at nodes o (get_or us o no_side)) no_side nt
      ∙ (get_or-set_other changed s k (alone_at nodes s (get_or us s no_side)) no_side ns ∙ get_or-map (merged c) us k no_side no_side (omega (arith, long)))

  -- ---- the rings

  fc : (k : ℕ) → k < N → f k < N
  fc = within f N (rings f N) (ringed_circles f N L.in_rings)

  apart_f : meets f N s o ≡ false
  apart_f = ap (λ (j : ℕ). meets f j s o) (sym long) ∙ apart

  not_both : f s ≡ s → f o ≡ o → ⊥
  not_both d e = both_ways (both_alone us a) some (and_from (eqb (f s) s) (eqb (f o) o) (eq-eqb (f s) s d) (eq-eqb (f o) o e))

  pub at_s : h s ≡ s
  at_s = ap (λ (r : Side). r.next) row_s

  pub at_o : h o ≡ o
  at_o = ap (λ (r : Side). r.next) row_o

  at_else : (k : ℕ) → k < N → (k ≡ s → ⊥) → (k ≡ o → ⊥) → h k ≡ past f s o (f k)
  at_else k l ns nt = ap (λ (r : Side). r.next) (row_else k l ns nt)

  pub in_rings₁ : Ringed h N
  in_rings₁ = ringed_free f h N s o L.in_rings ls lo ne apart_f not_both at_s at_o at_else

  -- the two rings become one, and the arc's sides are two
  pub count₁ : length (rings h N) ≡ suc (length (rings f N))
  count₁ = count_free f h N s o L.in_rings ls lo ne apart_f not_both at_s at_o at_else

  even : N % 2 ≡ 0
  even = omega arith

  opp_s : opp s ≡ o
  opp_s = omega arith

  opp_o : opp o ≡ s
  opp_o = omega arith

  pub in_turns₁ : Ringed (turn h) N
  in_turns₁ = turned_free f h N s o L.in_rings ls lo ne apart_f not_both at_s at_o at_else even opp_s opp_o L.in_turns

  -- ---- the nodes

  own : node_of us₁ o ≡ node_of us₁ s
  own = ap (λ (r : Side). r.node) row_o ∙ sym (ap (λ (r : Side). r.node) row_s)

  pub node_else : (k : ℕ) → k < N → (k ≡ s → ⊥) → (k ≡ o → ⊥) → node_of us₁ k ≡ node_of us k
  node_else k l ns nt = ap (λ (r : Side). r.node) (row_else k l ns nt)

  rings_close₁ : RingsClose us₁ N
  rings_close₁ =
      closes_free f h N s o L.in_rings ls lo ne apart_f not_both at_s at_o at_else even opp_s opp_o L.in_turns (node_of us) (node_of us₁) L.rings_close own node_else

  one_turn₁ : OneTurn us₁ N (nodes + 1)
  one_turn₁ =
      noded_free f h N s o L.in_rings ls lo ne apart_f not_both at_s at_o at_else even opp_s opp_o L.in_turns (node_of us) (node_of us₁) L.rings_close own node_else nodes L.one_turn
      (ap (λ (r : Side). r.node) row_s)

  -- ---- the lowest sides

  is_merged : (k : ℕ) → (low k ≡ low s) ⊎ (low k ≡ low o) → merges c (low k) ≡ true
  is_merged k (inl e) = or_left (eqb (low k) (low s)) (eqb (low k) (low o)) (eq-eqb (low k) (low s) e)
  is_merged k (inr e) = or_right (eqb (low k) (low s)) (eqb (low k) (low o)) (eq-eqb (low k) (low o) e)

  either_from : (k : ℕ) → k < N → (k ≡ s → ⊥) → (k ≡ o → ⊥) → (low k ≡ low s) ⊎ (low k ≡ low o) → in_either us a k ≡ true
  either_from k l ns nt e =
      and_from (not (eqb (k / 2) a)) (merges c (low k)) (not_from_false (eqb (k / 2) a) (ne_eqb (k / 2) a (other_arc k ns nt))) (is_merged k e)
    where
      other_arc : (k : ℕ) → (k ≡ s → ⊥) → (k ≡ o → ⊥) → k / 2 ≡ a → ⊥
      other_arc k ns nt e = elim (cases_eq (k % 2) 0) [ inl i ↦ ns (omega arith) | inr i ↦ nt (omega arith) ]

  -- a side that stays in one of the two rings
  left : (t : ℕ) × (t < N) × (in_either us a t ≡ true)
  left =
      elim (cases_eq (f s) s) [
        | inr nf ↦ (
          f s,
          fc s ls,
          either_from (f s) (fc s ls) nf (not_so f h N s o L.in_rings ls lo ne apart_f not_both at_s at_o at_else) (inl (L.low_along s ls)),
        )
        | inl e ↦ (
          f o,
          fc o lo,
          either_from (f o) (fc o lo) (not_os f h N s o L.in_rings ls lo ne apart_f not_both at_s at_o at_else) (not_both e) (inr (L.low_along o lo)),
        )
      ]

  x_passes : in_either us a x ≡ true
  x_passes = let (t, l, e) = left in (first_found (in_either us a) 0 (length us) t (omega arith) (omega (arith, long, l)) e).0

  pub x_low : x < N
  x_low = let (t, l, e) = left in omega (arith, l, (first_found (in_either us a) 0 (length us) t (omega arith) (omega (arith, long, l)) e).1)

  x_least : (k : ℕ) → k < N → (k ≡ s → ⊥) → (k ≡ o → ⊥) → (low k ≡ low s) ⊎ (low k ≡ low o) → x ≤ k
  x_least k l ns nt e = (first_found (in_either us a) 0 (length us) k (omega arith) (omega (arith, long)) (either_from k l ns nt e)).1

  x_parts : (not (eqb (x / 2) a) ≡ true) × (merges c (low x) ≡ true)
  x_parts = and_parts (not (eqb (x / 2) a)) (merges c (low x)) x_passes

  x_other : x / 2 ≡ a → ⊥
  x_other e = both_ways (not (eqb (x / 2) a)) (not_from_true (eqb (x / 2) a) (eq-eqb (x / 2) a e)) x_parts.0

  x_s : x ≡ s → ⊥
  x_s e = x_other (ap (λ (k : ℕ). k / 2) e ∙ omega arith)

  x_o : x ≡ o → ⊥
  x_o e = x_other (ap (λ (k : ℕ). k / 2) e ∙ omega arith)

  pub x_in : (low x ≡ low s) ⊎ (low x ≡ low o)
  x_in =
      elim (or_cases (eqb (low x) (low s)) (eqb (low x) (low o)) x_parts.1) [
        | inl e ↦ inl (eqb-true (low x) (low s) e)
        | inr e ↦ inr (eqb-true (low x) (low o) e)
      ]

  not_merged : (k : ℕ) → (low k ≡ low s → ⊥) → (low k ≡ low o → ⊥) → merges c (low k) ≡ false
  not_merged k ms mt = or_from (eqb (low k) (low s)) (eqb (low k) (low o)) (ne_eqb (low k) (low s) ms) (ne_eqb (low k) (low o) mt)

  pub low_s : low_of us₁ s ≡ s
  low_s = ap (λ (r : Side). r.low) row_s

  low_at_o : low_of us₁ o ≡ o
  low_at_o = ap (λ (r : Side). r.low) row_o

  pub low_else : (k : ℕ) → k < N → (k ≡ s → ⊥) → (k ≡ o → ⊥) → low_of us₁ k ≡ cond (merges c (low k)) x (low k)
  low_else k l ns nt = ap (λ (r : Side). r.low) (row_else k l ns nt)

  low_at_one : (k : ℕ) → k < N → (k ≡ s → ⊥) → (k ≡ o → ⊥) → (low k ≡ low s) ⊎ (low k ≡ low o) → low_of us₁ k ≡ x
  low_at_one k l ns nt e = low_else k l ns nt ∙ cond-true (merges c (low k)) x (low k) (is_merged k e)

  low_same₁ : (k : ℕ) → k < N → (k ≡ s → ⊥) → (k ≡ o → ⊥) → (low k ≡ low s → ⊥) → (low k ≡ low o → ⊥) → low_of us₁ k ≡ low k
  low_same₁ k l ns nt ms mt = low_else k l ns nt ∙ cond-false (merges c (low k)) x (low k) (not_merged k ms mt)

  pub low_along₁ : LowAlong us₁ N
  low_along₁ =
      low_along_free f h N s o L.in_rings ls lo ne apart_f not_both at_s at_o at_else low (low_of us₁) x L.low_along L.low_names x_low x_s x_o x_in low_s low_at_o low_at_one low_same₁

  pub low_names₁ : LowNames us₁ N
  low_names₁ =
      low_names_free f h N s o L.in_rings ls lo ne apart_f not_both at_s at_o at_else low (low_of us₁) x L.low_along L.low_names x_low x_s x_o x_in low_s low_at_o low_at_one low_same₁

  -- a side of the arc, a side of the one ring, or another
  by_place : (P : ℕ → Type 0) → P s → P o → ((k : ℕ) → k < N → (k ≡ s → ⊥) → (k ≡ o → ⊥) → (low k ≡ low s) ⊎ (low k ≡ low o) → P k) →
      ((k : ℕ) → k < N → (k ≡ s → ⊥) → (k ≡ o → ⊥) → (low k ≡ low s → ⊥) → (low k ≡ low o → ⊥) → P k) → (k : ℕ) → k < N → P k
  by_place P ps po pi pe k l =
      elim (cases_eq k s) [
        | inl e ↦ subst P (sym e) ps
        | inr ns ↦
            elim (cases_eq k o) [
              | inl e ↦ subst P (sym e) po
              | inr nt ↦
                  elim (cases_eq (low k) (low s)) [
                    | inl e ↦ pi k l ns nt (inl e)
                    | inr ms ↦ elim (cases_eq (low k) (low o)) [ inl e ↦ pi k l ns nt (inr e) | inr mt ↦ pe k l ns nt ms mt ]
                  ]
            ]
      ]

  low_below₁ : LowBelow us₁ N
  low_below₁ =
      by_place (λ k. low_of us₁ k ≤ k) (omega (arith, low_s)) (omega (arith, low_at_o)) (λ k l ns nt e. omega (arith, low_at_one k l ns nt e, x_least k l ns nt e))
      (λ k l ns nt ms mt. omega (arith, low_same₁ k l ns nt ms mt, L.low_below k l))

  -- ---- the polygons

  abbrev p : ℕ
  p = polygon_of us s

  abbrev q : ℕ
  q = polygon_of us o

  pub polygon_s : polygon_of us₁ s ≡ p
  polygon_s = ap (λ (r : Side). r.polygon) row_s

  pub polygon_o : polygon_of us₁ o ≡ q
  polygon_o = ap (λ (r : Side). r.polygon) row_o

  polygon_one : (k : ℕ) → k < N → (k ≡ s → ⊥) → (k ≡ o → ⊥) → (low k ≡ low s) ⊎ (low k ≡ low o) → polygon_of us₁ k ≡ min p q
  polygon_one k l ns nt e = ap (λ (r : Side). r.polygon) (row_else k l ns nt) ∙ cond-true (merges c (low k)) (min p q) (polygon_of us k) (is_merged k e)

  polygon_else : (k : ℕ) → k < N → (k ≡ s → ⊥) → (k ≡ o → ⊥) → (low k ≡ low s → ⊥) → (low k ≡ low o → ⊥) → polygon_of us₁ k ≡ polygon_of us k
  polygon_else k l ns nt ms mt = ap (λ (r : Side). r.polygon) (row_else k l ns nt) ∙ cond-false (merges c (low k)) (min p q) (polygon_of us k) (not_merged k ms mt)

  one_polygon₁ : OnePolygon us₁ N
  one_polygon₁ =
      along_free f h N s o L.in_rings ls lo ne apart_f not_both at_s at_o at_else low (polygon_of us₁) (min p q) L.low_along
      (λ k l ns nt ms mt.
      ap (λ (r : Side). r.polygon) (row_else (f k) (fc k l) ms mt)
      ∙ (ap (λ (j : ℕ). cond (merges c j) (min p q) (polygon_of us (f k))) (L.low_along k l)
      ∙ (ap (λ (j : ℕ). cond (merges c (low k)) (min p q) j) (L.one_polygon k l) ∙ sym (ap (λ (r : Side). r.polygon) (row_else k l ns nt)))))
      polygon_one

  p_low : p < polygons
  p_low = L.polygons_known s ls

  q_low : q < polygons
  q_low = L.polygons_known o lo

  polygons_known₁ : PolygonsKnown us₁ N polygons
  polygons_known₁ =
      by_place (λ k. polygon_of us₁ k < polygons) (omega (arith, polygon_s, p_low)) (omega (arith, polygon_o, q_low))
      (λ k l ns nt e. omega (arith, polygon_one k l ns nt e, p_low, q_low)) (λ k l ns nt ms mt. omega (arith, polygon_else k l ns nt ms mt, L.polygons_known k l))

  -- a ring has one polygon
  of_ring : (k t : ℕ) → k < N → t < N → low k ≡ low t → polygon_of us t ≡ polygon_of us k
  of_ring k t lk lt e =
      same_ring f (polygon_of us) N (rings f N) (ringed_circles f N L.in_rings) L.one_polygon k t lk lt (λ _. low_same f low N L.in_rings L.low_along L.low_names k t lk lt e)

  -- a side of another arc has the polygon that it had, or had one of the two and has the lower
  pub polygon_merged : (k : ℕ) → k < N → (k ≡ s → ⊥) → (k ≡ o → ⊥) →
      (polygon_of us₁ k ≡ polygon_of us k) ⊎ ((polygon_of us₁ k ≡ min p q) × ((polygon_of us k ≡ p) ⊎ (polygon_of us k ≡ q)))
  polygon_merged k l ns nt =
      elim (cases_eq (low k) (low s)) [
        | inl e ↦ inr (polygon_one k l ns nt (inl e), inl (of_ring s k ls l (sym e)))
        | inr ms ↦
            elim (cases_eq (low k) (low o)) [
              | inl e ↦ inr (polygon_one k l ns nt (inr e), inr (of_ring o k lo l (sym e)))
              | inr mt ↦ inl (polygon_else k l ns nt ms mt)
            ]
      ]

  bears : (k : ℕ) → k < N → (t : ℕ) × (t < N) × (polygon_of us₁ t ≡ polygon_of us k)
  bears =
      by_place (λ k. (t : ℕ) × (t < N) × (polygon_of us₁ t ≡ polygon_of us k)) (s, ls, polygon_s) (o, lo, polygon_o)
      (λ k l ns nt e.
      elim e [
        | inl i ↦ (s, ls, polygon_s ∙ of_ring k s l ls i)
        | inr i ↦ (o, lo, polygon_o ∙ of_ring k o l lo i)
      ])
      (λ k l ns nt ms mt. (k, l, polygon_else k l ns nt ms mt))

  polygons_have_rings₁ : PolygonsHaveRings us₁ N polygons
  polygons_have_rings₁ u l k =
      let r = some_circle f (polygon_of us) u (rings f N) (ringed_circles f N L.in_rings).round (L.polygons_have_rings u l k) in
      let i = r.1 in
      let b = bears r.0 (below_one r.0 N (omega (arith, L.in_rings r.0))) in
      subst (λ (j : ℕ). 0 < occ j (names (polygon_of us₁) (rings h N))) (b.2 ∙ r.2) (label_there h (polygon_of us₁) N in_rings₁ one_polygon₁ b.0 b.1)

  -- ---- the vertices: no law of an arc on its own asks where they lie, but that its ends share a place; so all at one place

  pub row_same : (k : ℕ) → k < N → row_of us₁ k ≡ row_of us k
  row_same =
      by_place (λ k. row_of us₁ k ≡ row_of us k) (ap (λ (r : Side). r.row) row_s) (ap (λ (r : Side). r.row) row_o) (λ k l ns nt e. ap (λ (r : Side). r.row) (row_else k l ns nt))
      (λ k l ns nt ms mt. ap (λ (r : Side). r.row) (row_else k l ns nt))

  abbrev place : Vertex
  place = start_of us vs s

  place_good : good place ≡ true
  place_good = L.all_finite (row_of us s) (row_low us vs N s L.paired L.runs_stand ls)

  abbrev vs₁ : List Vertex
  vs₁ = map (λ _. place) vs

  pub vertices_long : length vs₁ ≡ length vs
  vertices_long = length-map vs (λ _. place)

  placed : (i : ℕ) → i < length vs → get_or vs₁ i no_vertex ≡ place
  placed i l = get_or-map (λ _. place) vs i no_vertex no_vertex l

  ends_together₁ : EndsTogether us₁ vs₁ N
  ends_together₁ k t (lk, lt, e) =
      let i : start_of us₁ vs₁ k ≡ place = placed (row_of us₁ k) (omega (arith, row_same k lk, row_low us vs N k L.paired L.runs_stand lk)) in
      let j : start_of us₁ vs₁ t ≡ place = placed (row_of us₁ t) (omega (arith, row_same t lt, row_low us vs N t L.paired L.runs_stand lt)) in
      rw (i, j) (place_self place place_good)

  all_finite₁ : AllFinite vs₁
  all_finite₁ i l = ap good (placed i (omega (arith, vertices_long))) ∙ place_good

  runs_stand₁ : RunsStand us₁ vs₁ N
  runs_stand₁ k l =
      let b = L.runs_stand k l in
      let i = row_same (k + k) (omega arith) in
      let j = row_same (k + k + 1) l in
      (omega (arith, b.0, i, j), omega (arith, b.1, j, vertices_long))

  -- ---- the law

  pub freed_lawful : Lawful us₁ vs₁ N (nodes + 1) polygons
  freed_lawful = record {
    paired = even;
    polygon_zero = L.polygon_zero;
    polygons_few = L.polygons_few;
    nodes_few = few_labels (turn h) (node_of us₁) N (nodes + 1) in_turns₁ (λ u l. omega (arith, one_turn₁ u, one_below u (nodes + 1) l));
    in_rings = in_rings₁;
    in_turns = in_turns₁;
    rings_close = rings_close₁;
    one_polygon = one_polygon₁;
    one_turn = one_turn₁;
    polygons_known = polygons_known₁;
    polygons_have_rings = polygons_have_rings₁;
    ends_together = ends_together₁;
    all_finite = all_finite₁;
    runs_stand = runs_stand₁;
    low_along = low_along₁;
    low_below = low_below₁;
    low_names = low_names₁;
  }

  pub freed_alone : closed_alone us₁ a ≡ true
  freed_alone = rings_alone us₁ vs₁ N (nodes + 1) polygons a freed_long freed_lawful lo at_s at_o

  -- the one ring is left
  pub freed_left : ring_left us₁ a ≡ true
  freed_left =
      let i = polygon_one x x_low x_s x_o x_in in
      let p₁ = polygon_of us₁ s in
      let q₁ = polygon_of us₁ o in
      or_right (eqb (min p₁ q₁) 0) (other_under us₁ a p₁ q₁ (length us₁))
      (other_found us₁ a p₁ q₁ x (length us₁) (omega (arith, freed_long, x_low))
      (and_from (not (eqb (x / 2) a)) (eqb (polygon_of us₁ x) p₁ || eqb (polygon_of us₁ x) q₁) x_parts.0
      (elim (cases_lt q p) [
        | inl l ↦ or_right (eqb (polygon_of us₁ x) p₁) (eqb (polygon_of us₁ x) q₁) (eq-eqb (polygon_of us₁ x) q₁ (omega (arith, i, polygon_o)))
        | inr g ↦ or_left (eqb (polygon_of us₁ x) p₁) (eqb (polygon_of us₁ x) q₁) (eq-eqb (polygon_of us₁ x) p₁ (omega (arith, i, polygon_s)))
      ])))

  -- two sides of other arcs stand in one ring exactly if they did before, or if each stood in the ring of one of the arc's sides
  pub freed_meets : (k t : ℕ) → k < N → t < N → (k ≡ s → ⊥) → (k ≡ o → ⊥) → (t ≡ s → ⊥) → (t ≡ o → ⊥) →
      meets h N k t ≡ (meets f N k t || ((meets f N s k || meets f N o k) && (meets f N s t || meets f N o t)))
  freed_meets k t lk lt ks ko ts to =
      meets_low h (low_of us₁) N in_rings₁ low_along₁ low_names₁ k t lk lt
      ∙ (ap (λ (j : ℕ). eqb j (low_of us₁ t)) (low_else k lk ks ko)
      ∙ (ap (eqb (cond (merges c (low k)) x (low k))) (low_else t lt ts to)
      ∙ (one_told (low k) (low t) (low s) (low o) x (not_x k lk) (not_x t lt)
      ∙ sym (rw (was k t lk lt, was s k ls lk, was o k lo lk, was s t ls lt, was o t lo lt) refl))))
    where
      was : (k t : ℕ) → k < N → t < N → meets f N k t ≡ eqb (low k) (low t)
      was = meets_low f low N L.in_rings L.low_along L.low_names

      not_x : (k : ℕ) → k < N → (low k ≡ low s → ⊥) → (low k ≡ low o → ⊥) → low k ≡ x → ⊥
      not_x k l ms mt e =
          let b : low x ≡ low k = ap low (sym e) ∙ (low_told f low N L.in_rings L.low_along L.low_names k l).1 in
          elim x_in [ inl i ↦ ms (sym b ∙ i) | inr i ↦ mt (sym b ∙ i) ]

  -- the rings and the turns, as lists
  pub freed_first : (x : ℕ) (xs : List ℕ) → walk f N s s ++ walk f N o o ≡ x ∷ xs → (x < N) × (x ≡ s → ⊥) × (x ≡ o → ⊥)
  freed_first = first_there f h N s o L.in_rings ls lo ne apart_f not_both at_s at_o at_else

  pub freed_ring : (x : ℕ) (xs : List ℕ) → walk f N s s ++ walk f N o o ≡ x ∷ xs → ring h N x ≡ x ∷ xs
  freed_ring = one_ring f h N s o L.in_rings ls lo ne apart_f not_both at_s at_o at_else

  pub freed_other : (k : ℕ) → k < N → meets f N s k ≡ false → meets f N o k ≡ false → ring h N k ≡ ring f N k
  freed_other = other_ring f h N s o L.in_rings ls lo ne apart_f not_both at_s at_o at_else

  pub freed_turn : (k : ℕ) → k < N → (k ≡ s → ⊥) → (k ≡ o → ⊥) → ring (turn h) N k ≡ without o (without s (ring (turn f) N k))
  freed_turn = turn_free f h N s o L.in_rings ls lo ne apart_f not_both at_s at_o at_else even opp_s opp_o L.in_turns
