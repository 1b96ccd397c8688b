-- The sides that begin at a node, where just two do, of two arcs.
use Rattle.std.proofs.Common.{◌≡◌, ℕ, suc, ◌+◌, ◌-◌, ◌/◌, ◌<◌, Bool, true, false, not, ◌&&◌, eqb, ltb, cond, List, [], ◌∷◌, length, get_or, Some, None, is_some, sym, refl, ap, ◌∙◌, subst, inl, inr, arith}
use Rattle.std.specs.List.{position, position_or_len}
use Rattle.std.specs.Bool.{then_some}
use Rattle.std.proofs.lemmas.Bool.{cases_eq, cases_lt, cases_Bool, eq-eqb, ne_eqb, eqb-true, and_from, and_left, and_right, and_parts, lt-ltb, le-ltb, cond-true, not_from_true, not_from_false, both_ways, false≢true, ltb-true}
use Rattle.std.proofs.lemmas.List.Quantifiers.{position-Some}
use Rattle.std.proofs.lemmas.List.Sums.{fails_before_first}
use Rattle.rings.specs.Circles.{one_if, occ, ring, rings}
use Rattle.rings.specs.Law.{opp, turn}
use Rattle.rings.proofs.Occurs.{one_same, one_other, one_below}
use Rattle.rings.proofs.Lows.{kept_occ, Up, kept_up, up_one}
use Rattle.rings.proofs.Listing.{ring_is}
use Rattle.rings.proofs.Ringed.{ringed_circles}
use Rattle.rings.proofs.Closed.{within}
use Rattle.rings.proofs.Split.{opp_low}
use Rattle.rings.proofs.Words.{turn_meets}
use Rattle.topology.specs.declared.side.Side.{Side}
use Rattle.topology.specs.declared.vertex.Vertex.{Vertex}
use Rattle.topology.specs.Rows.{no_side, next_of, node_of}
use Rattle.topology.specs.declared.map.Map.{Map}
use Rattle.topology.specs.States.{state_of}
use Rattle.topology.specs.Lawfuls.{Lawful}
use Rattle.topology.specs.Joins.{ends, of_two_arcs, TwoEnds}
use Rattle.topology.proofs.Assembling.{lawful_at, lawful_of}
use Rattle.topology.proofs.JoinLaw.{to_t, to_s}

-- two such sides are the whole list
two_listed : (xs : List ℕ) → of_two_arcs xs ≡ true → (xs ≡ get_or xs 0 0 ∷ get_or xs 1 0 ∷ []) × (get_or xs 1 0 / 2 ≡ get_or xs 0 0 / 2 → ⊥)
two_listed [] h = absurd (false≢true h)
two_listed (s ∷ []) h = absurd (false≢true h)
two_listed (s ∷ t ∷ []) h = (refl, λ e. both_ways (not (eqb (t / 2) (s / 2))) (not_from_true (eqb (t / 2) (s / 2)) (eq-eqb (t / 2) (s / 2) e)) h)
two_listed (s ∷ t ∷ u ∷ more) h = absurd (false≢true h)

module _ (us : List Side) (v : ℕ) where
  abbrev here : ℕ → Bool
  here s = eqb (node_of us s) v

  abbrev es : List ℕ
  es = ends us v

  there : (k : ℕ) → k < length us → node_of us k ≡ v → occ k es ≡ 1
  there k l e = kept_occ here (length us) k ∙ ap one_if (and_from (ltb k (length us)) (here k) (lt-ltb k (length us) l) (eq-eqb (node_of us k) v e))

  from_there : (k : ℕ) → 0 < occ k es → (k < length us) × (node_of us k ≡ v)
  from_there k h =
      let e = kept_occ here (length us) k in
      elim (cases_lt k (length us)) [
        | inr g ↦ absurd (omega (arith, e, ap one_if (and_left (ltb k (length us)) (here k) (le-ltb k (length us) g))))
        | inl l ↦
            elim (cases_eq (node_of us k) v) [
              | inl i ↦ (l, i)
              | inr ne ↦ absurd (omega (arith, e, ap one_if (and_right (ltb k (length us)) (here k) (ne_eqb (node_of us k) v ne))))
            ]
      ]

  of_list : (s t k : ℕ) → occ k (s ∷ t ∷ []) ≡ one_if (eqb k s) + one_if (eqb k t)
  of_list s t k = omega arith

  -- what the list of the sides tells of them
  pub ends_tell : of_two_arcs es ≡ true → TwoEnds us (get_or es 0 0) (get_or es 1 0) × (node_of us (get_or es 0 0) ≡ v)
  ends_tell h =
      let s = get_or es 0 0 in
      let t = get_or es 1 0 in
      let (e, apart) = two_listed es h in
      let up = subst (Up 0) e (kept_up here (length us)) in
      let fs = from_there s (omega (arith, ap (occ s) e, one_same s)) in
      let ft = from_there t (omega (arith, ap (occ t) e, one_same t)) in (
        record {
          rising = up.1.0;
          below = ft.0;
          arcs = apart;
          same = ft.1 ∙ sym fs.1;
          only = λ k l i.
              elim (cases_eq k s) [
                | inl w ↦ inl w
                | inr ns ↦
                    elim (cases_eq k t) [
                      | inl w ↦ inr w
                      | inr nt ↦ absurd (omega (arith, there k l (i ∙ fs.1), ap (occ k) e, one_other k s ns, one_other k t nt))
                    ]
              ];
        },
        fs.1,
      )

  -- .. and back
  ends_listed : (s t : ℕ) → TwoEnds us s t → node_of us s ≡ v → es ≡ s ∷ t ∷ []
  ends_listed s t w i =
      up_one 0 0 es (s ∷ t ∷ []) (kept_up here (length us)) (omega arith, (w.rising, tt))
      (λ k.
      elim (cases_lt 0 (occ k es)) [
        | inl h ↦
            let (l, e) = from_there k h in
            there k l e ∙
            elim (w.only k l (e ∙ sym i)) [
              | inl d ↦ omega (arith, ap one_if (eq-eqb k s d), one_other k t (λ j. omega (arith, w.rising, d, j)))
              | inr d ↦ omega (arith, ap one_if (eq-eqb k t d), one_other k s (λ j. omega (arith, w.rising, d, j)))
            ]
        | inr none ↦
            let ns : k ≡ s → ⊥ = λ e. omega (arith, there k (omega (arith, e, w.rising, w.below)) (ap (node_of us) e ∙ i)) in
            let nt : k ≡ t → ⊥ = λ e. omega (arith, there k (omega (arith, e, w.below)) (ap (node_of us) e ∙ (w.same ∙ i))) in
            omega (arith, one_other k s ns, one_other k t nt)
      ])

  -- no side begins there
  pub none_end : position (λ (r : Side). eqb r.node v) us ≡ None → of_two_arcs es ≡ false
  none_end e =
      elim (cases_Bool (of_two_arcs es)) [
        | inr f ↦ f
        | inl h ↦
            let (w, i) = ends_tell h in
            let P = λ (r : Side). eqb r.node v in
            let l : get_or es 0 0 < length us = omega (arith, w.rising, w.below) in
            absurd
            (elim (cases_lt (position_or_len P us) (length us)) [
              | inl k ↦
                  false≢true (sym (ap is_some (sym (cond-true (ltb (position_or_len P us) (length us)) (Some (position_or_len P us)) None (lt-ltb (position_or_len P us) (length us) k)) ∙ e)))
              | inr g ↦
                  both_ways (P (get_or us (get_or es 0 0) no_side)) (fails_before_first P us (get_or es 0 0) no_side (omega (arith, l, g)))
                  (eq-eqb (node_of us (get_or es 0 0)) v i)
            ])
      ]

  -- the first that begins there, and the next of its opposite
  module _ (vs : List Vertex) (nodes polygons z s : ℕ) (long : length us ≡ suc (suc (z + z))) (L : Lawful us vs (suc (suc (z + z))) nodes polygons)
      (first : position (λ (r : Side). eqb r.node v) us ≡ Some s) where
    abbrev N : ℕ
    N = suc (suc (z + z))

    abbrev f : ℕ → ℕ
    f = next_of us

    abbrev t : ℕ
    t = turn f s

    found : (s < length us) × (eqb (node_of us s) v ≡ true) × ((k : ℕ) → k < s → eqb (node_of us k) v ≡ false)
    found = position-Some (λ (r : Side). eqb r.node v) us s no_side first

    ls : s < N
    ls = omega (arith, found.0, long)

    at_v : node_of us s ≡ v
    at_v = eqb-true (node_of us s) v found.1

    turn_in : (k : ℕ) → k < N → turn f k < N
    turn_in = within (turn f) N (rings (turn f) N) (ringed_circles (turn f) N L.in_turns)

    pub lt : t < N
    lt = turn_in s ls

    t_node : node_of us t ≡ node_of us s
    t_node = L.rings_close s ls

    -- whether the two turn into each other, of two arcs
    abbrev test : Bool
    test = not (eqb (t / 2) (s / 2)) && eqb (turn f t) s

    of_test : test ≡ true → TwoEnds us s t
    of_test h =
        let (x, y) = and_parts (not (eqb (t / 2) (s / 2))) (eqb (turn f t) s) h in
        let apart : t / 2 ≡ s / 2 → ⊥ = λ e. both_ways (not (eqb (t / 2) (s / 2))) (not_from_true (eqb (t / 2) (s / 2)) (eq-eqb (t / 2) (s / 2) e)) x in
        let back = eqb-true (turn f t) s y in
        let st : s ≡ t → ⊥ = λ e. apart (ap (λ (k : ℕ). k / 2) (sym e)) in
        let w =
        ring_is (turn f) N s (t ∷ []) (refl, back)
        (λ k.
        elim (cases_eq k s) [
          | inl e ↦ omega (arith, ap one_if (eq-eqb k s e), one_other k t (λ i. st (sym e ∙ i)), one_below k N (omega (arith, e, ls)))
          | inr ns ↦
              elim (cases_eq k t) [
                | inl e ↦ omega (arith, one_other k s ns, ap one_if (eq-eqb k t e), one_below k N (omega (arith, e, lt)))
                | inr nt ↦ omega (arith, one_other k s ns, one_other k t nt)
              ]
        ]) in
        record {
          rising =
              elim (cases_lt s t) [
                | inl l ↦ l
                | inr g ↦ absurd (both_ways (eqb (node_of us t) v) (found.2 t (omega (arith, g, st))) (eq-eqb (node_of us t) v (t_node ∙ at_v)))
              ];
          below = omega (arith, lt, long);
          arcs = apart;
          same = t_node;
          only = λ k l e.
              let m = turn_meets f (node_of us) N nodes L.in_turns L.rings_close L.one_turn s k ls (omega (arith, l, long)) (sym e) in
              let o = ltb-true 0 (occ k (ring (turn f) N s)) m in
              elim (cases_eq k s) [
                | inl d ↦ inl d
                | inr ns ↦
                    elim (cases_eq k t) [
                      | inl d ↦ inr d
                      | inr nt ↦ absurd (omega (arith, o, ap (occ k) w, one_other k s ns, one_other k t nt))
                    ]
              ];
        }

    to_test : of_two_arcs es ≡ true → test ≡ true
    to_test h =
        let (w, i) = ends_tell h in
        let a = get_or es 0 0 in
        let b = get_or es 1 0 in
        let sa : s ≡ a =
        elim (w.only s found.0 (at_v ∙ sym i)) [
          | inl e ↦ e
          | inr e ↦ absurd (both_ways (eqb (node_of us a) v) (found.2 a (omega (arith, e, w.rising))) (eq-eqb (node_of us a) v i))
        ] in
        let tb : t ≡ b = ap (turn f) sa ∙ to_t us vs nodes polygons z a b 0 0 long L w in
        let back : turn f t ≡ s = ap (turn f) tb ∙ (to_s us vs nodes polygons z a b 0 0 long L w ∙ sym sa) in
        and_from (not (eqb (t / 2) (s / 2))) (eqb (turn f t) s)
        (not_from_false (eqb (t / 2) (s / 2)) (ne_eqb (t / 2) (s / 2) (λ e. w.arcs (ap (λ (k : ℕ). k / 2) (sym tb) ∙ (e ∙ ap (λ (k : ℕ). k / 2) sa))))) (eq-eqb (turn f t) s back)

    pub tested : of_two_arcs es ≡ test
    tested =
        elim (cases_Bool test) [
          | inl h ↦
              let w = of_test h in
              ap of_two_arcs (ends_listed s t w at_v) ∙ (not_from_false (eqb (t / 2) (s / 2)) (ne_eqb (t / 2) (s / 2) w.arcs) ∙ sym h)
          | inr n ↦
              elim (cases_Bool (of_two_arcs es)) [
                | inl h ↦ absurd (both_ways test n (to_test h))
                | inr h ↦ h ∙ sym n
              ]
        ]

    -- then these are the two
    pub are_two : test ≡ true → (get_or es 0 0 ≡ s) × (get_or es 1 0 ≡ t)
    are_two h =
        let e = ends_listed s t (of_test h) at_v in
        (ap (λ (xs : List ℕ). get_or xs 0 0) e, ap (λ (xs : List ℕ). get_or xs 1 0) e)

    pub chosen : (b : Bool) → b ≡ test → then_some {T = ℕ × ℕ} b (s, t) ≡ cond (of_two_arcs es) (Some (get_or es 0 0, get_or es 1 0)) None
    chosen b e =
        elim (cases_Bool test) [
          | inl h ↦
              let (x, y) = are_two h in
              rw (e ∙ h, tested ∙ h) (ap (λ (k : ℕ). Some (k, t)) (sym x) ∙ ap (λ (k : ℕ). Some (get_or es 0 0, k)) (sym y))
          | inr h ↦ rw (e ∙ h, tested ∙ h) refl
        ]

-- the same of a map, as its code goes from side to side
module _ (m : Map) (v : ℕ) (xs : List Side) (s o u : ℕ) (rows : xs ≡ (state_of m).sides) (first : position (λ (r : Side). eqb r.node v) xs ≡ Some s) (near : o ≡ opp s)
    (far : u ≡ opp (next_of xs o)) where
  abbrev sides : List Side
  sides = (state_of m).sides

  abbrev half : ℕ
  half = length sides / 2 - 1

  found_first : position (λ (r : Side). eqb r.node v) sides ≡ Some s
  found_first = ap (position (λ (r : Side). eqb r.node v)) (sym rows) ∙ first

  two_more : length sides ≡ suc (suc (half + half))
  two_more = omega (arith, (lawful_of m).paired, (position-Some (λ (r : Side). eqb r.node v) sides s no_side found_first).0)

  law : Lawful sides (state_of m).vertices (suc (suc (half + half))) m.nodes m.polygons
  law = lawful_at {us = sides} {vs = (state_of m).vertices} m.nodes m.polygons refl refl two_more (lawful_of m)

  goes_is : next_of xs o ≡ turn (next_of sides) s
  goes_is = ap (λ (ys : List Side). next_of ys o) rows ∙ ap (next_of sides) near

  far_is : u ≡ opp (turn (next_of sides) s)
  far_is = far ∙ ap opp goes_is

  pub turns_in : u < length xs
  turns_in =
      let l = opp_low (suc (suc (half + half))) (turn (next_of sides) s) law.paired (lt sides v (state_of m).vertices m.nodes m.polygons half s two_more law found_first) in
      omega (arith, far_is, l, two_more, ap length rows)

  pub turned_chosen : (b : Bool) → b ≡ (not (eqb (next_of xs o / 2) (s / 2)) && eqb (next_of xs u) s) →
      then_some {T = ℕ × ℕ} b (s, next_of xs o) ≡ cond (of_two_arcs (ends sides v)) (Some (get_or (ends sides v) 0 0, get_or (ends sides v) 1 0)) None
  turned_chosen b e =
      let back : next_of xs u ≡ turn (next_of sides) (turn (next_of sides) s) = ap (λ (ys : List Side). next_of ys u) rows ∙ ap (next_of sides) far_is in
      ap (λ (t : ℕ). then_some {T = ℕ × ℕ} b (s, t)) goes_is
      ∙ chosen sides v (state_of m).vertices m.nodes m.polygons half s two_more law found_first b
      (e ∙ (ap (λ (t : ℕ). not (eqb (t / 2) (s / 2)) && eqb (next_of xs u) s) goes_is ∙ ap (λ (w : ℕ). not (eqb (turn (next_of sides) s / 2) (s / 2)) && eqb w s) back))
