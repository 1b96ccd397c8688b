-- The rows of sides as the code of a join sets them.
use Rattle.std.proofs.Common.{◌≡◌, ℕ, ◌/◌, ◌%◌, ◌<◌, eqb, cond, List, length, get_or, set, sym, refl, ap, ◌∙◌, inl, inr, arith}
use Rattle.std.proofs.lemmas.Bool.{cases_eq, cond-true, cond-false, eq-eqb, ne_eqb}
use Rattle.std.proofs.lemmas.List.{get_or-set_same, get_or-set_other, length-set, same_lists, get_or_default}
use Rattle.std.proofs.lemmas.List.FromFn.{length-map-range_with_len, get_or-map-range_with_len}
use Rattle.rings.specs.Circles.{rings}
use Rattle.rings.specs.Law.{opp, turn, Ringed}
use Rattle.rings.specs.Edits.{swapped, leave}
use Rattle.rings.proofs.Ringed.{ringed_circles}
use Rattle.rings.proofs.Closed.{one_image}
use Rattle.rings.proofs.Exchange.{swapped_first, swapped_second, swapped_else}
use Rattle.rings.proofs.SideOut.{leave_past, leave_else}
use Rattle.rings.proofs.TakesOver.{over_t, over_u, over_o, over_else}
use Rattle.topology.specs.declared.side.Side.{Side}
use Rattle.topology.specs.Rows.{no_side, next_of, node_of, polygon_of, row_of, low_of}
use Rattle.topology.specs.Splits.{leading}
use Rattle.topology.specs.Joins.{joined_at, joined_sides}

pub side_is : (r q : Side) → r.node ≡ q.node → r.row ≡ q.row → r.polygon ≡ q.polygon → r.next ≡ q.next → r.low ≡ q.low → r ≡ q
side_is r q a b c d e =
    ap (λ (x : ℕ). record { node = x; row = r.row; polygon = r.polygon; next = r.next; low = r.low }) a
    ∙ (ap (λ (x : ℕ). record { node = q.node; row = x; polygon = r.polygon; next = r.next; low = r.low }) b
    ∙ (ap (λ (x : ℕ). record { node = q.node; row = q.row; polygon = x; next = r.next; low = r.low }) c
    ∙ (ap (λ (x : ℕ). record { node = q.node; row = q.row; polygon = q.polygon; next = x; low = r.low }) d
    ∙ ap (λ (x : ℕ). record { node = q.node; row = q.row; polygon = q.polygon; next = q.next; low = x }) e)))

module _ (xs : List Side) (n s t o u p first last from to : ℕ) (long : length xs ≡ n) (even : n % 2 ≡ 0) (ringed : Ringed (next_of xs) n) (turned : Ringed (turn (next_of xs)) n) (lt : t < n)
    (arcs : s / 2 < t / 2) (near : o ≡ opp s) (far : u ≡ opp t) (to_t : next_of xs (opp s) ≡ t) (to_s : next_of xs (opp t) ≡ s) (one_node : node_of xs s ≡ node_of xs t) (lp : p < n)
    (leads : next_of xs p ≡ u) (begins_o : from ≡ cond (eqb (o % 2) 0) first last) (begins_s : to ≡ cond (eqb (s % 2) 0) first last) where
  abbrev f : ℕ → ℕ
  f = next_of xs

  abbrev row : ℕ → Side
  row k = get_or xs k no_side

  abbrev x₁ : List Side
  x₁ = set xs p (leading s (row p))

  abbrev near_row : Side
  near_row = record {
    node = (get_or x₁ o no_side).node;
    row = from;
    polygon = (get_or x₁ o no_side).polygon;
    next = (get_or x₁ t no_side).next;
    low = (get_or x₁ o no_side).low;
  }

  abbrev x₂ : List Side
  x₂ = set x₁ o near_row

  abbrev stays_row : Side
  stays_row = record {
    node = (row u).node;
    row = to;
    polygon = (get_or x₂ s no_side).polygon;
    next = (get_or x₂ s no_side).next;
    low = (get_or x₂ s no_side).low;
  }

  abbrev x₃ : List Side
  x₃ = set x₂ s stays_row

  abbrev goes_row : Side
  goes_row = record { node = (row t).node; row = (row t).row; polygon = (row t).polygon; next = t; low = t }

  abbrev x₄ : List Side
  x₄ = set x₃ t goes_row

  abbrev far_row : Side
  far_row = record { node = (row t).node; row = (row u).row; polygon = (row t).polygon; next = u; low = u }

  abbrev x₅ : List Side
  x₅ = set x₄ u far_row

  ls : s < n
  ls = omega (arith, arcs, lt)

  lo : o < n
  lo = omega (arith, near, ls, even)

  lu : u < n
  lu = omega (arith, far, lt, even)

  ts : t ≡ s → ⊥
  ts e = omega (arith, arcs, e)

  topp : t ≡ opp s → ⊥
  topp e = omega (arith, arcs, e)

  os : o ≡ s → ⊥
  os e = omega (arith, near, e)

  ot : o ≡ t → ⊥
  ot e = omega (arith, near, arcs, e)

  ou : o ≡ u → ⊥
  ou e = omega (arith, near, far, arcs, e)

  us : u ≡ s → ⊥
  us e = omega (arith, far, arcs, e)

  ut : u ≡ t → ⊥
  ut e = omega (arith, far, e)

  o_t : f o ≡ t
  o_t = ap f near ∙ to_t

  u_s : f u ≡ s
  u_s = ap f far ∙ to_s

  only : (k : ℕ) → k < n → f k ≡ u → k ≡ p
  only k l e = one_image f n (rings f n) (ringed_circles f n ringed) k p l lp (e ∙ sym leads)

  po : p ≡ o → ⊥
  po e = ut (sym leads ∙ (ap f e ∙ o_t))

  l₁ : length x₁ ≡ n
  l₁ = length-set xs p (leading s (row p)) ∙ long

  l₂ : length x₂ ≡ n
  l₂ = length-set x₁ o near_row ∙ l₁

  l₃ : length x₃ ≡ n
  l₃ = length-set x₂ s stays_row ∙ l₂

  l₄ : length x₄ ≡ n
  l₄ = length-set x₃ t goes_row ∙ l₃

  pub l₅ : length x₅ ≡ n
  l₅ = length-set x₄ u far_row ∙ l₄

  -- ---- where each row leads once what led to the far end leads to s

  at₁ : (k : ℕ) → k < n → (k ≡ u → ⊥) → get_or x₁ k no_side ≡ leading (leave f u k) (row k)
  at₁ k l nu =
      elim (cases_eq k p) [
        | inl e ↦
            ap (λ (j : ℕ). get_or x₁ j no_side) e
            ∙ (get_or-set_same xs p (leading s (row p)) no_side (omega (arith, long))
            ∙ sym (ap (λ (j : ℕ). leading (leave f u j) (row j)) e ∙ ap (λ (j : ℕ). leading j (row p)) (leave_past f u p (λ i. nu (e ∙ i)) leads ∙ u_s)))
        | inr ne ↦
            get_or-set_other xs p k (leading s (row p)) no_side ne
            ∙ ap (λ (j : ℕ). leading j (row k)) (sym (leave_else f u k nu (λ i. ne (only k l i))))
      ]

  abbrev h : ℕ → ℕ
  h = leave (leave f (opp t)) t

  abbrev now : ℕ → Side
  now k = joined_at xs s t first last k

  other : (k : ℕ) → (k ≡ t → ⊥) → (k ≡ u → ⊥) → k / 2 ≡ t / 2 → ⊥
  other k nt nu e = omega (arith, e, far, nt, nu)

  not_arc : (F G : ℕ) (k : ℕ) → (k / 2 ≡ t / 2 → ⊥) → cond (eqb (k / 2) (t / 2)) F G ≡ G
  not_arc F G k ne = cond-false (eqb (k / 2) (t / 2)) F G (ne_eqb (k / 2) (t / 2) ne)

  of_arc : (F G : ℕ) (k : ℕ) → k / 2 ≡ t / 2 → cond (eqb (k / 2) (t / 2)) F G ≡ F
  of_arc F G k e = cond-true (eqb (k / 2) (t / 2)) F G (eq-eqb (k / 2) (t / 2) e)

  own_row : (k x : ℕ) → k / 2 ≡ s / 2 → x ≡ cond (eqb (k % 2) 0) first last → x ≡ (now k).row
  own_row k x e i = i ∙ sym (cond-true (eqb (k / 2) (s / 2)) (cond (eqb (k % 2) 0) first last) (row_of xs k) (eq-eqb (k / 2) (s / 2) e))

  old_row : (k : ℕ) → (k / 2 ≡ s / 2 → ⊥) → row_of xs k ≡ (now k).row
  old_row k ne = sym (cond-false (eqb (k / 2) (s / 2)) (cond (eqb (k % 2) 0) first last) (row_of xs k) (ne_eqb (k / 2) (s / 2) ne))

  swap_u : swapped s (opp t) u ≡ s
  swap_u = ap (swapped s (opp t)) far ∙ swapped_second s (opp t)

  swap_else : (k : ℕ) → (k ≡ s → ⊥) → (k ≡ u → ⊥) → swapped s (opp t) k ≡ k
  swap_else k ns nu = swapped_else s (opp t) k ns (λ e. nu (e ∙ sym far))

  opp_t_leave : (k : ℕ) → leave f (opp t) k ≡ leave f u k
  opp_t_leave k = ap (λ (j : ℕ). leave f j k) (sym far)

  h_else : (k : ℕ) → k < n → (k ≡ t → ⊥) → (k ≡ u → ⊥) → (k ≡ o → ⊥) → h k ≡ leave f u k
  h_else k l nt nu no-o =
      over_else f h n s t even ringed turned ls lt ts topp to_t to_s (λ j _. refl) k l nt (λ e. nu (e ∙ sym far)) (λ e. no-o (e ∙ sym near)) ∙ opp_t_leave k

  row_u : far_row ≡ now u
  row_u =
      side_is far_row (now u) (sym one_node ∙ ap (node_of xs) (sym swap_u)) (old_row u (λ e. omega (arith, e, far, arcs))) (sym (of_arc (polygon_of xs t) (polygon_of xs u) u (omega (arith, far))))
      (far ∙ sym (ap h far ∙ over_u f h n s t even ringed turned ls lt ts topp to_t to_s (λ j _. refl))) (sym (of_arc u (low_of xs u) u (omega (arith, far))))

  row_t : goes_row ≡ now t
  row_t =
      side_is goes_row (now t) (ap (node_of xs) (sym (swap_else t ts (λ e. ut (sym e))))) (old_row t (λ e. omega (arith, e, arcs))) (sym (of_arc (polygon_of xs t) (polygon_of xs t) t refl))
      (sym (over_t f h n s t even ringed turned ls lt ts topp to_t to_s (λ j _. refl))) (sym (of_arc t (low_of xs t) t refl))

  st : s ≡ t → ⊥
  st e = ts (sym e)

  su : s ≡ u → ⊥
  su e = us (sym e)

  row_s : stays_row ≡ now s
  row_s =
      let w = get_or-set_other x₁ o s near_row no_side (λ e. os (sym e)) ∙ at₁ s ls su in
      let no-t : s / 2 ≡ t / 2 → ⊥ = λ e. omega (arith, e, arcs) in
      side_is stays_row (now s) (ap (node_of xs) (far ∙ sym (swapped_first s (opp t)))) (own_row s to refl begins_s)
      (ap (λ (r : Side). r.polygon) w ∙ sym (not_arc (polygon_of xs t) (polygon_of xs s) s no-t))
      (ap (λ (r : Side). r.next) w ∙ sym (h_else s ls st su (λ e. os (sym e)))) (ap (λ (r : Side). r.low) w ∙ sym (not_arc s (low_of xs s) s no-t))

  row_o : near_row ≡ now o
  row_o =
      let w = at₁ o lo ou in
      let x = at₁ t lt (λ e. ut (sym e)) in
      let no-t : o / 2 ≡ t / 2 → ⊥ = other o ot ou in
      side_is near_row (now o) (ap (λ (r : Side). r.node) w ∙ ap (node_of xs) (sym (swap_else o os ou))) (own_row o from (omega (arith, near)) begins_o)
      (ap (λ (r : Side). r.polygon) w ∙ sym (not_arc (polygon_of xs t) (polygon_of xs o) o no-t))
      (ap (λ (r : Side). r.next) x ∙ sym (ap h near ∙ (over_o f h n s t even ringed turned ls lt ts topp to_t to_s (λ j _. refl) ∙ opp_t_leave t)))
      (ap (λ (r : Side). r.low) w ∙ sym (not_arc o (low_of xs o) o no-t))

  row_else : (k : ℕ) → k < n → (k ≡ u → ⊥) → (k ≡ t → ⊥) → (k ≡ s → ⊥) → (k ≡ o → ⊥) → get_or x₁ k no_side ≡ now k
  row_else k l nu nt ns no-o =
      let w = at₁ k l nu in
      let no-t = other k nt nu in
      let no-s : k / 2 ≡ s / 2 → ⊥ = λ e. omega (arith, e, near, ns, no-o) in
      w
      ∙ side_is (leading (leave f u k) (row k)) (now k) (ap (node_of xs) (sym (swap_else k ns nu))) (old_row k no-s) (sym (not_arc (polygon_of xs t) (polygon_of xs k) k no-t))
      (sym (h_else k l nt nu no-o)) (sym (not_arc k (low_of xs k) k no-t))

  at₅ : (k : ℕ) → k < n → get_or x₅ k no_side ≡ now k
  at₅ k l =
      elim (cases_eq k u) [
        | inl e ↦ ap (λ (j : ℕ). get_or x₅ j no_side) e ∙ (get_or-set_same x₄ u far_row no_side (omega (arith, l₄, lu)) ∙ (row_u ∙ ap now (sym e)))
        | inr nu ↦
            get_or-set_other x₄ u k far_row no_side nu ∙
            elim (cases_eq k t) [
              | inl e ↦ ap (λ (j : ℕ). get_or x₄ j no_side) e ∙ (get_or-set_same x₃ t goes_row no_side (omega (arith, l₃, lt)) ∙ (row_t ∙ ap now (sym e)))
              | inr nt ↦
                  get_or-set_other x₃ t k goes_row no_side nt ∙
                  elim (cases_eq k s) [
                    | inl e ↦ ap (λ (j : ℕ). get_or x₃ j no_side) e ∙ (get_or-set_same x₂ s stays_row no_side (omega (arith, l₂, ls)) ∙ (row_s ∙ ap now (sym e)))
                    | inr ns ↦
                        get_or-set_other x₂ s k stays_row no_side ns ∙
                        elim (cases_eq k o) [
                          | inl e ↦ ap (λ (j : ℕ). get_or x₂ j no_side) e ∙ (get_or-set_same x₁ o near_row no_side (omega (arith, l₁, lo)) ∙ (row_o ∙ ap now (sym e)))
                          | inr no-o ↦ get_or-set_other x₁ o k near_row no_side no-o ∙ row_else k l nu nt ns no-o
                        ]
                  ]
            ]
      ]

  pub rows_on : x₅ ≡ joined_sides xs s t first last
  rows_on =
      let e = length-map-range_with_len now 0 (length xs) in
      same_lists _ _ (omega (arith, l₅, e, long))
      (λ k v l.
      let b : k < n = omega (arith, l, l₅) in
      get_or_default x₅ k v no_side l
      ∙ (at₅ k b ∙ (sym (get_or-map-range_with_len now 0 (length xs) k k no_side (omega (arith, b, long)) (omega arith)) ∙ get_or_default (joined_sides xs s t first last) k no_side v (omega (arith, b, e, long)))))
