-- The two rings of an arc's sides become one, ring by ring.
use Rattle.std.proofs.Common.{◌≡◌, ℕ, zero, suc, ◌+◌, ◌/◌, ◌%◌, ◌<◌, ◌≤◌, Bool, true, false, cond, not, ◌||◌, eqb, ltb, ◌⊎◌, List, map, length, get_or, set, sym, refl, ap, ◌∙◌, subst, inl, inr, min, arith}
use Rattle.std.specs.List.{range_with_len}
use Rattle.std.proofs.lemmas.Bool.{cases_eq, cases_lt, cases_Bool, eq-eqb, ne_eqb, eqb-true, and_parts, and_from, or_cases, or_left, or_right, not_from_true, not_from_false, cond-true, cond-false, lt-ltb, ltb-true, both_ways}
use Rattle.std.proofs.lemmas.List.{get_or-map, get_or-set_same, get_or-set_other, length-set, length-map, same_lists, get_or_default}
use Rattle.rings.specs.Circles.{occ, walk, ring, rings, meets}
use Rattle.rings.proofs.Occurs.{one_same, one_other, one_most}
use Rattle.rings.proofs.Ringed.{ringed_circles}
use Rattle.rings.proofs.Closed.{one_image}
use Rattle.rings.proofs.LowMeets.{low_told, low_same}
use Rattle.rings.proofs.SameLow.{meets_low}
use Rattle.rings.proofs.Division.{same_ring}
use Rattle.rings.proofs.TwoRings.{ring_most}
use Rattle.topology.specs.declared.side.Side.{Side}
use Rattle.topology.specs.declared.merging.Merging.{Merging}
use Rattle.topology.specs.Rows.{no_side, next_of, low_of}
use Rattle.topology.specs.MapLaw.{InRings, LowAlong, LowBelow, LowNames}
use Rattle.topology.specs.Splits.{leading}
use Rattle.topology.specs.Merged.{led_on, merges, merged}
use Rattle.topology.specs.Divisions.{lowest_of, told_side, told_at}
use Rattle.topology.specs.Dissolves.{share_ring, in_either, first_from, lowest_other, merging, alone_at, freed, MergedBeside}
use Rattle.topology.proofs.FreedLaw.{first_found}
use Rattle.topology.proofs.RingTold.{rows_long, row_told, else_told, lowest_first, lowest_other as at_most, lowest_there}

-- the first that passes a test, or the end
first_or_end : (P : ℕ → Bool) (k n : ℕ) → (first_from P k n ≡ k + n) ⊎ ((P (first_from P k n) ≡ true) × (first_from P k n < k + n))
first_or_end P k zero = inl (omega arith)
first_or_end P k (suc n) =
    elim (cases_Bool (P k)) [
      | inl e ↦ let w = cond-true (P k) k (first_from P (k + 1) n) e in inr (ap P w ∙ e, omega (arith, w))
      | inr e ↦
          let w = cond-false (P k) k (first_from P (k + 1) n) e in
          elim (first_or_end P (k + 1) n) [
            | inl i ↦ inl (omega (arith, w, i))
            | inr i ↦ let l = i.1 in inr (ap P w ∙ i.0, omega (arith, w, l))
          ]
    ]

-- ---- the lowest side left

module _ (us : List Side) (ringed : InRings us (length us)) (along : LowAlong us (length us)) (named : LowNames us (length us)) where
  abbrev f : ℕ → ℕ
  f = next_of us

  abbrev low : ℕ → ℕ
  low = low_of us

  abbrev N : ℕ
  N = length us

  told : (k : ℕ) → k < N → (low k < N) × (low (low k) ≡ low k)
  told = low_told f low N ringed along named

  -- x is the lowest of the ring of t but t, or the end
  record Lowest (t u x : ℕ) : Type 0 where
    pub there : x < N → (x ≡ t → ⊥) × (x ≡ u → ⊥) × (low x ≡ low t)
    pub least : (k : ℕ) → k < N → (k ≡ t → ⊥) → low k ≡ low t → x ≤ k
    pub most : x ≤ N

  lowest_is : LowBelow us N → (t u : ℕ) → t < N → (low t ≡ low u → ⊥) → Lowest t u (lowest_other us t)
  lowest_is below t u lt apart =
      elim (cases_eq (low t) t) [
        | inl e ↦
            let ws = walk f N t t in
            let x = lowest_of N ws in
            let i = cond-true (eqb (low t) t) x (low t) (eq-eqb (low t) t e) in
            let once = ring_most f N t ringed lt t in
            let none : occ t ws ≡ 0 = omega (arith, once, one_same t, one_most (ltb t N)) in
            let in_ring : (k : ℕ) → 0 < occ k ws → k < N → low k ≡ low t =
            λ k h lk. same_ring f low N (rings f N) (ringed_circles f N ringed) along t k lt lk (λ _. lt-ltb 0 (occ k (ring f N t)) (omega (arith, h))) in
            let here : x < N → 0 < occ x ws = λ l. omega (arith, lowest_there N ws, one_other x N (λ j. omega (arith, l, j))) in
            subst (Lowest t u) (sym i)
            (record {
              there = λ l.
                  let d = in_ring x (here l) l in
                  (λ j. omega (arith, none, ap (λ (y : ℕ). occ y ws) j, here l), λ j. apart (sym d ∙ ap low j), d);
              least = λ k lk nk d.
                  let m = ltb-true 0 (occ k (ring f N t)) (low_same f low N ringed along named t k lt lk (sym d)) in
                  at_most N k ws (omega (arith, m, one_other k t nk));
              most = lowest_first N ws;
            })
        | inr ne ↦
            let i = cond-false (eqb (low t) t) (lowest_of N (walk f N t t)) (low t) (ne_eqb (low t) t ne) in
            let (l, d) = told t lt in
            subst (Lowest t u) (sym i)
            (record {
              there = λ _. (ne, λ j. apart (sym d ∙ ap low j), d);
              least = λ k lk _ e. omega (arith, below k lk, e);
              most = omega (arith, l);
            })
      ]

  module _ (below : LowBelow us N) (a : ℕ) (here : a + a + 1 < N) (apart : share_ring us a ≡ false) where
    abbrev s : ℕ
    s = a + a

    abbrev o : ℕ
    o = a + a + 1

    abbrev P : ℕ → Bool
    P = in_either us a

    two_rings : low s ≡ low o → ⊥
    two_rings e = both_ways (meets f N s o) apart (low_same f low N ringed along named s o (omega (arith, here)) here e)

    of_s : Lowest s o (lowest_other us s)
    of_s = lowest_is below s o (omega (arith, here)) two_rings

    of_o : Lowest o s (lowest_other us o)
    of_o = lowest_is below o s here (λ e. two_rings (sym e))

    abbrev A : ℕ
    A = lowest_other us s

    abbrev B : ℕ
    B = lowest_other us o

    passes : (k : ℕ) → (k ≡ s → ⊥) → (k ≡ o → ⊥) → (low k ≡ low s) ⊎ (low k ≡ low o) → P k ≡ true
    passes k ns no' e =
        and_from (not (eqb (k / 2) a)) (eqb (low k) (low s) || eqb (low k) (low o))
        (not_from_false (eqb (k / 2) a) (ne_eqb (k / 2) a (λ i. elim (cases_eq (k % 2) 0) [ inl j ↦ ns (omega arith) | inr j ↦ no' (omega arith) ])))
        (elim e [
          | inl i ↦ or_left (eqb (low k) (low s)) (eqb (low k) (low o)) (eq-eqb (low k) (low s) i)
          | inr i ↦ or_right (eqb (low k) (low s)) (eqb (low k) (low o)) (eq-eqb (low k) (low o) i)
        ])

    least : (k : ℕ) → k < N → P k ≡ true → min A B ≤ k
    least k l h =
        let (x, y) = and_parts (not (eqb (k / 2) a)) (eqb (low k) (low s) || eqb (low k) (low o)) h in
        let apart' : k / 2 ≡ a → ⊥ = λ e. both_ways (not (eqb (k / 2) a)) (not_from_true (eqb (k / 2) a) (eq-eqb (k / 2) a e)) x in
        elim (or_cases (eqb (low k) (low s)) (eqb (low k) (low o)) y) [
          | inl e ↦ let w = of_s.least k l (λ i. apart' (omega (arith, i))) (eqb-true (low k) (low s) e) in omega arith
          | inr e ↦ let w = of_o.least k l (λ i. apart' (omega (arith, i))) (eqb-true (low k) (low o) e) in omega arith
        ]

    there : min A B < N → P (min A B) ≡ true
    there l =
        elim (cases_lt A (B + 1)) [
          | inl h ↦
              let e : min A B ≡ A = omega arith in
              let (x, y, z) = of_s.there (omega arith) in
              ap P e ∙ passes A x y (inl z)
          | inr h ↦
              let e : min A B ≡ B = omega arith in
              let (x, y, z) = of_o.there (omega arith) in
              ap P e ∙ passes B y x (inr z)
        ]

    pub left_is : min A B ≡ first_from P 0 N
    left_is =
        let F = first_from P 0 N in
        elim (cases_lt (min A B) N) [
          | inl l ↦
              let (x, y) = first_found P 0 N (min A B) (omega arith) (omega arith) (there l) in
              let w = least F (omega (arith, l, y)) x in
              omega arith
          | inr g ↦
              let m : min A B ≡ N = omega (arith, of_s.most, g) in
              elim (first_or_end P 0 N) [
                | inl e ↦ omega (arith, m, e)
                | inr e ↦ let l = e.1 in let w = least F (omega (arith, l)) e.0 in absurd (omega (arith, w, m, l))
              ]
        ]

  -- ---- the rows but those of the arc

  module _ (a p q : ℕ) (c : Merging) (here : a + a + 1 < N) (those : c ≡ merging us a) (lp : p < N) (lq : q < N) (to_s : f p ≡ a + a) (to_o : f q ≡ a + a + 1) where
    abbrev R₁ : List Side
    R₁ = map (told_at us (a + a) c.polygon c.low) (range_with_len 0 N)

    abbrev R₂ : List Side
    R₂ = map (told_at R₁ (a + a + 1) c.polygon c.low) (range_with_len 0 (length R₁))

    pub long₁ : length R₁ ≡ N
    long₁ = rows_long us (a + a) c.polygon c.low

    long₂ : length R₂ ≡ N
    long₂ = rows_long R₁ (a + a + 1) c.polygon c.low ∙ long₁

    pub next₁ : next_of R₁ ≡ f
    next₁ = else_told us (a + a) c.polygon c.low (λ r. r.next) (λ r. refl)

    abbrev M : Side
    M = leading c.past_unturned (get_or R₂ p no_side)

    abbrev R₃ : List Side
    R₃ = set R₂ p M

    abbrev Q : Side
    Q = leading c.past_turned (get_or R₃ q no_side)

    abbrev R₄ : List Side
    R₄ = set R₃ q Q

    long₃ : length R₃ ≡ N
    long₃ = length-set R₂ p M ∙ long₂

    pub long₄ : length R₄ ≡ N
    long₄ = length-set R₃ q Q ∙ long₃

    meets_is : (t k : ℕ) → t < N → k < N → meets f N t k ≡ eqb (low k) (low t)
    meets_is t k lt lk =
        meets_low f low N ringed along named t k lt lk ∙
        elim (cases_eq (low t) (low k)) [
          | inl e ↦ eq-eqb (low t) (low k) e ∙ sym (eq-eqb (low k) (low t) (sym e))
          | inr ne ↦ ne_eqb (low t) (low k) ne ∙ sym (ne_eqb (low k) (low t) (λ e. ne (sym e)))
        ]

    -- both rings are told
    told_twice : (b d : Bool) (r : Side) →
        cond d (told_side c.polygon c.low (cond b (told_side c.polygon c.low r) r)) (cond b (told_side c.polygon c.low r) r) ≡ cond (b || d) (told_side c.polygon c.low r) r
    told_twice true true r = refl
    told_twice true false r = refl
    told_twice false true r = refl
    told_twice false false r = refl

    row₂ : (k : ℕ) → k < N → get_or R₂ k no_side ≡ cond (merges c (low k)) (told_side c.polygon c.low (get_or us k no_side)) (get_or us k no_side)
    row₂ k l =
        let r = get_or us k no_side in
        let x : meets (next_of R₁) (length R₁) (a + a + 1) k ≡ eqb (low k) (low (a + a + 1)) =
        ap (λ (g : ℕ → ℕ). meets g (length R₁) (a + a + 1) k) next₁ ∙ (ap (λ (n : ℕ). meets f n (a + a + 1) k) long₁ ∙ meets_is (a + a + 1) k here l) in
        let y = meets_is (a + a) k (omega (arith, here)) l in
        let m : merges c (low k) ≡ (eqb (low k) (low (a + a)) || eqb (low k) (low (a + a + 1))) = ap (λ (d : Merging). merges d (low k)) those in
        row_told R₁ (a + a + 1) c.polygon c.low k (omega (arith, l, long₁))
        ∙ (ap (λ (b : Bool). cond b (told_side c.polygon c.low (get_or R₁ k no_side)) (get_or R₁ k no_side)) x
        ∙ (ap (λ (z : Side). cond (eqb (low k) (low (a + a + 1))) (told_side c.polygon c.low z) z)
        (row_told us (a + a) c.polygon c.low k l ∙ ap (λ (b : Bool). cond b (told_side c.polygon c.low r) r) y)
        ∙ (told_twice (eqb (low k) (low (a + a))) (eqb (low k) (low (a + a + 1))) r ∙ ap (λ (b : Bool). cond b (told_side c.polygon c.low r) r) (sym m))))

    -- a row that leads on as the merging says is merged
    as_merged : (b : Bool) (next : ℕ) (r : Side) → b ≡ merges c r.low → next ≡ led_on c r.next → leading next (cond b (told_side c.polygon c.low r) r) ≡ merged c r
    as_merged true next r e i = rw (sym e, sym i) refl
    as_merged false next r e i = rw (sym e, sym i) refl

    side_is_s : c.side ≡ a + a
    side_is_s = ap (λ (d : Merging). d.side) those

    led_s : (x : ℕ) → x ≡ a + a → c.past_unturned ≡ led_on c x
    led_s x e = sym (cond-true (eqb x c.side) c.past_unturned (cond (eqb x (c.side + 1)) c.past_turned x) (eq-eqb x c.side (e ∙ sym side_is_s)))

    led_o : (x : ℕ) → x ≡ a + a + 1 → c.past_turned ≡ led_on c x
    led_o x e =
        sym
        (cond-false (eqb x c.side) c.past_unturned (cond (eqb x (c.side + 1)) c.past_turned x) (ne_eqb x c.side (λ i. omega (arith, e, i, side_is_s)))
        ∙ cond-true (eqb x (c.side + 1)) c.past_turned x (eq-eqb x (c.side + 1) (omega (arith, e, side_is_s))))

    led_else : (x : ℕ) → (x ≡ a + a → ⊥) → (x ≡ a + a + 1 → ⊥) → x ≡ led_on c x
    led_else x n m =
        sym
        (cond-false (eqb x c.side) c.past_unturned (cond (eqb x (c.side + 1)) c.past_turned x) (ne_eqb x c.side (λ i. n (i ∙ side_is_s)))
        ∙ cond-false (eqb x (c.side + 1)) c.past_turned x (ne_eqb x (c.side + 1) (λ i. m (i ∙ omega (arith, side_is_s)))))

    only : (t k : ℕ) → t < N → k < N → f k ≡ f t → k ≡ t
    only t k lt lk e = one_image f N (rings f N) (ringed_circles f N ringed) k t lk lt e

    pq : p ≡ q → ⊥
    pq e = omega (arith, sym to_s ∙ (ap f e ∙ to_o))

    self : (r : Side) → leading r.next r ≡ r
    self r = refl

    told_next : (b : Bool) (r : Side) → (cond b (told_side c.polygon c.low r) r).next ≡ r.next
    told_next true r = refl
    told_next false r = refl

    pub row₄ : (k : ℕ) → k < N → get_or R₄ k no_side ≡ merged c (get_or us k no_side)
    row₄ k l =
        let r = get_or us k no_side in
        let b = merges c (low k) in
        elim (cases_eq k q) [
          | inl e ↦
              ap (λ (j : ℕ). get_or R₄ j no_side) e
              ∙ (get_or-set_same R₃ q Q no_side (omega (arith, long₃, lq))
              ∙ (ap (leading c.past_turned) (get_or-set_other R₂ p q M no_side (λ i. pq (sym i)) ∙ row₂ q lq)
              ∙ (as_merged (merges c (low q)) c.past_turned (get_or us q no_side) refl (led_o (f q) to_o) ∙ ap (λ (j : ℕ). merged c (get_or us j no_side)) (sym e))))
          | inr nq ↦
              get_or-set_other R₃ q k Q no_side nq ∙
              elim (cases_eq k p) [
                | inl e ↦
                    ap (λ (j : ℕ). get_or R₃ j no_side) e
                    ∙ (get_or-set_same R₂ p M no_side (omega (arith, long₂, lp))
                    ∙ (ap (leading c.past_unturned) (row₂ p lp)
                    ∙ (as_merged (merges c (low p)) c.past_unturned (get_or us p no_side) refl (led_s (f p) to_s) ∙ ap (λ (j : ℕ). merged c (get_or us j no_side)) (sym e))))
                | inr np ↦
                    get_or-set_other R₂ p k M no_side np
                    ∙ (row₂ k l
                    ∙ (ap (λ (x : ℕ). leading x (cond b (told_side c.polygon c.low r) r)) (told_next b r)
                    ∙ as_merged b (f k) r refl (led_else (f k) (λ i. np (only p k lp l (i ∙ sym to_s))) (λ i. nq (only q k lq l (i ∙ sym to_o))))))
              ]
        ]

    pub beside : (R : List Side) → R ≡ R₂ →
        MergedBeside us (set (set R p (leading c.past_unturned (get_or R p no_side))) q (leading c.past_turned (get_or (set R p (leading c.past_unturned (get_or R p no_side))) q no_side))) a c
    beside R e =
        subst
        (λ (S : List Side). MergedBeside us (set (set S p (leading c.past_unturned (get_or S p no_side))) q (leading c.past_turned (get_or (set S p (leading c.past_unturned (get_or S p no_side))) q no_side))) a c)
        (sym e) (record { long = long₄; rows = λ k l _. row₄ k l })

-- with the rows of the arc, the arc is free
pub freed_from : (us R : List Side) (node a : ℕ) (c : Merging) (X Y : Side) → a + a + 1 < length us → MergedBeside us R a c → c ≡ merging us a → X ≡ alone_at node (a + a) (get_or us (a + a) no_side) →
    Y ≡ alone_at node (a + a + 1) (get_or us (a + a + 1) no_side) → set (set R (a + a) X) (a + a + 1) Y ≡ freed us node a
freed_from us R node a c X Y here m those x y =
    let T = map (merged (merging us a)) us in
    let lt = length-map us (merged (merging us a)) in
    let la = length-set (set R (a + a) X) (a + a + 1) Y ∙ length-set R (a + a) X in
    let lb = length-set (set T (a + a) X) (a + a + 1) Y ∙ length-set T (a + a) X in
    let l = m.long in
    same_lists _ _ (omega (arith, la, lb, lt, l))
    (λ k v h.
    let b : k < length us = omega (arith, h, la, l) in
    elim (cases_eq k (a + a + 1)) [
      | inl e ↦
          ap (λ (j : ℕ). get_or (set (set R (a + a) X) (a + a + 1) Y) j v) e
          ∙ (get_or-set_same (set R (a + a) X) (a + a + 1) Y v (omega (arith, here, l, length-set R (a + a) X))
          ∙ sym (ap (λ (j : ℕ). get_or (set (set T (a + a) X) (a + a + 1) Y) j v) e ∙ get_or-set_same (set T (a + a) X) (a + a + 1) Y v (omega (arith, here, lt, length-set T (a + a) X))))
      | inr no' ↦
          get_or-set_other (set R (a + a) X) (a + a + 1) k Y v no' ∙
          (elim (cases_eq k (a + a)) [
            | inl e ↦
                ap (λ (j : ℕ). get_or (set R (a + a) X) j v) e
                ∙ (get_or-set_same R (a + a) X v (omega (arith, here, l))
                ∙ sym (ap (λ (j : ℕ). get_or (set T (a + a) X) j v) e ∙ get_or-set_same T (a + a) X v (omega (arith, here, lt))))
            | inr ns ↦
                get_or-set_other R (a + a) k X v ns
                ∙ (get_or_default R k v no_side (omega (arith, b, l))
                ∙ (m.rows k b (λ i. elim (cases_eq (k % 2) 0) [ inl j ↦ ns (omega arith) | inr j ↦ no' (omega arith) ])
                ∙ (ap (λ (d : Merging). merged d (get_or us k no_side)) those
                ∙ (sym (get_or-map (merged (merging us a)) us k no_side v b) ∙ sym (get_or-set_other T (a + a) k X v ns)))))
          ]
          ∙ sym (get_or-set_other (set T (a + a) X) (a + a + 1) k Y v no'))
    ])
    ∙ (ap (λ (r : Side). set (set T (a + a) r) (a + a + 1) Y) x ∙ ap (λ (r : Side). set (set T (a + a) (alone_at node (a + a) (get_or us (a + a) no_side))) (a + a + 1) r) y)
