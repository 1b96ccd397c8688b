-- The vertices of an arc along its sides, and those through two arcs.
use Rattle.std.proofs.Common.{◌≡◌, ℕ, suc, ◌+◌, ◌-◌, ◌/◌, ◌%◌, ◌<◌, ◌≤◌, true, eqb, cond, List, [], ◌∷◌, ◌++◌, length, get_or, take, drop, reverse, sym, refl, ap, ◌∙◌, subst, inl, inr, arith}
use Rattle.std.proofs.lemmas.Bool.{cases_eq, cases_lt, cond-true, cond-false, eq-eqb, ne_eqb, and_from}
use Rattle.std.proofs.lemmas.List.{get_or_append_left, get_or-append_right, length-append, length-take-le, length-drop, length-reverse, get_or-take, get_or-drop, get_or-reverse, same_lists, reverse-append, reverse-reverse, drop-take, drop-drop, take-take}
use Rattle.rings.specs.Law.{opp}
use Rattle.topology.specs.declared.side.Side.{Side}
use Rattle.topology.specs.declared.vertex.Vertex.{Vertex}
use Rattle.topology.specs.Rows.{no_vertex, row_of, good, start_of}
use Rattle.topology.specs.MapLaw.{RunsStand, AllFinite}
use Rattle.topology.specs.Islands.{all_good}
use Rattle.topology.specs.Joins.{run_of, along, through, joined_run}

-- ---- runs of finite vertices

good_all : (run : List Vertex) → AllFinite run → all_good run ≡ true
good_all [] h = refl
good_all (v ∷ vs) h = and_from (good v) (all_good vs) (h 0 (omega arith)) (good_all vs (λ i l. h (suc i) (omega arith)))

finite_reverse : (xs : List Vertex) → AllFinite xs → AllFinite (reverse xs)
finite_reverse xs h i l = let e = length-reverse xs in ap good (get_or-reverse xs i no_vertex (omega arith)) ∙ h (length xs - 1 - i) (omega arith)

finite_drop : (n : ℕ) (xs : List Vertex) → AllFinite xs → AllFinite (drop n xs)
finite_drop n xs h i l = let e = length-drop n xs in ap good (get_or-drop n xs i no_vertex) ∙ h (n + i) (omega arith)

finite_append : (xs ys : List Vertex) → AllFinite xs → AllFinite ys → AllFinite (xs ++ ys)
finite_append xs ys h k i l =
    elim (cases_lt i (length xs)) [
      | inl a ↦ ap good (get_or_append_left xs ys no_vertex i a) ∙ h i a
      | inr a ↦ ap good (get_or-append_right xs ys (length xs) i no_vertex refl a) ∙ k (i - length xs) (omega (arith, l, length-append xs ys))
    ]

-- a list backwards without its first, or without its last
drop_one_reverse : (xs : List Vertex) (n : ℕ) → length xs ≡ n + 1 → drop 1 (reverse xs) ≡ reverse (take n xs)
drop_one_reverse xs n e =
    let a = length-reverse xs in
    let b = length-take-le n xs (omega arith) in
    let c = length-reverse (take n xs) in
    let d = length-drop 1 (reverse xs) in
    same_lists _ _ (omega arith)
    (λ k v l.
    get_or-drop 1 (reverse xs) k v
    ∙ (get_or-reverse xs (1 + k) v (omega arith)
    ∙ sym (get_or-reverse (take n xs) k v (omega arith) ∙ (ap (λ (j : ℕ). get_or (take n xs) j v) (let i : length (take n xs) - 1 - k ≡ length xs - 1 - (1 + k) = omega arith in i) ∙ get_or-take n xs (length xs - 1 - (1 + k)) v (omega arith)))))

module _ (us : List Side) (vs : List Vertex) (n : ℕ) (even : n % 2 ≡ 0) (stand : RunsStand us vs n) where
  -- how many vertices an arc has
  abbrev many : ℕ → ℕ
  many a = row_of us (a + a + 1) + 1 - row_of us (a + a)

  abbrev row : ℕ → ℕ
  row a = row_of us (a + a)

  run_long : (a : ℕ) → a + a + 1 < n → length (run_of us vs a) ≡ many a
  run_long a l = let r = stand a l in length-take-le (many a) (drop (row a) vs) (omega (arith, r.0, r.1, length-drop (row a) vs))

  run_at : (a j : ℕ) → j < many a → get_or (run_of us vs a) j no_vertex ≡ get_or vs (row a + j) no_vertex
  run_at a j l = get_or-take (many a) (drop (row a) vs) j no_vertex l ∙ get_or-drop (row a) vs j no_vertex

  -- .. at least two
  pub two : (a : ℕ) → a + a + 1 < n → 2 ≤ many a
  two a l = let r = stand a l in omega (arith, r.0)

  last_row : (a : ℕ) → a + a + 1 < n → row a + (many a - 1) ≡ row_of us (a + a + 1)
  last_row a l = let r = stand a l in omega (arith, r.0)

  run_finite : AllFinite vs → (a : ℕ) → a + a + 1 < n → AllFinite (run_of us vs a)
  run_finite h a l i k =
      let r = stand a l in
      let e = run_long a l in
      ap good (run_at a i (omega arith)) ∙ h (row a + i) (omega (arith, r.0, r.1, k, e))

  along_unturned : (s : ℕ) → s % 2 ≡ 0 → along us vs s ≡ run_of us vs (s / 2)
  along_unturned s e = cond-false (eqb (s % 2) 1) (reverse (run_of us vs (s / 2))) (run_of us vs (s / 2)) (ne_eqb (s % 2) 1 (λ i. omega (arith, i, e)))

  along_turned : (s : ℕ) → (s % 2 ≡ 0 → ⊥) → along us vs s ≡ reverse (run_of us vs (s / 2))
  along_turned s ne = cond-true (eqb (s % 2) 1) (reverse (run_of us vs (s / 2))) (run_of us vs (s / 2)) (eq-eqb (s % 2) 1 (omega (arith, ne)))

  module _ (s : ℕ) (l : s < n) where
    abbrev a : ℕ
    a = s / 2

    la : a + a + 1 < n
    la = omega arith

    pub along_long : length (along us vs s) ≡ many a
    along_long =
        elim (cases_eq (s % 2) 0) [
          | inl e ↦ ap length (along_unturned s e) ∙ run_long a la
          | inr e ↦ ap length (along_turned s e) ∙ (length-reverse (run_of us vs a) ∙ run_long a la)
        ]

    -- a side's vertices are those from its start ..
    pub along_first : get_or (along us vs s) 0 no_vertex ≡ start_of us vs s
    along_first =
        let t = two a la in
        let r = run_long a la in
        elim (cases_eq (s % 2) 0) [
          | inl e ↦
              let i : row a + 0 ≡ row_of us s = let k : a + a ≡ s = omega arith in ap (λ (j : ℕ). row_of us j + 0) k ∙ omega arith in
              ap (λ (xs : List Vertex). get_or xs 0 no_vertex) (along_unturned s e) ∙ (run_at a 0 (omega arith) ∙ ap (λ (j : ℕ). get_or vs j no_vertex) i)
          | inr e ↦
              let k : a + a + 1 ≡ s = omega arith in
              let i : length (run_of us vs a) - 1 - 0 ≡ many a - 1 = omega arith in
              ap (λ (xs : List Vertex). get_or xs 0 no_vertex) (along_turned s e)
              ∙ (get_or-reverse (run_of us vs a) 0 no_vertex (omega arith)
              ∙ (ap (λ (j : ℕ). get_or (run_of us vs a) j no_vertex) i
              ∙ (run_at a (many a - 1) (omega arith) ∙ ap (λ (j : ℕ). get_or vs j no_vertex) (last_row a la ∙ ap (row_of us) k))))
        ]

    -- .. to that of its opposite
    pub along_last : get_or (along us vs s) (many a - 1) no_vertex ≡ start_of us vs (opp s)
    along_last =
        let t = two a la in
        let r = run_long a la in
        elim (cases_eq (s % 2) 0) [
          | inl e ↦
              let k : a + a + 1 ≡ opp s = omega arith in
              ap (λ (xs : List Vertex). get_or xs (many a - 1) no_vertex) (along_unturned s e)
              ∙ (run_at a (many a - 1) (omega arith) ∙ ap (λ (j : ℕ). get_or vs j no_vertex) (last_row a la ∙ ap (row_of us) k))
          | inr e ↦
              let i : row a + 0 ≡ row_of us (opp s) = let k : a + a ≡ opp s = omega arith in ap (λ (j : ℕ). row_of us j + 0) k ∙ omega arith in
              let j : length (run_of us vs a) - 1 - (many a - 1) ≡ 0 = omega arith in
              ap (λ (xs : List Vertex). get_or xs (many a - 1) no_vertex) (along_turned s e)
              ∙ (get_or-reverse (run_of us vs a) (many a - 1) no_vertex (omega arith)
              ∙ (ap (λ (j : ℕ). get_or (run_of us vs a) j no_vertex) j ∙ (run_at a 0 (omega arith) ∙ ap (λ (j : ℕ). get_or vs j no_vertex) i)))
        ]

    pub along_finite : AllFinite vs → AllFinite (along us vs s)
    along_finite h =
        elim (cases_eq (s % 2) 0) [
          | inl e ↦ subst AllFinite (sym (along_unturned s e)) (run_finite h a la)
          | inr e ↦ subst AllFinite (sym (along_turned s e)) (finite_reverse (run_of us vs a) (run_finite h a la))
        ]

  -- ---- through two arcs

  module _ (s t : ℕ) (ls : s < n) (lt : t < n) where
    abbrev W : List Vertex
    W = through us vs s t

    abbrev R : List Vertex
    R = joined_run us vs s t

    lo : opp s < n
    lo = omega arith

    abbrev tail : List Vertex
    tail = drop 1 (along us vs t)

    half : opp s / 2 ≡ s / 2
    half = omega arith

    tail_long : length tail ≡ many (t / 2) - 1
    tail_long = length-drop 1 (along us vs t) ∙ ap (λ (k : ℕ). k - 1) (along_long t lt)

    through_long : length W ≡ many (s / 2) + (many (t / 2) - 1)
    through_long =
        length-append (along us vs (opp s)) tail
        ∙ (ap (λ (k : ℕ). k + length tail) (along_long (opp s) lo ∙ ap many half) ∙ ap (λ (k : ℕ). many (s / 2) + k) tail_long)

    unturned : s % 2 ≡ 0 → R ≡ reverse W
    unturned e = cond-true (eqb (s % 2) 0) (reverse W) W (eq-eqb (s % 2) 0 e)

    turned : (s % 2 ≡ 0 → ⊥) → R ≡ W
    turned ne = cond-false (eqb (s % 2) 0) (reverse W) W (ne_eqb (s % 2) 0 ne)

    pub joined_long : length R ≡ many (s / 2) + (many (t / 2) - 1)
    joined_long =
        elim (cases_eq (s % 2) 0) [
          | inl e ↦ ap length (unturned e) ∙ (length-reverse W ∙ through_long)
          | inr e ↦ ap length (turned e) ∙ through_long
        ]

    pub joined_many : 2 ≤ length R
    joined_many = omega (arith, joined_long, two (s / 2) (omega arith), two (t / 2) (omega arith))

    through_first : get_or W 0 no_vertex ≡ start_of us vs (opp s)
    through_first =
        get_or_append_left (along us vs (opp s)) tail no_vertex 0 (omega (arith, along_long (opp s) lo, ap many half, two (s / 2) (omega arith)))
        ∙ along_first (opp s) lo

    through_last : get_or W (length W - 1) no_vertex ≡ start_of us vs (opp t)
    through_last =
        let a = along_long (opp s) lo ∙ ap many half in
        let x = two (s / 2) (omega arith) in
        let y = two (t / 2) (omega arith) in
        let i : 1 + (length W - 1 - length (along us vs (opp s))) ≡ many (t / 2) - 1 = omega (arith, through_long, a, x, y) in
        get_or-append_right (along us vs (opp s)) tail (length (along us vs (opp s))) (length W - 1) no_vertex refl (omega (arith, through_long, a, x, y))
        ∙ (get_or-drop 1 (along us vs t) (length W - 1 - length (along us vs (opp s))) no_vertex ∙ (ap (λ (j : ℕ). get_or (along us vs t) j no_vertex) i ∙ along_last t lt))

    -- where s begins in the joined run, and where its opposite does
    abbrev place : ℕ → ℕ
    place k = cond (eqb (k % 2) 0) 0 (length R - 1)

    backwards : (j k : ℕ) → j < length W → length W - 1 - j ≡ k → s % 2 ≡ 0 → get_or R j no_vertex ≡ get_or W k no_vertex
    backwards j k l i e = ap (λ (xs : List Vertex). get_or xs j no_vertex) (unturned e) ∙ (get_or-reverse W j no_vertex l ∙ ap (λ (j : ℕ). get_or W j no_vertex) i)

    some : 2 ≤ length W
    some = omega (arith, through_long, two (s / 2) (omega arith), two (t / 2) (omega arith))

    pub joined_start : get_or R (place s) no_vertex ≡ start_of us vs (opp t)
    joined_start =
        let w = some in
        elim (cases_eq (s % 2) 0) [
          | inl e ↦
              ap (λ (j : ℕ). get_or R j no_vertex) (cond-true (eqb (s % 2) 0) 0 (length R - 1) (eq-eqb (s % 2) 0 e))
              ∙ (backwards 0 (length W - 1) (omega arith) (omega arith) e ∙ through_last)
          | inr ne ↦
              ap (λ (j : ℕ). get_or R j no_vertex) (cond-false (eqb (s % 2) 0) 0 (length R - 1) (ne_eqb (s % 2) 0 ne))
              ∙ (ap (λ (xs : List Vertex). get_or xs (length xs - 1) no_vertex) (turned ne) ∙ through_last)
        ]

    pub joined_end : get_or R (place (opp s)) no_vertex ≡ start_of us vs (opp s)
    joined_end =
        let w = some in
        elim (cases_eq (s % 2) 0) [
          | inl e ↦
              let i : length R ≡ length W = ap length (unturned e) ∙ length-reverse W in
              ap (λ (j : ℕ). get_or R j no_vertex) (cond-false (eqb (opp s % 2) 0) 0 (length R - 1) (ne_eqb (opp s % 2) 0 (omega arith)))
              ∙ (backwards (length R - 1) 0 (omega arith) (omega arith) e ∙ through_first)
          | inr ne ↦
              ap (λ (j : ℕ). get_or R j no_vertex) (cond-true (eqb (opp s % 2) 0) 0 (length R - 1) (eq-eqb (opp s % 2) 0 (omega arith)))
              ∙ (ap (λ (xs : List Vertex). get_or xs 0 no_vertex) (turned ne) ∙ through_first)
        ]

    pub joined_good : AllFinite vs → all_good R ≡ true
    joined_good h =
        let w = finite_append (along us vs (opp s)) tail (along_finite (opp s) lo h) (finite_drop 1 (along us vs t) (along_finite t lt h)) in
        good_all R
        (elim (cases_eq (s % 2) 0) [
          | inl e ↦ subst AllFinite (sym (unturned e)) (finite_reverse W w)
          | inr e ↦ subst AllFinite (sym (turned e)) w
        ])

    -- ---- piece by piece: the arc of s whole, and that of t without its end at the node

    abbrev from : ℕ
    from = cond (eqb (t % 2) 0) (row (t / 2) + 1) (row (t / 2))

    abbrev piece : List Vertex
    piece = take (many (t / 2) - 1) (drop from vs)

    tail_unturned : t % 2 ≡ 0 → tail ≡ piece
    tail_unturned e =
        let w = two (t / 2) (omega arith) in
        let i : many (t / 2) ≡ 1 + (many (t / 2) - 1) = omega arith in
        ap (drop 1) (along_unturned t e ∙ ap (λ (k : ℕ). take k (drop (row (t / 2)) vs)) i)
        ∙ (drop-take 1 (many (t / 2) - 1) (drop (row (t / 2)) vs)
        ∙ ap (take (many (t / 2) - 1)) (drop-drop 1 (row (t / 2)) vs ∙ ap (λ (k : ℕ). drop k vs) (sym (cond-true (eqb (t % 2) 0) (row (t / 2) + 1) (row (t / 2)) (eq-eqb (t % 2) 0 e)))))

    tail_turned : (t % 2 ≡ 0 → ⊥) → tail ≡ reverse piece
    tail_turned ne =
        let w = two (t / 2) (omega arith) in
        let lt2 : t / 2 + t / 2 + 1 < n = omega arith in
        ap (drop 1) (along_turned t ne)
        ∙ (drop_one_reverse (run_of us vs (t / 2)) (many (t / 2) - 1) (omega (arith, run_long (t / 2) lt2))
        ∙ ap reverse
        (take-take (many (t / 2) - 1) (many (t / 2)) (drop (row (t / 2)) vs) (omega arith)
        ∙ ap (λ (k : ℕ). take (many (t / 2) - 1) (drop k vs)) (sym (cond-false (eqb (t % 2) 0) (row (t / 2) + 1) (row (t / 2)) (ne_eqb (t % 2) 0 ne)))))

    pub joined_turned : (s % 2 ≡ 0 → ⊥) → R ≡ run_of us vs (s / 2) ++ cond (eqb (s % 2) (t % 2)) (reverse piece) piece
    joined_turned ne =
        turned ne
        ∙ (ap (λ (xs : List Vertex). xs ++ tail) (along_unturned (opp s) (omega arith) ∙ ap (run_of us vs) half)
        ∙ ap (λ (xs : List Vertex). run_of us vs (s / 2) ++ xs)
        (elim (cases_eq (t % 2) 0) [
          | inl e ↦ tail_unturned e ∙ sym (cond-false (eqb (s % 2) (t % 2)) (reverse piece) piece (ne_eqb (s % 2) (t % 2) (omega arith)))
          | inr e ↦ tail_turned e ∙ sym (cond-true (eqb (s % 2) (t % 2)) (reverse piece) piece (eq-eqb (s % 2) (t % 2) (omega arith)))
        ]))

    pub joined_unturned : s % 2 ≡ 0 → R ≡ cond (eqb (s % 2) (t % 2)) (reverse piece) piece ++ run_of us vs (s / 2)
    joined_unturned e =
        unturned e
        ∙ (ap (λ (xs : List Vertex). reverse (xs ++ tail)) (along_turned (opp s) (omega arith) ∙ ap (λ (k : ℕ). reverse (run_of us vs k)) half)
        ∙ (reverse-append (reverse (run_of us vs (s / 2))) tail
        ∙ (ap (λ (xs : List Vertex). reverse tail ++ xs) (reverse-reverse (run_of us vs (s / 2)))
        ∙ ap (λ (xs : List Vertex). xs ++ run_of us vs (s / 2))
        (elim (cases_eq (t % 2) 0) [
          | inl i ↦ ap reverse (tail_unturned i) ∙ sym (cond-true (eqb (s % 2) (t % 2)) (reverse piece) piece (eq-eqb (s % 2) (t % 2) (omega arith)))
          | inr i ↦ ap reverse (tail_turned i) ∙ (reverse-reverse piece ∙ sym (cond-false (eqb (s % 2) (t % 2)) (reverse piece) piece (ne_eqb (s % 2) (t % 2) (omega arith))))
        ]))))
