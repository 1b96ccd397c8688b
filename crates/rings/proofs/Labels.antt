-- Labels of circles: under other labels, where the highest fills a gap, and how many there can be.
use Rattle.std.proofs.Common.{◌≡◌, ℕ, zero, suc, ◌+◌, ◌-◌, ◌<◌, ◌≤◌, eqb, ltb, List, [], ◌∷◌, ◌++◌, map, length, sym, refl, ap, ◌∙◌, subst, inl, inr, arith}
use Rattle.std.proofs.lemmas.Bool.{cases_eq, cases_lt, eq-eqb}
use Rattle.std.proofs.lemmas.Bool.Decides.{nat_tests}
use Rattle.std.proofs.lemmas.List.{length-append}
use Rattle.rings.specs.Circles.{one_if, occ, occs, AllCircles, first, names, starts, rings}
use Rattle.rings.specs.Law.{Ringed, Along}
use Rattle.rings.specs.Edits.{fill}
use Rattle.rings.proofs.Occurs.{occ_append, one_same, one_other, one_most, one_below, one_past, below_one}
use Rattle.rings.proofs.Chains.{split_at, picked}
use Rattle.rings.proofs.Listing.{pigeon}
use Rattle.rings.proofs.Ringed.{ringed_circles}
use Rattle.rings.proofs.Lows.{length_names}

pub names_comp : (φ lab : ℕ → ℕ) (cs : List (List ℕ)) → names (λ k. φ (lab k)) cs ≡ map φ (names lab cs)
names_comp φ lab [] = refl
names_comp φ lab (c ∷ cs) = ap (λ (ys : List ℕ). φ (lab (first c)) ∷ ys) (names_comp φ lab cs)

-- what stands in a list stands, under its other label, in the list of the other labels
pub occ_image : (φ : ℕ → ℕ) (x : ℕ) (xs : List ℕ) → 0 < occ x xs → 0 < occ (φ x) (map φ xs)
occ_image φ x [] h = absurd (omega arith)
occ_image φ x (y ∷ ys) h =
    elim (cases_eq x y) [
      | inl e ↦ omega (arith, ap one_if (eq-eqb (φ x) (φ y) (ap φ e)))
      | inr ne ↦ omega (arith, occ_image φ x ys (omega (arith, one_other x y ne)))
    ]

-- each label below the count stands once but the gap: then, the highest filling it, each below one fewer does
fill_here : (gap top : ℕ) (w x : ℕ) → (x ≡ gap → ⊥) → (w ≡ gap → ⊥) → (w ≡ top → ⊥) → one_if (eqb w (fill gap top x)) ≡ one_if (eqb w x)
fill_here gap top w x nx nw nt = grind (arith, nat_tests)

fill_gap : (gap top : ℕ) (x : ℕ) → (x ≡ gap → ⊥) → one_if (eqb gap (fill gap top x)) ≡ one_if (eqb top x)
fill_gap gap top x nx = grind (arith, nat_tests)

fill_top : (gap top : ℕ) (x : ℕ) → (gap ≡ top → ⊥) → one_if (eqb top (fill gap top x)) ≡ 0
fill_top gap top x nt = grind (arith, nat_tests)

without : (gap x : ℕ) (xs : List ℕ) → one_if (eqb gap x) + occ gap xs ≡ 0 → (x ≡ gap → ⊥)
without gap x xs o e = omega (arith, ap one_if (eq-eqb gap x (sym e)))

pub occ_here : (gap top w : ℕ) (xs : List ℕ) → occ gap xs ≡ 0 → (w ≡ gap → ⊥) → (w ≡ top → ⊥) → occ w (map (fill gap top) xs) ≡ occ w xs
occ_here gap top w [] o nw nt = refl
occ_here gap top w (x ∷ xs) o nw nt = omega (arith, fill_here gap top w x (without gap x xs o) nw nt, occ_here gap top w xs (omega arith) nw nt)

pub occ_gap : (gap top : ℕ) (xs : List ℕ) → occ gap xs ≡ 0 → occ gap (map (fill gap top) xs) ≡ occ top xs
occ_gap gap top [] o = refl
occ_gap gap top (x ∷ xs) o = omega (arith, fill_gap gap top x (without gap x xs o), occ_gap gap top xs (omega arith))

pub occ_top : (gap top : ℕ) (xs : List ℕ) → (gap ≡ top → ⊥) → occ top (map (fill gap top) xs) ≡ 0
occ_top gap top [] nt = refl
occ_top gap top (x ∷ xs) nt = omega (arith, fill_top gap top x nt, occ_top gap top xs nt)

pub fill_once : (gap count : ℕ) (xs : List ℕ) → gap < count → ((w : ℕ) → one_if (ltb w count) ≡ one_if (eqb w gap) + occ w xs) →
    (w : ℕ) → occ w (map (fill gap (count - 1)) xs) ≡ one_if (ltb w (count - 1))
fill_once gap count xs l o w =
    let none : occ gap xs ≡ 0 = omega (arith, o gap, one_same gap, one_most (ltb gap count)) in
    elim (cases_eq w gap) [
      | inl e ↦
          subst (λ (u : ℕ). occ u (map (fill gap (count - 1)) xs) ≡ one_if (ltb u (count - 1))) (sym e)
          (elim (cases_eq gap (count - 1)) [
            | inl i ↦ omega (arith, occ_gap gap (count - 1) xs none, ap (λ (u : ℕ). occ u xs) (sym i), one_past gap (count - 1) (omega arith))
            | inr ne ↦
                omega (
                  arith,
                  occ_gap gap (count - 1) xs none,
                  o (count - 1),
                  one_below (count - 1) count (omega arith),
                  one_other (count - 1) gap (λ i. ne (sym i)),
                  one_below gap (count - 1) (omega arith),
                )
          ])
      | inr nw ↦
          elim (cases_eq w (count - 1)) [
            | inl i ↦
                subst (λ (u : ℕ). occ u (map (fill gap (count - 1)) xs) ≡ one_if (ltb u (count - 1))) (sym i)
                (omega (arith, occ_top gap (count - 1) xs (λ j. nw (i ∙ sym j)), one_past (count - 1) (count - 1) (omega arith)))
            | inr nt ↦
                elim (cases_lt w (count - 1)) [
                  | inl lw ↦ omega (arith, occ_here gap (count - 1) w xs none nw nt, o w, one_other w gap nw, one_below w count (omega arith), one_below w (count - 1) lw)
                  | inr gw ↦ omega (arith, occ_here gap (count - 1) w xs none nw nt, o w, one_other w gap nw, one_past w count (omega arith), one_past w (count - 1) gw)
                ]
          ]
    ]

-- a list in which each number below c stands has at least c members
pub many : (c : ℕ) (xs : List ℕ) → ((u : ℕ) → u < c → 0 < occ u xs) → c ≤ length xs
many zero xs h = omega arith
many (suc c) xs h =
    let r = split_at c xs (h c (omega arith)) in
    let l = many c (r.0 ++ r.1) (λ u lu. omega (arith, h u (omega arith), ap (occ u) r.2, occ_append u r.0 (c ∷ r.1), occ_append u r.0 r.1, one_other u c (omega arith))) in
    omega (arith, l, ap length r.2, length-append r.0 (c ∷ r.1), length-append r.0 r.1)

starts_few : (cs : List (List ℕ)) (f : ℕ → ℕ) → AllCircles f cs → (k : ℕ) → occ k (starts cs) ≤ occs k cs
starts_few [] f c k = omega arith
starts_few ([] ∷ cs) f c k = absurd c.0
starts_few ((x ∷ xs) ∷ cs) f c k = omega (arith, starts_few cs f c.1 k)

-- there are no more circles than members
pub few_circles : (f : ℕ → ℕ) (n : ℕ) → Ringed f n → length (rings f n) ≤ n
few_circles f n r =
    let c = ringed_circles f n r in
    omega (arith, length_names (λ x. x) (rings f n), pigeon n (starts (rings f n)) (λ k. omega (arith, starts_few (rings f n) f c.round k, c.once k)))

-- so there are no more labels than members, where each label stands on a circle ..
pub few_labels : (f lab : ℕ → ℕ) (n c : ℕ) → Ringed f n → ((u : ℕ) → u < c → 0 < occ u (names lab (rings f n))) → c ≤ n
few_labels f lab n c r h = omega (arith, many c (names lab (rings f n)) h, length_names lab (rings f n), few_circles f n r)

-- .. or each except 0
pub few_but_zero : (f lab : ℕ → ℕ) (n c : ℕ) → Ringed f n → ((u : ℕ) → 0 < u → u < c → 0 < occ u (names lab (rings f n))) → c ≤ n + 1
few_but_zero f lab n c r h =
    omega (
      arith,
      many c (0 ∷ names lab (rings f n)) (λ u l. elim (cases_eq u 0) [ inl e ↦ omega (arith, ap one_if (eq-eqb u 0 e)) | inr ne ↦ omega (arith, h u (omega arith) l) ]),
      length_names lab (rings f n),
      few_circles f n r,
    )

-- a label stands on the circle of each member that bears it
pub label_there : (f lab : ℕ → ℕ) (n : ℕ) → Ringed f n → Along f lab n → (s : ℕ) → s < n → 0 < occ (lab s) (names lab (rings f n))
label_there f lab n r along s l =
    let c = ringed_circles f n r in
    let p = picked f s (rings f n) c.round (omega (arith, c.once s, one_below s n l)) in
    omega (arith, p.label lab (λ x o. along x (below_one x n (omega (arith, c.once x)))) (lab s), one_same (lab s))

-- a label along circles, under another name
pub along_image : (f lab lab' φ : ℕ → ℕ) (n : ℕ) → ((x : ℕ) → x < n → f x < n) → ((k : ℕ) → k < n → lab' k ≡ φ (lab k)) → Along f lab n → Along f lab' n
along_image f lab lab' φ n inside same along x l = same (f x) (inside x l) ∙ (ap φ (along x l) ∙ sym (same x l))
