-- The rings and the turns after a split, as lists.
use Rattle.std.proofs.Common.{◌≡◌, ℕ, zero, suc, ◌+◌, ◌%◌, ◌<◌, ◌≤◌, Bool, true, false, cond, ◌&&◌, eqb, ltb, List, [], ◌∷◌, ◌++◌, map, sym, refl, ap, ◌∙◌, subst, inl, inr, arith}
use Rattle.std.proofs.lemmas.Bool.{cases_eq, cases_lt, eq-eqb, ne_eqb, lt-ltb, le-ltb, cond-true, cond-false, and_left, and_right}
use Rattle.std.proofs.lemmas.Bool.Decides.{nat_tests}
use Rattle.std.proofs.lemmas.List.{append-nil, map-append}
use Rattle.rings.specs.Circles.{one_if, occ, Chain, Circles, names, ring, rings, kept}
use Rattle.rings.specs.Law.{opp, turn, Along, Ringed, LowAlong, LowBelow, LowNames}
use Rattle.rings.specs.Edits.{split_next, split_polygon, fill}
use Rattle.rings.specs.LetIn.{let_in, split_after}
use Rattle.rings.proofs.Occurs.{occ_append, one_same, one_other, one_most, one_below, one_past, below_one}
use Rattle.rings.proofs.Chains.{picked, chain_join}
use Rattle.rings.proofs.Listing.{listed, ring_is}
use Rattle.rings.proofs.Ringed.{ringed_circles, circles_ringed}
use Rattle.rings.proofs.Closed.{one_image, within}
use Rattle.rings.proofs.Links.{two_in}
use Rattle.rings.proofs.Labels.{occ_here, occ_gap, occ_top}
use Rattle.rings.proofs.Ringwise.{ringwise}
use Rattle.rings.proofs.Split.{opp_low, opp_opp, opp_new, opp_top, g_s, g_top, g_n_apart, g_n_same, g_p, g_else, split_two_in, split_bounds}

label_old : (lab : ℕ → ℕ) (n s o x : ℕ) → x < n → split_polygon lab n s o x ≡ lab x
label_old lab n s o x l = grind (arith, nat_tests)

label_new : (lab : ℕ → ℕ) (n s o : ℕ) → split_polygon lab n s o n ≡ lab s
label_new lab n s o = grind (arith, nat_tests)

label_top : (lab : ℕ → ℕ) (n s o : ℕ) → split_polygon lab n s o (suc n) ≡ lab o
label_top lab n s o = grind (arith, nat_tests)

-- a chain with members let in
pub chain_let_in : (f g : ℕ → ℕ) (after : ℕ → List ℕ) (p q : ℕ) (xs : List ℕ) → ((x : ℕ) → 0 < occ x (p ∷ xs) → Chain g x (after x) (f x)) → Chain f p xs q →
    Chain g p (after p ++ let_in after xs) q
chain_let_in f g after p q [] h c = subst (λ (ys : List ℕ). Chain g p ys q) (sym (append-nil (after p))) (subst (λ (y : ℕ). Chain g p (after p) y) c (h p (omega (arith, one_same p))))
chain_let_in f g after p q (x ∷ xs) h c =
    chain_join g p x q (after p) (after x ++ let_in after xs) (subst (λ (y : ℕ). Chain g p (after p) y) c.0 (h p (omega (arith, one_same p))))
    (chain_let_in f g after x q xs (λ y l. h y (omega arith)) c.1)

-- something in a chain leads to its end
pub chain_end : (f : ℕ → ℕ) (p q : ℕ) (xs : List ℕ) → Chain f p xs q → (x : ℕ) × (0 < occ x (p ∷ xs)) × (f x ≡ q)
chain_end f p q [] c = (p, omega (arith, one_same p), c)
chain_end f p q (y ∷ xs) c =
    let r : (x : ℕ) × (0 < occ x (y ∷ xs)) × (f x ≡ q) = chain_end f y q xs c.1 in
    let l = r.1 in
    (r.0, omega arith, r.2)

-- every member comes after one
pub some_before : (f : ℕ → ℕ) (n : ℕ) → Ringed f n → (o : ℕ) → o < n → (p : ℕ) × (p < n) × (f p ≡ o)
some_before f n r o l =
    let c = ringed_circles f n r in
    let t = picked f o (rings f n) c.round (omega (arith, c.once o, one_below o n l)) in
    let x = chain_end f o o t.loop t.closed in
    let h = x.1 in
    (x.0, below_one x.0 n (omega (arith, c.once x.0, t.same x.0)), x.2)

-- a chain under other names
chain_image : (f g φ : ℕ → ℕ) (p q : ℕ) (xs : List ℕ) → ((x : ℕ) → 0 < occ x (p ∷ xs) → g (φ x) ≡ φ (f x)) → Chain f p xs q → Chain g (φ p) (map φ xs) (φ q)
chain_image f g φ p q [] h c = h p (omega (arith, one_same p)) ∙ ap φ c
chain_image f g φ p q (x ∷ xs) h c =
    (h p (omega (arith, one_same p)) ∙ ap φ c.0, chain_image f g φ x q xs (λ y l. h y (omega arith)) c.1)

kept_same : (P Q : ℕ → Bool) (n : ℕ) → ((k : ℕ) → k < n → P k ≡ Q k) → kept P n ≡ kept Q n
kept_same P Q zero h = refl
kept_same P Q (suc n) h =
    ap (λ (xs : List ℕ). xs ++ cond (P n) (n ∷ []) []) (kept_same P Q n (λ k l. h k (omega arith)))
    ∙ ap (λ (t : Bool). kept Q n ++ cond t (n ∷ []) []) (h n (omega arith))

kept_none : (P : ℕ → Bool) (n : ℕ) → P n ≡ false → kept P (suc n) ≡ kept P n
kept_none P n h = ap (λ (t : Bool). kept P n ++ cond t (n ∷ []) []) h ∙ append-nil (kept P n)

map_kept : {X : Type 0} (F G : ℕ → X) (P : ℕ → Bool) (n : ℕ) → ((k : ℕ) → k < n → F k ≡ G k) → map F (kept P n) ≡ map G (kept P n)
map_kept F G P zero h = refl
map_kept F G P (suc n) h =
    map-append F (kept P n) (cond (P n) (n ∷ []) [])
    ∙ (ap (λ ys. ys ++ map F (cond (P n) (n ∷ []) [])) (map_kept F G P n (λ k l. h k (omega arith)))
    ∙ (ap (λ ys. map G (kept P n) ++ ys) (last (P n)) ∙ sym (map-append G (kept P n) (cond (P n) (n ∷ []) []))))
  where
    last : (t : Bool) → map F (cond t (n ∷ []) []) ≡ map G (cond t (n ∷ []) [])
    last true = ap (λ y. y ∷ []) (h n (omega arith))
    last false = refl

map_map : {X Y Z : Type 0} (F : Y → Z) (G : X → Y) (xs : List X) → map (λ x. F (G x)) xs ≡ map F (map G xs)
map_map F G [] = refl
map_map F G (x ∷ xs) = ap (λ ys. F (G x) ∷ ys) (map_map F G xs)

occ_cond : (t : Bool) (k : ℕ) → occ k (cond t (k ∷ []) []) ≡ one_if t
occ_cond true k = omega (arith, one_same k)
occ_cond false k = refl

occ_cond_other : (t : Bool) (k y : ℕ) → (k ≡ y → ⊥) → occ k (cond t (y ∷ []) []) ≡ 0
occ_cond_other true k y ne = omega (arith, one_other k y ne)
occ_cond_other false k y ne = refl

one_swap : (x y : ℕ) → one_if (eqb x y) ≡ one_if (eqb y x)
one_swap x y = grind (arith, nat_tests)

-- what is let in, counted
module _ (f : ℕ → ℕ) (n s o p : ℕ) where
  after_other : (k x : ℕ) → (k ≡ n → ⊥) → (k ≡ suc n → ⊥) → occ k (split_after f n s o x) ≡ 0
  after_other k x h i =
      omega (arith, occ_append k (cond (eqb x s) (n ∷ []) []) (cond (eqb (f x) o) (suc n ∷ []) []), occ_cond_other (eqb x s) k n h, occ_cond_other (eqb (f x) o) k (suc n) i)

  after_new : (x : ℕ) → occ n (split_after f n s o x) ≡ one_if (eqb s x)
  after_new x =
      omega (arith, occ_append n (cond (eqb x s) (n ∷ []) []) (cond (eqb (f x) o) (suc n ∷ []) []), occ_cond (eqb x s) n, occ_cond_other (eqb (f x) o) n (suc n) (omega arith), one_swap x s)

  after_top : (x : ℕ) → (f x ≡ o → x ≡ p) → f p ≡ o → occ (suc n) (split_after f n s o x) ≡ one_if (eqb p x)
  after_top x i e =
      let same : one_if (eqb (f x) o) ≡ one_if (eqb p x) =
      elim (cases_eq (f x) o) [
        | inl q ↦ ap one_if (eq-eqb (f x) o q) ∙ sym (ap one_if (eq-eqb p x (sym (i q))))
        | inr nq ↦ one_other (f x) o nq ∙ sym (one_other p x (λ j. nq (ap f (sym j) ∙ e)))
      ] in
      omega (arith, occ_append (suc n) (cond (eqb x s) (n ∷ []) []) (cond (eqb (f x) o) (suc n ∷ []) []), occ_cond (eqb (f x) o) (suc n), occ_cond_other (eqb x s) (suc n) n (omega arith), same)

  let_in_other : (k : ℕ) (xs : List ℕ) → (k ≡ n → ⊥) → (k ≡ suc n → ⊥) → occ k (let_in (split_after f n s o) xs) ≡ occ k xs
  let_in_other k [] h i = refl
  let_in_other k (x ∷ xs) h i =
      omega (arith, occ_append k (split_after f n s o x) (let_in (split_after f n s o) xs), after_other k x h i, let_in_other k xs h i)

  let_in_new : (xs : List ℕ) → occ n (let_in (split_after f n s o) xs) ≡ occ n xs + occ s xs
  let_in_new [] = refl
  let_in_new (x ∷ xs) = omega (arith, occ_append n (split_after f n s o x) (let_in (split_after f n s o) xs), after_new x, let_in_new xs)

  let_in_top : (xs : List ℕ) → ((x : ℕ) → 0 < occ x xs → f x ≡ o → x ≡ p) → f p ≡ o → occ (suc n) (let_in (split_after f n s o) xs) ≡ occ (suc n) xs + occ p xs
  let_in_top [] i e = refl
  let_in_top (x ∷ xs) i e =
      omega (arith, occ_append (suc n) (split_after f n s o x) (let_in (split_after f n s o) xs), after_top x (i x (omega (arith, one_same x))) e, let_in_top xs (λ y l. i y (omega arith)) e)

-- .. once each
pub let_in_few : (f : ℕ → ℕ) (n s o p : ℕ) → s < n → p < n → f p ≡ o → (xs : List ℕ) → ((k : ℕ) → occ k xs ≤ one_if (ltb k n)) → ((y : ℕ) → 0 < occ y xs → f y ≡ o → y ≡ p) →
    (k : ℕ) → occ k (let_in (split_after f n s o) xs) ≤ one_if (ltb k (n + 2))
let_in_few f n s o p ls lp e xs few i k =
    let after = split_after f n s o in
    elim (cases_eq k n) [
      | inl q ↦
          omega (arith, ap (λ (j : ℕ). occ j (let_in after xs)) q, let_in_new f n s o p xs, few n, few s, one_past n n (omega arith), one_most (ltb s n), one_below k (n + 2) (omega arith))
      | inr nq ↦
          elim (cases_eq k (suc n)) [
            | inl q ↦
                omega (arith, ap (λ (j : ℕ). occ j (let_in after xs)) q, let_in_top f n s o p xs i e, few (suc n), few p, one_past (suc n) n (omega arith), one_most (ltb p n), one_below k (n + 2) (omega arith))
            | inr nq' ↦
                elim (cases_lt k n) [
                  | inl l ↦ omega (arith, let_in_other f n s o p k xs nq nq', few k, one_most (ltb k n), one_below k (n + 2) (omega arith))
                  | inr g ↦ omega (arith, let_in_other f n s o p k xs nq nq', few k, one_past k n g)
                ]
          ]
    ]

module _ (f : ℕ → ℕ) (n s p : ℕ) (even : n % 2 ≡ 0) (r : Ringed f n) (ls : s < n) (lp : p < n) (e : f p ≡ opp s) where
  abbrev o : ℕ
  o = opp s

  abbrev g : ℕ → ℕ
  g = split_next f n s o p

  fc : Circles f n (rings f n)
  fc = ringed_circles f n r

  low : (k : ℕ) → k < n → f k < n
  low = within f n (rings f n) fc

  inj : (a b : ℕ) → a < n → b < n → f a ≡ f b → a ≡ b
  inj = one_image f n (rings f n) fc

  lo : o < n
  lo = opp_low n s even ls

  ne : s ≡ o → ⊥
  ne = omega arith

  two : suc (suc n) ≡ n + 2
  two = omega arith

  -- a label along the rings, with each new side labelled as its neighbour, names as many rings as before
  pub split_label : (lab : ℕ → ℕ) → Along f lab n → (v : ℕ) → occ v (names (split_polygon lab n s o) (rings g (n + 2))) ≡ occ v (names lab (rings f n))
  split_label lab along v =
      let d = two_in f g n s p (rings f n) fc ls lp (split_two_in f n s o p ls lo lp ne e) in
      let dc = subst (λ (m : ℕ). Circles g m d.circles) two d.are in
      (listed g (n + 2) d.circles dc).label (split_polygon lab n s o) (split_bounds f lab lab n s p even ls lp e low inj along) v
      ∙ d.label lab (split_polygon lab n s o) along low (label_old lab n s o) (label_new lab n s o) v

  abbrev after : ℕ → List ℕ
  after = split_after f n s o

  after_is : (x : ℕ) (t u : Bool) → eqb x s ≡ t → eqb (f x) o ≡ u → after x ≡ cond t (n ∷ []) [] ++ cond u (suc n ∷ []) []
  after_is x t u a b = ap (λ (v : Bool). cond v (n ∷ []) [] ++ cond (eqb (f x) o) (suc n ∷ []) []) a ∙ ap (λ (v : Bool). cond t (n ∷ []) [] ++ cond v (suc n ∷ []) []) b

  -- g leads from an old side, through what is let in after it, to what came after it
  through : (x : ℕ) → x < n → Chain g x (after x) (f x)
  through x l =
      elim (cases_eq x s) [
        | inl q ↦
            elim (cases_eq (f x) o) [
              | inl i ↦
                  let j : p ≡ s = inj p s lp ls (e ∙ sym (ap f (sym q) ∙ i)) in
                  subst (λ (ys : List ℕ). Chain g x ys (f x)) (sym (after_is x true true (eq-eqb x s q) (eq-eqb (f x) o i)))
                  (ap g q ∙ g_s f n s o p ls lo lp ne, (g_n_same f n s o p ls lo lp ne j, g_top f n s o p ls lo lp ne ∙ sym i))
              | inr ni ↦
                  subst (λ (ys : List ℕ). Chain g x ys (f x)) (sym (after_is x true false (eq-eqb x s q) (ne_eqb (f x) o ni)))
                  (ap g q ∙ g_s f n s o p ls lo lp ne, g_n_apart f n s o p ls lo lp ne (λ j. ni (ap f (q ∙ sym j) ∙ e)) ∙ ap f (sym q))
            ]
        | inr nq ↦
            elim (cases_eq (f x) o) [
              | inl i ↦
                  let j : x ≡ p = inj x p l lp (i ∙ sym e) in
                  subst (λ (ys : List ℕ). Chain g x ys (f x)) (sym (after_is x false true (ne_eqb x s nq) (eq-eqb (f x) o i)))
                  (ap g j ∙ g_p f n s o p ls lo lp ne (λ k. nq (j ∙ k)), g_top f n s o p ls lo lp ne ∙ sym i)
              | inr ni ↦
                  subst (λ (ys : List ℕ). Chain g x ys (f x)) (sym (after_is x false false (ne_eqb x s nq) (ne_eqb (f x) o ni)))
                  (g_else f n s o p ls lo lp ne x l nq (λ j. ni (ap f j ∙ e)))
            ]
      ]

  -- the ring that an old side starts
  pub split_ring : (x : ℕ) → x < n → ring g (n + 2) x ≡ let_in after (ring f n x)
  split_ring x l =
      let t = picked f x (rings f n) fc.round (omega (arith, fc.once x, one_below x n l)) in
      let xs = x ∷ t.loop in
      let few : (k : ℕ) → occ k xs ≤ one_if (ltb k n) = λ k. omega (arith, fc.once k, t.same k) in
      let w : ring f n x ≡ xs = ring_is f n x t.loop t.closed few in
      let inside : (y : ℕ) → 0 < occ y xs → y < n = λ y h. below_one y n (omega (arith, few y)) in
      ring_is g (n + 2) x (after x ++ let_in after t.loop) (chain_let_in f g after x x t.loop (λ y h. through y (inside y h)) t.closed)
      (let_in_few f n s o p ls lp e xs few (λ y h i. inj y p (inside y h) lp (i ∙ sym e)))
      ∙ ap (let_in after) (sym w)

  module _ (lows : ℕ → ℕ) (along : LowAlong f lows n) (below : LowBelow lows n) (named : LowNames f lows n) where
    abbrev lows' : ℕ → ℕ
    lows' = split_polygon lows n s o

    pub split_low_below : LowBelow lows' (n + 2)
    split_low_below x l =
        elim (cases_lt x n) [
          | inl lx ↦ omega (arith, label_old lows n s o x lx, below x lx)
          | inr gx ↦
              elim (cases_eq x n) [
                | inl q ↦ omega (arith, ap lows' q, label_new lows n s o, below s ls)
                | inr nq ↦ let q : x ≡ suc n = omega arith in omega (arith, ap lows' q, label_top lows n s o, below o lo)
              ]
        ]

    -- the new sides are not the lowest of their rings
    new_not : eqb (lows' n) n ≡ false
    new_not = ne_eqb (lows' n) n (λ q. omega (arith, q, label_new lows n s o, below s ls))

    top_not : eqb (lows' (suc n)) (suc n) ≡ false
    top_not = ne_eqb (lows' (suc n)) (suc n) (λ q. omega (arith, q, label_top lows n s o, below o lo))

    pub split_low_names : LowNames g lows' (n + 2)
    split_low_names v =
        split_label lows along v
        ∙ (named v
        ∙ elim (cases_lt v n) [
          | inl l ↦ ap one_if (ap (λ (t : Bool). t && eqb (lows v) v) (lt-ltb v n l ∙ sym (lt-ltb v (n + 2) (omega arith))) ∙ ap (λ (w : ℕ). ltb v (n + 2) && eqb w v) (sym (label_old lows n s o v l)))
          | inr g ↦ ap one_if (and_left (ltb v n) (eqb (lows v) v) (le-ltb v n g) ∙ sym (past v g))
        ])
      where
        past : (v : ℕ) → n ≤ v → (ltb v (n + 2) && eqb (lows' v) v) ≡ false
        past v g =
            elim (cases_eq v n) [
              | inl q ↦ and_right (ltb v (n + 2)) (eqb (lows' v) v) (ap (λ (w : ℕ). eqb (lows' w) w) q ∙ new_not)
              | inr nq ↦
                  elim (cases_eq v (suc n)) [
                    | inl q ↦ and_right (ltb v (n + 2)) (eqb (lows' v) v) (ap (λ (w : ℕ). eqb (lows' w) w) q ∙ top_not)
                    | inr nq' ↦ and_left (ltb v (n + 2)) (eqb (lows' v) v) (le-ltb v (n + 2) (omega arith))
                  ]
            ]

    kept_old : kept (λ x. eqb (lows' x) x) (n + 2) ≡ kept (λ x. eqb (lows x) x) n
    kept_old =
        ap (kept (λ x. eqb (lows' x) x)) (sym two)
        ∙ (kept_none (λ x. eqb (lows' x) x) (suc n) top_not
        ∙ (kept_none (λ x. eqb (lows' x) x) n new_not ∙ kept_same (λ x. eqb (lows' x) x) (λ x. eqb (lows x) x) n (λ k l. ap (λ (w : ℕ). eqb w k) (label_old lows n s o k l))))

    -- the rings stand in their order, with n let in after s and suc n before o
    pub split_rings : rings g (n + 2) ≡ map (let_in (split_after f n s o)) (rings f n)
    split_rings =
        let r' : Ringed g (n + 2) =
        (let d = two_in f g n s p (rings f n) fc ls lp (split_two_in f n s o p ls lo lp ne e) in circles_ringed g (n + 2) d.circles (subst (λ (m : ℕ). Circles g m d.circles) two d.are)) in
        let P : ℕ → Bool = λ x. eqb (lows x) x in
        ringwise g lows' (n + 2) r' (split_bounds f lows lows n s p even ls lp e low inj along) split_low_below split_low_names
        ∙ (ap (map (ring g (n + 2))) kept_old
        ∙ (map_kept (ring g (n + 2)) (λ x. let_in (split_after f n s o) (ring f n x)) P n split_ring
        ∙ (map_map (let_in (split_after f n s o)) (ring f n) (kept P n) ∙ ap (map (let_in (split_after f n s o))) (sym (ringwise f lows n r along below named)))))

  -- in the turns suc n stands where o stood
  abbrev φ : ℕ → ℕ
  φ = fill (suc n) o

  turns_on : (x : ℕ) → x < n → turn g (φ x) ≡ φ (turn f x)
  turns_on x l =
      elim (cases_eq x o) [
        | inl q ↦
            let a : φ x ≡ suc n = cond-true (eqb x o) (suc n) x (eq-eqb x o q) in
            let b : opp x ≡ s = ap opp q ∙ opp_opp s in
            ap (turn g) a
            ∙ (ap g (opp_top n even)
            ∙ (elim (cases_eq p s) [
              | inl j ↦ g_n_same f n s o p ls lo lp ne j ∙ sym (cond-true (eqb (f s) o) (suc n) (f s) (eq-eqb (f s) o (ap f (sym j) ∙ e)))
              | inr nj ↦ g_n_apart f n s o p ls lo lp ne nj ∙ sym (cond-false (eqb (f s) o) (suc n) (f s) (ne_eqb (f s) o (λ i. nj (inj p s lp ls (e ∙ sym i)))))
            ]
            ∙ ap (λ (k : ℕ). φ (f k)) (sym b)))
        | inr nq ↦
            let a : φ x ≡ x = cond-false (eqb x o) (suc n) x (ne_eqb x o nq) in
            let ly = opp_low n x even l in
            let ny : opp x ≡ s → ⊥ = λ i. nq (sym (opp_opp x) ∙ ap opp i) in
            ap (turn g) a
            ∙ elim (cases_eq (opp x) p) [
              | inl j ↦
                  ap g j
                  ∙ (g_p f n s o p ls lo lp ne (λ k. ny (j ∙ k)) ∙ sym (cond-true (eqb (f (opp x)) o) (suc n) (f (opp x)) (eq-eqb (f (opp x)) o (ap f j ∙ e))))
              | inr nj ↦
                  g_else f n s o p ls lo lp ne (opp x) ly ny nj
                  ∙ sym (cond-false (eqb (f (opp x)) o) (suc n) (f (opp x)) (ne_eqb (f (opp x)) o (λ i. nj (inj (opp x) p ly lp (i ∙ sym e)))))
            ]
      ]

  pub split_turns : Ringed (turn f) n → (x : ℕ) → x < n → ring (turn g) (n + 2) (φ x) ≡ map φ (ring (turn f) n x)
  split_turns tr x l =
      let tc = ringed_circles (turn f) n tr in
      let t = picked (turn f) x (rings (turn f) n) tc.round (omega (arith, tc.once x, one_below x n l)) in
      let xs = x ∷ t.loop in
      let few : (k : ℕ) → occ k xs ≤ one_if (ltb k n) = λ k. omega (arith, tc.once k, t.same k) in
      let w : ring (turn f) n x ≡ xs = ring_is (turn f) n x t.loop t.closed few in
      ring_is (turn g) (n + 2) (φ x) (map φ t.loop) (chain_image (turn f) (turn g) φ x x t.loop (λ y h. turns_on y (below_one y n (omega (arith, few y)))) t.closed) (counted xs few)
      ∙ ap (map φ) (sym w)
    where
      counted : (xs : List ℕ) → ((k : ℕ) → occ k xs ≤ one_if (ltb k n)) → (k : ℕ) → occ k (map φ xs) ≤ one_if (ltb k (n + 2))
      counted xs few k =
          let none : occ (suc n) xs ≡ 0 = omega (arith, few (suc n), one_past (suc n) n (omega arith)) in
          elim (cases_eq k (suc n)) [
            | inl q ↦ omega (arith, ap (λ (j : ℕ). occ j (map φ xs)) q, occ_gap (suc n) o xs none, few o, one_most (ltb o n), one_below k (n + 2) (omega arith))
            | inr nq ↦
                elim (cases_eq k o) [
                  | inl q ↦ omega (arith, ap (λ (j : ℕ). occ j (map φ xs)) q, occ_top (suc n) o xs (omega (arith, lo)))
                  | inr nq' ↦
                      elim (cases_lt k n) [
                        | inl l ↦ omega (arith, occ_here (suc n) o k xs none nq nq', few k, one_most (ltb k n), one_below k (n + 2) (omega arith))
                        | inr g ↦ omega (arith, occ_here (suc n) o k xs none nq nq', few k, one_past k n g)
                      ]
                ]
          ]

  -- the turn about the new node
  pub split_turn : ring (turn g) (n + 2) n ≡ n ∷ o ∷ []
  split_turn =
      ring_is (turn g) (n + 2) n (o ∷ []) (ap g (opp_new n even) ∙ g_top f n s o p ls lo lp ne, ap g (opp_opp s) ∙ g_s f n s o p ls lo lp ne)
      (λ k.
      elim (cases_eq k n) [
        | inl q ↦ omega (arith, one_other k o (omega (arith, lo)), one_most (eqb k n), one_below k (n + 2) (omega arith))
        | inr nq ↦
            elim (cases_eq k o) [
              | inl q ↦ omega (arith, one_other k n nq, one_most (eqb k o), one_below k (n + 2) (omega (arith, lo)))
              | inr nq' ↦ omega (arith, one_other k n nq, one_other k o nq')
            ]
      ])
