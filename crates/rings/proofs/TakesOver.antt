-- Where just two ends of two arcs meet, one arc goes on in place of the other: the sides s and t begin at the node, and the other arc's, t and its
-- opposite, leave their rings. In the turns s takes the place of the opposite of t.
use Rattle.std.proofs.Common.{◌≡◌, ℕ, suc, ◌+◌, ◌%◌, ◌<◌, eqb, cond, map, length, sym, refl, ap, ◌∙◌, inl, inr, arith}
use Rattle.std.proofs.lemmas.Bool.{cases_eq, cond-true, cond-false, eq-eqb, ne_eqb}
use Rattle.rings.specs.Circles.{one_if, occ, Circles, names, ring, rings}
use Rattle.rings.specs.Law.{opp, turn, Ringed, Closes, Along, Noded}
use Rattle.rings.specs.Edits.{leave, swapped}
use Rattle.rings.specs.LetIn.{without}
use Rattle.rings.proofs.Occurs.{below_one}
use Rattle.rings.proofs.Listing.{listed}
use Rattle.rings.proofs.Ringed.{ringed_circles, circles_ringed}
use Rattle.rings.proofs.Closed.{within, one_image}
use Rattle.rings.proofs.Split.{opp_low, opp_opp}
use Rattle.rings.proofs.Rename.{rename, names_map}
use Rattle.rings.proofs.Exchange.{swapped_twice, swapped_low, swapped_first, swapped_second, swapped_else}
use Rattle.rings.proofs.SideOut.{leave_at, leave_past, leave_else, ringed_out, count_out, along_out, names_out, ring_out}

module _ (f h : ℕ → ℕ) (n s t : ℕ) (even : n % 2 ≡ 0) (r : Ringed f n) (r' : Ringed (turn f) n) (ls : s < n) (lt : t < n) (ts : t ≡ s → ⊥) (to : t ≡ opp s → ⊥)
    (to_t : f (opp s) ≡ t) (to_s : f (opp t) ≡ s) (is : (k : ℕ) → k < n → h k ≡ leave (leave f (opp t)) t k) where
  abbrev u : ℕ
  u = opp t

  abbrev o : ℕ
  o = opp s

  -- without the far end
  abbrev f₁ : ℕ → ℕ
  f₁ = leave f u

  fc : Circles f n (rings f n)
  fc = ringed_circles f n r

  lu : u < n
  lu = opp_low n t even lt

  lo : o < n
  lo = opp_low n s even ls

  us : u ≡ s → ⊥
  us e = to (sym (opp_opp t) ∙ ap opp e)

  ut : u ≡ t → ⊥
  ut e = omega arith

  ou : o ≡ u → ⊥
  ou e = ts (sym (opp_opp t) ∙ (ap opp (sym e) ∙ opp_opp s))

  one : (a b : ℕ) → a < n → b < n → f a ≡ f b → a ≡ b
  one = one_image f n (rings f n) fc

  -- t leads on to another side
  tt' : f t ≡ t → ⊥
  tt' e = to (one t o lt lo (e ∙ sym to_t))

  uu : f u ≡ u → ⊥
  uu e = us (sym e ∙ to_s)

  t_on : f₁ t ≡ t → ⊥
  t_on e =
      elim (cases_eq (f t) u) [
        | inl i ↦ ts (sym e ∙ (leave_past f u t (λ j. ut (sym j)) i ∙ to_s))
        | inr ni ↦ tt' (sym (leave_else f u t (λ j. ut (sym j)) ni) ∙ e)
      ]

  r₁ : Ringed f₁ n
  r₁ = ringed_out f f₁ n u r lu uu (λ k l. refl)

  pub ringed_over : Ringed h n
  ringed_over = ringed_out f₁ h n t r₁ lt t_on is

  -- both sides of the arc are rings alone
  pub count_over : length (rings h n) ≡ suc (suc (length (rings f n)))
  count_over = count_out f₁ h n t r₁ lt t_on is ∙ ap suc (count_out f f₁ n u r lu uu (λ k l. refl))

  pub over_t : h t ≡ t
  over_t = is t lt ∙ leave_at f₁ t

  pub over_u : h u ≡ u
  over_u = is u lu ∙ (leave_else f₁ t u ut (λ e. ut (sym (leave_at f u) ∙ e)) ∙ leave_at f u)

  -- the side before t leads where t led, the one before the far end to s, and the others where they led
  pub over_o : h o ≡ leave f u t
  over_o = is o lo ∙ leave_past f₁ t o (λ i. to (sym i)) (leave_else f u o ou (λ i. ut (sym i ∙ to_t)) ∙ to_t)

  pub over_else : (k : ℕ) → k < n → (k ≡ t → ⊥) → (k ≡ u → ⊥) → (k ≡ o → ⊥) → h k ≡ leave f u k
  over_else k l nt nu no-o =
      is k l
      ∙ leave_else f₁ t k nt
      (λ e.
      elim (cases_eq (f k) u) [
        | inl i ↦ ts (sym e ∙ (leave_past f u k nu i ∙ to_s))
        | inr ni ↦ no-o (one k o l lo (sym (leave_else f u k nu ni) ∙ (e ∙ sym to_t)))
      ])

  -- a label along the rings, that the two sides may have told otherwise
  module _ (lab lab' : ℕ → ℕ) (along : Along f lab n) (same : (k : ℕ) → k < n → (k ≡ t → ⊥) → (k ≡ u → ⊥) → lab' k ≡ lab k) where
    -- told so by the far end alone
    abbrev lab₁ : ℕ → ℕ
    lab₁ k = cond (eqb k t) (lab t) (lab' k)

    same₁ : (k : ℕ) → k < n → (k ≡ u → ⊥) → lab₁ k ≡ lab k
    same₁ k l nu =
        elim (cases_eq k t) [
          | inl e ↦ cond-true (eqb k t) (lab t) (lab' k) (eq-eqb k t e) ∙ ap lab (sym e)
          | inr ne ↦ cond-false (eqb k t) (lab t) (lab' k) (ne_eqb k t ne) ∙ same k l ne nu
        ]

    same₂ : (k : ℕ) → k < n → (k ≡ t → ⊥) → lab' k ≡ lab₁ k
    same₂ k l ne = sym (cond-false (eqb k t) (lab t) (lab' k) (ne_eqb k t ne))

    along₁ : Along f₁ lab₁ n
    along₁ = along_out f f₁ n u r lu uu (λ k l. refl) lab lab₁ along same₁

    pub along_over : Along h lab' n
    along_over = along_out f₁ h n t r₁ lt t_on is lab₁ lab' along₁ same₂

    pub names_over : (v : ℕ) → occ v (names lab' (rings h n)) ≡ one_if (eqb v (lab' t)) + (one_if (eqb v (lab' u)) + occ v (names lab (rings f n)))
    names_over v =
        let a = names_out f₁ h n t r₁ lt t_on is lab₁ lab' along₁ same₂ v in
        let b = names_out f f₁ n u r lu uu (λ k l. refl) lab lab₁ along same₁ v in
        omega (arith, a, b, ap (λ (y : ℕ). one_if (eqb v y)) (sym (same₂ u lu ut)))

  -- the ring of another side, without the two
  pub ring_over : (k : ℕ) → k < n → (k ≡ t → ⊥) → (k ≡ u → ⊥) → ring h n k ≡ without t (without u (ring f n k))
  ring_over k l nt nu = ring_out f₁ h n t r₁ lt t_on is k l nt ∙ ap (without t) (ring_out f f₁ n u r lu uu (λ k l. refl) k l nu)

  -- ---- the turns

  abbrev ρ : ℕ → ℕ
  ρ = swapped s u

  pub ρ_low : (k : ℕ) → k < n → ρ k < n
  ρ_low k l = swapped_low s u k n ls lu l

  pub ρ_twice : (k : ℕ) → ρ (ρ k) ≡ k
  ρ_twice k = swapped_twice s u k

  ρ_at : (k y : ℕ) → ρ k ≡ y → turn f (ρ k) ≡ turn f y
  ρ_at k y e = ap (turn f) e

  -- the opposite of k is t, u or the opposite of s, or leads to u, or leads on as it did
  turn_of : (k : ℕ) → k < n → turn h k ≡ ρ (turn f (ρ k))
  turn_of k l =
      let y = opp k in
      let ly = opp_low n k even l in
      let by : (x : ℕ) → k ≡ x → opp k ≡ opp x = λ x e. ap opp e in
      elim (cases_eq k u) [
        | inl e ↦
            ap h (ap opp e ∙ opp_opp t) ∙ (over_t ∙ sym (ap (λ (x : ℕ). ρ (turn f x)) (ap ρ e ∙ swapped_second s u) ∙ (ap ρ to_t ∙ swapped_else s u t ts (λ i. ut (sym i)))))
        | inr nu ↦
            elim (cases_eq k t) [
              | inl e ↦
                  ap h (ap opp e)
                  ∙ (over_u
                  ∙ sym (ap (λ (x : ℕ). ρ (turn f x)) (ap ρ e ∙ swapped_else s u t ts (λ i. ut (sym i))) ∙ (ap ρ to_s ∙ swapped_first s u)))
              | inr nt ↦
                  let yt : y ≡ t → ⊥ = λ e. nu (sym (opp_opp k) ∙ ap opp e) in
                  let yu : y ≡ u → ⊥ = λ e. nt (sym (opp_opp k) ∙ (ap opp e ∙ opp_opp t)) in
                  elim (cases_eq k s) [
                    | inl e ↦
                        let w = ap h (ap opp e) ∙ over_o in
                        let v = ap (λ (x : ℕ). ρ (turn f x)) (ap ρ e ∙ swapped_first s u) ∙ ap (λ (x : ℕ). ρ (f x)) (opp_opp t) in
                        elim (cases_eq (f t) u) [
                          | inl i ↦ w ∙ (leave_past f u t (λ j. ut (sym j)) i ∙ (to_s ∙ sym (v ∙ (ap ρ i ∙ swapped_second s u))))
                          | inr ni ↦
                              w
                              ∙ (leave_else f u t (λ j. ut (sym j)) ni
                              ∙ sym (v ∙ swapped_else s u (f t) (λ i. ut (sym (one t u lt lu (i ∙ sym to_s)))) ni))
                        ]
                    | inr ns ↦
                        let v = ap (λ (x : ℕ). ρ (turn f x)) (swapped_else s u k ns nu) in
                        let yo : y ≡ o → ⊥ = λ e. ns (sym (opp_opp k) ∙ (ap opp e ∙ opp_opp s)) in
                        elim (cases_eq (f y) u) [
                          | inl i ↦ over_else y ly yt yu yo ∙ (leave_past f u y yu i ∙ (to_s ∙ sym (v ∙ (ap ρ i ∙ swapped_second s u))))
                          | inr ni ↦ over_else y ly yt yu yo ∙ (leave_else f u y yu ni ∙ sym (v ∙ swapped_else s u (f y) (λ j. yu (one y u ly lu (j ∙ sym to_s))) ni))
                        ]
                  ]
            ]
      ]

  pub turn_over : (k : ℕ) → k < n → turn f (ρ k) ≡ ρ (turn h k)
  turn_over k l = sym (ap ρ (turn_of k l) ∙ ρ_twice (turn f (ρ k)))

  renamed : Circles (turn h) n (map (map ρ) (rings (turn f) n))
  renamed =
      rename ρ ρ_twice (turn f) (turn h) n (rings (turn f) n) ρ_low
      (λ k l. turn_of (ρ k) (ρ_low k l) ∙ ap (λ (x : ℕ). ρ (turn f x)) (ρ_twice k))
      (ringed_circles (turn f) n r')

  pub turned_over : Ringed (turn h) n
  turned_over = circles_ringed (turn h) n (map (map ρ) (rings (turn f) n)) renamed

  module _ (node node' : ℕ → ℕ) (nodes : ℕ) (closes : Closes f node n) (same : (k : ℕ) → k < n → node' k ≡ node (ρ k)) where
    pub closes_over : Closes h node' n
    closes_over k l =
        same (turn h k) (within (turn h) n (map (map ρ) (rings (turn f) n)) renamed k l)
        ∙ (ap node (sym (turn_over k l)) ∙ (closes (ρ k) (ρ_low k l) ∙ sym (same k l)))

    pub noded_over : Noded f node n nodes → Noded h node' n nodes
    noded_over d v =
        let a = (listed (turn h) n (map (map ρ) (rings (turn f) n)) renamed).label node' closes_over v in
        let b = names_map ρ ρ_twice (turn f) node node' (rings (turn f) n) (ringed_circles (turn f) n r').round
        (λ x m.
        let lx = below_one x n (omega (arith, (ringed_circles (turn f) n r').once x)) in
        same (ρ x) (ρ_low x lx) ∙ ap node (ρ_twice x)) in
        a ∙ (ap (occ v) b ∙ d v)
