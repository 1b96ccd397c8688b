-- An arc whose sides are two rings alone goes: it takes the highest number, and is left out.
use Rattle.std.proofs.Common.{◌≡◌, ℕ, suc, ◌+◌, ◌%◌, ◌<◌, eqb, ltb, List, ◌∷◌, map, length, sym, ap, ◌∙◌, inl, inr, arith}
use Rattle.std.proofs.lemmas.Bool.{cases_eq, cases_lt}
use Rattle.std.proofs.lemmas.List.{length-map}
use Rattle.rings.specs.Circles.{one_if, occ, Circles, names, put, ring, rings, meets}
use Rattle.rings.specs.Law.{opp, turn, Closes, Along, Ringed}
use Rattle.rings.specs.Edits.{exchanged}
use Rattle.rings.proofs.Occurs.{below_one, below_more, one_below, one_past, one_most}
use Rattle.rings.proofs.Chains.{picked, chain_from}
use Rattle.rings.proofs.Surgery.{circles_from, names_from}
use Rattle.rings.proofs.Members.{Bypassed, bypass, Dropped, drop_alone}
use Rattle.rings.proofs.Listing.{listed, ring_is}
use Rattle.rings.proofs.Ringed.{ringed_circles, circles_ringed}
use Rattle.rings.proofs.Closed.{within}
use Rattle.rings.proofs.Links.{put_same, put_other}
use Rattle.rings.proofs.Rename.{rename, names_map, chain_map, occ_map}
use Rattle.rings.proofs.Split.{opp_low, opp_new, opp_top}
use Rattle.rings.proofs.Exchange.{exchanged_twice, exchanged_low, exchanged_opp, exchanged_unturned, exchanged_turned, exchanged_last_unturned, exchanged_last_turned}

-- z is the last arc, a the one that goes, and g leads below z + z as f does under the exchanged numbers
module _ (f : ℕ → ℕ) (z a : ℕ) (here : a < suc z) (r : Ringed f (suc (suc (z + z)))) (t : Ringed (turn f) (suc (suc (z + z))))
    (e0 : f (a + a) ≡ a + a) (e1 : f (a + a + 1) ≡ a + a + 1)
    (g : ℕ → ℕ) (is : (k : ℕ) → k < z + z → g k ≡ exchanged a z (f (exchanged a z k))) where
  abbrev m : ℕ
  m = z + z

  abbrev N : ℕ
  N = suc (suc (z + z))

  abbrev σ : ℕ → ℕ
  σ = exchanged a z

  abbrev h : ℕ → ℕ
  h k = σ (f (σ k))

  twice : (k : ℕ) → σ (σ k) ≡ k
  twice k = exchanged_twice a z k

  even : N % 2 ≡ 0
  even = omega arith

  low : (k : ℕ) → k < N → σ k < N
  low k l = exchanged_low a z N even (omega arith) (omega arith) k l

  fc : Circles f N (rings f N)
  fc = ringed_circles f N r

  tc : Circles (turn f) N (rings (turn f) N)
  tc = ringed_circles (turn f) N t

  -- under the exchanged numbers
  hc : Circles h N (map (map σ) (rings f N))
  hc = rename σ twice f h N (rings f N) low (λ k l. ap (λ (y : ℕ). σ (f y)) (twice k)) fc

  uc : Circles (turn h) N (map (map σ) (rings (turn f) N))
  uc =
      rename σ twice (turn f) (turn h) N (rings (turn f) N) low
      (λ k l. ap h (exchanged_opp a z k) ∙ ap (λ (y : ℕ). σ (f y)) (twice (opp k))) tc

  -- the last arc is alone
  h_m : h m ≡ m
  h_m = ap (λ (y : ℕ). σ (f y)) (exchanged_last_unturned a z) ∙ (ap σ e0 ∙ exchanged_unturned a z)

  one_more : suc m ≡ m + 1
  one_more = omega arith

  h_top : h (suc m) ≡ suc m
  h_top = ap (λ (y : ℕ). σ (f (σ y))) one_more ∙ (ap (λ (y : ℕ). σ (f y)) (exchanged_last_turned a z) ∙ (ap σ e1 ∙ (exchanged_turned a z ∙ sym one_more)))

  even_m : m % 2 ≡ 0
  even_m = omega arith

  t_m : turn h m ≡ suc m
  t_m = ap h (opp_new m even_m) ∙ h_top

  turned_top : turn h (suc m) ≡ m
  turned_top = ap h (opp_top m even_m) ∙ h_m

  -- the rings without the last arc's
  first_out : Dropped h (suc m) (map (map σ) (rings f N))
  first_out = drop_alone h (suc m) (map (map σ) (rings f N)) hc h_top

  both_out : Dropped h m first_out.circles
  both_out = drop_alone h m first_out.circles first_out.are h_m

  gc : Circles g m both_out.circles
  gc = circles_from h g m both_out.circles is both_out.are

  pub ringed_less : Ringed g m
  ringed_less = circles_ringed g m both_out.circles gc

  -- two rings fewer
  pub count_less : length (rings f N) ≡ length (rings g m) + 2
  count_less = omega (arith, (listed g m both_out.circles gc).count, both_out.count, first_out.count, length-map (rings f N) (map σ))

  module _ (lab lab' : ℕ → ℕ) (along : (x : ℕ) → x < N → lab (f x) ≡ lab x) (same : (k : ℕ) → k < m → lab' k ≡ lab (σ k)) where
    along_h : (x : ℕ) → x < N → lab (σ (h x)) ≡ lab (σ x)
    along_h x l = ap lab (twice (f (σ x))) ∙ along (σ x) (low x l)

    in_g : (x : ℕ) → x < m → g x < m
    in_g = within g m both_out.circles gc

    -- one label along the rings
    pub along_less : Along g lab' m
    along_less x l = same (g x) (in_g x l) ∙ (ap (λ (y : ℕ). lab (σ y)) (is x l) ∙ (along_h x (omega arith) ∙ sym (same x l)))

    -- what the rings are under: that of the two that went, and those of the others
    pub names_less : (v : ℕ) → occ v (names lab (rings f N)) ≡ one_if (eqb v (lab (a + a + 1))) + (one_if (eqb v (lab (a + a))) + occ v (names lab' (rings g m)))
    names_less v =
        let L : ℕ → ℕ = λ k. lab (σ k) in
        let x = names_map σ twice f lab L (rings f N) fc.round (λ y o. ap lab (twice y)) in
        let y = first_out.label L along_h v in
        let w = both_out.label L (λ k l. along_h k (omega arith)) v in
        let q = names_from h L lab' both_out.circles both_out.are.round (λ k o. same k (below_one k m (omega (arith, both_out.are.once k)))) in
        let u = (listed g m both_out.circles gc).label lab' along_less v in
        let at_top = ap (λ (k : ℕ). one_if (eqb v (lab k))) (ap σ one_more ∙ exchanged_last_turned a z) in
        let at-m = ap (λ (k : ℕ). one_if (eqb v (lab k))) (exchanged_last_unturned a z) in
        omega (arith, ap (occ v) x, y, w, ap (occ v) q, u, at_top, at-m)

  -- the turns without the last arc's
  abbrev w : ℕ → ℕ
  w = put (turn h) m m

  w_else : (k : ℕ) → k < suc m → (k ≡ m → ⊥) → w k ≡ turn h k
  w_else k l ne = put_other (turn h) m m k ne

  around : Bypassed (turn h) w (suc m) (map (map σ) (rings (turn f) N))
  around = bypass (turn h) w (suc m) m (map (map σ) (rings (turn f) N)) uc (omega arith) t_m (put_same (turn h) m m ∙ sym turned_top) w_else

  turn_out : Dropped w m around.circles
  turn_out = drop_alone w m around.circles around.are (put_same (turn h) m m)

  turn_same : (k : ℕ) → k < m → turn g k ≡ w k
  turn_same k l = is (opp k) (opp_low m k even_m l) ∙ sym (w_else k (omega arith) (omega arith))

  vc : Circles (turn g) m turn_out.circles
  vc = circles_from w (turn g) m turn_out.circles turn_same turn_out.are

  pub turned_less : Ringed (turn g) m
  turned_less = circles_ringed (turn g) m turn_out.circles vc

  module _ (node node' : ℕ → ℕ) (closes : Closes f node N) (same : (k : ℕ) → k < m → node' k ≡ node (σ k)) where
    closes_h : (x : ℕ) → x < N → node (σ (turn h x)) ≡ node (σ x)
    closes_h x l = ap node (twice (f (σ (opp x)))) ∙ (ap (λ (y : ℕ). node (f y)) (sym (exchanged_opp a z x)) ∙ closes (σ x) (low x l))

    in_t : (x : ℕ) → x < m → turn g x < m
    in_t = within (turn g) m turn_out.circles vc

    pub closes_less : Closes g node' m
    closes_less x l =
        same (turn g x) (in_t x l)
        ∙ (ap (λ (y : ℕ). node (σ y)) (turn_same x l ∙ w_else x (omega arith) (omega arith)) ∙ (closes_h x (omega arith) ∙ sym (same x l)))

    closes_w : (x : ℕ) → x < suc m → node (σ (w x)) ≡ node (σ x)
    closes_w x l =
        elim (cases_eq x m) [
          | inl e ↦ ap (λ (y : ℕ). node (σ y)) (ap w e ∙ (put_same (turn h) m m ∙ sym e))
          | inr ne ↦ ap (λ (y : ℕ). node (σ y)) (w_else x l ne) ∙ closes_h x (omega arith)
        ]

    -- the nodes of the turns: that of the arc that went, and those of the others
    pub nodes_less : (v : ℕ) → occ v (names node (rings (turn f) N)) ≡ one_if (eqb v (node (a + a))) + occ v (names node' (rings (turn g) m))
    nodes_less v =
        let L : ℕ → ℕ = λ k. node (σ k) in
        let x = names_map σ twice (turn f) node L (rings (turn f) N) tc.round (λ y o. ap node (twice y)) in
        let y = around.label L closes_h v in
        let b = turn_out.label L closes_w v in
        let q = names_from w L node' turn_out.circles turn_out.are.round (λ k o. same k (below_one k m (omega (arith, turn_out.are.once k)))) in
        let u = (listed (turn g) m turn_out.circles vc).label node' closes_less v in
        let at-m = ap (λ (k : ℕ). one_if (eqb v (node k))) (exchanged_last_unturned a z) in
        omega (arith, ap (occ v) x, y, b, ap (occ v) q, u, at-m)

  -- the members of a ring, under the exchanged numbers
  ring_h : (s : ℕ) → s < m → ring h N s ≡ ring g m s
  ring_h s l =
      let p = picked g s both_out.circles gc.round (omega (arith, gc.once s, one_below s m l)) in
      let i : ring g m s ≡ s ∷ p.loop = ring_is g m s p.loop p.closed (λ k. omega (arith, gc.once k, p.same k)) in
      let b : (k : ℕ) → 0 < one_if (eqb k s) + occ k p.loop → k < m = λ k o. below_one k m (omega (arith, gc.once k, p.same k)) in
      let c = chain_from g h s s s p.loop (sym (is s l)) (λ k o. sym (is k (b k (omega arith)))) p.closed in
      ring_is h N s p.loop c (λ k. omega (arith, gc.once k, p.same k, below_more k m, below_more k (suc m))) ∙ sym i

  ring_f : (s : ℕ) → s < N → ring h N (σ s) ≡ map σ (ring f N s)
  ring_f s l =
      let p = picked f s (rings f N) fc.round (omega (arith, fc.once s, one_below s N l)) in
      let i : ring f N s ≡ s ∷ p.loop = ring_is f N s p.loop p.closed (λ k. omega (arith, fc.once k, p.same k)) in
      let c = chain_map σ twice f h s s p.loop (ap (λ (y : ℕ). σ (f y)) (twice s)) (λ x o. ap (λ (y : ℕ). σ (f y)) (twice x)) p.closed in
      ring_is h N (σ s) (map σ p.loop) c
      (λ k.
      let o = occ_map σ twice k (s ∷ p.loop) in
      elim (cases_lt k N) [
        | inl lk ↦ omega (arith, fc.once (σ k), p.same (σ k), o, one_below k N lk, one_most (ltb (σ k) N))
        | inr gk ↦
            elim (cases_lt (σ k) N) [
              | inl ls ↦ absurd (let b = low (σ k) ls in omega (arith, twice k))
              | inr gs ↦ omega (arith, fc.once (σ k), p.same (σ k), o, one_past (σ k) N gs)
            ]
      ])
      ∙ ap (map σ) (sym i)

  pub meets_less : (s u : ℕ) → s < m → meets g m s u ≡ meets f N (σ s) (σ u)
  meets_less s u l =
      ap (λ (c : List ℕ). ltb 0 (occ u c)) (sym (ring_h s l) ∙ (ap (ring h N) (sym (twice s)) ∙ ring_f (σ s) (low s (omega arith))))
      ∙ ap (ltb 0) (occ_map σ twice u (ring f N (σ s)))
