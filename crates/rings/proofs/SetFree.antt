-- An arc is set free: it goes out of the rings of its two sides, which become one, and out of the turns at its ends.
use Rattle.std.proofs.Common.{◌≡◌, ℕ, suc, ◌+◌, ◌%◌, ◌<◌, ◌≤◌, Bool, true, false, cond, ◌&&◌, eqb, ltb, ◌⊎◌, List, [], ◌∷◌, ◌++◌, length, sym, refl, ap, ◌∙◌, subst, inl, inr, arith}
use Rattle.std.proofs.lemmas.Bool.{cases_eq, cases_lt, eq-eqb, ne_eqb, lt-ltb, le-ltb, and_from, and_left, and_right, both_ways, ltb-true}
use Rattle.std.proofs.lemmas.Bool.Decides.{nat_tests}
use Rattle.std.proofs.lemmas.List.{append-nil}
use Rattle.rings.specs.Circles.{one_if, occ, occs, Chain, AllCircles, Circles, first, names, walk, ring, rings, meets}
use Rattle.rings.specs.Edits.{leave}
use Rattle.rings.specs.LetIn.{without}
use Rattle.rings.specs.Law.{opp, turn, Ringed, Closes, Along, Noded, LowAlong, LowNames}
use Rattle.rings.proofs.Occurs.{occ_append, one_same, one_other, one_most, below_one, below_more}
use Rattle.rings.proofs.Chains.{picked, chain_join, chain_label}
use Rattle.rings.proofs.Surgery.{InOne, InTwo, one_or_two, in_two, two_apart, names_from}
use Rattle.rings.proofs.Listing.{listed, pigeon, walk_is, ring_is}
use Rattle.rings.proofs.Ringed.{ringed_circles, circles_ringed}
use Rattle.rings.proofs.Closed.{within, meets_next, meets_self, meets_sym}
use Rattle.rings.proofs.TwoRings.{meets_low, ring_from}
use Rattle.rings.proofs.SideOut.{without_most, without_none, leave_past, leave_else, ringed_out, ring_out}
use Rattle.rings.proofs.Split.{opp_low, opp_opp}
use Rattle.rings.proofs.LowMeets.{low_told}

-- where f led to x, there it leads on, past s and o, each made a ring alone
abbrev pub past : (ℕ → ℕ) → ℕ → ℕ → ℕ → ℕ
past f s o x = cond (eqb x s) (cond (eqb (f o) o) (f s) (f o)) (cond (eqb x o) (cond (eqb (f s) s) (f o) (f s)) x)

module _ (f : ℕ → ℕ) (s o : ℕ) where
  pub past_s_alone : f o ≡ o → past f s o s ≡ f s
  past_s_alone e = grind (arith, nat_tests)

  pub past_s : (f o ≡ o → ⊥) → past f s o s ≡ f o
  past_s e = grind (arith, nat_tests)

  pub past_o_alone : (o ≡ s → ⊥) → f s ≡ s → past f s o o ≡ f o
  past_o_alone ne e = grind (arith, nat_tests)

  pub past_o : (o ≡ s → ⊥) → (f s ≡ s → ⊥) → past f s o o ≡ f s
  past_o ne e = grind (arith, nat_tests)

  pub past_else : (x : ℕ) → (x ≡ s → ⊥) → (x ≡ o → ⊥) → past f s o x ≡ x
  past_else x ns nt = grind (arith, nat_tests)

-- a member that stays
abbrev Stays : (ℕ → ℕ) → (ℕ → ℕ) → (ℕ → ℕ) → ℕ → ℕ → ℕ → Type 0
Stays f h pass s o x = (x ≡ s → ⊥) × (x ≡ o → ⊥) × (h x ≡ pass (f x))

-- a chain through members that stay, which leads past its end
passes : (f h pass : ℕ → ℕ) (s o : ℕ) → ((x : ℕ) → (x ≡ s → ⊥) → (x ≡ o → ⊥) → pass x ≡ x) →
    (p z v : ℕ) (xs : List ℕ) → h p ≡ pass (f p) → ((x : ℕ) → 0 < occ x xs → Stays f h pass s o x) → pass z ≡ v → Chain f p xs z → Chain h p xs v
passes f h pass s o else' p z v [] e st i c = e ∙ (ap pass c ∙ i)
passes f h pass s o else' p z v (x ∷ xs) e st i c =
    let (ns, nt, hx) = st x (omega (arith, one_same x)) in (
      e ∙ (ap pass c.0 ∙ else' x ns nt),
      passes f h pass s o else' x z v xs hx (λ y l. st y (omega arith)) i c.1,
    )

passes_all : (f h pass : ℕ → ℕ) (s o : ℕ) → ((x : ℕ) → (x ≡ s → ⊥) → (x ≡ o → ⊥) → pass x ≡ x) →
    (cs : List (List ℕ)) → ((x : ℕ) → 0 < occs x cs → Stays f h pass s o x) → AllCircles f cs → AllCircles h cs
passes_all f h pass s o else' [] st c = tt
passes_all f h pass s o else' ([] ∷ cs) st c = absurd c.0
passes_all f h pass s o else' ((x ∷ xs) ∷ cs) st c =
    let (ns, nt, hx) = st x (omega (arith, one_same x)) in (
      passes f h pass s o else' x x x xs hx (λ y l. st y (omega arith)) (else' x ns nt) c.0,
      passes_all f h pass s o else' cs (λ y l. st y (omega arith)) c.1,
    )

-- one circle of what is left of two lists
record Joined (f h : ℕ → ℕ) (s o : ℕ) (xs ys : List ℕ) : Type 0 where
  pub head : ℕ
  pub more : List ℕ
  pub closed : Chain h head more head
  pub same : (k : ℕ) → one_if (eqb k head) + occ k more ≡ occ k xs + occ k ys
  pub after : (head ≡ f s) ⊎ (head ≡ f o)
  pub all : head ∷ more ≡ xs ++ ys

module _ (f h pass : ℕ → ℕ) (s o : ℕ) (else' : (x : ℕ) → (x ≡ s → ⊥) → (x ≡ o → ⊥) → pass x ≡ x) where
  -- the members between s and z and those between o and w, where z and w are s and o or o and s
  module _ (z w : ℕ) (ends : (x : ℕ) → (x ≡ s → ⊥) → (x ≡ o → ⊥) → (x ≡ z → ⊥) × (x ≡ w → ⊥))
      (za : f o ≡ w → pass z ≡ f s) (zn : (f o ≡ w → ⊥) → pass z ≡ f o) (wa : f s ≡ z → pass w ≡ f o) (wn : (f s ≡ z → ⊥) → pass w ≡ f s)
      (nb : f s ≡ z → f o ≡ w → ⊥) where
    joined : (xs ys : List ℕ) → ((x : ℕ) → 0 < occ x xs + occ x ys → Stays f h pass s o x) → Chain f s xs z → Chain f o ys w → Joined f h s o xs ys
    joined [] [] st c d = absurd (nb c d)
    joined (x ∷ xs) [] st c d =
        let (ns, nt, hx) = st x (omega (arith, one_same x)) in
        record {
          head = x;
          more = xs;
          closed = passes f h pass s o else' x z x xs hx (λ y l. st y (omega arith)) (za d ∙ c.0) c.1;
          same = λ k. omega arith;
          after = inl (sym c.0);
          all = sym (append-nil (x ∷ xs));
        }
    joined [] (y ∷ ys) st c d =
        let (ns, nt, hy) = st y (omega (arith, one_same y)) in
        record {
          head = y;
          more = ys;
          closed = passes f h pass s o else' y w y ys hy (λ x l. st x (omega arith)) (wa c ∙ d.0) d.1;
          same = λ k. omega arith;
          after = inr (sym d.0);
          all = refl;
        }
    joined (x ∷ xs) (y ∷ ys) st c d =
        let (ns, nt, hx) = st x (omega (arith, one_same x)) in
        let (ms, mt, hy) = st y (omega (arith, one_same y)) in
        record {
          head = x;
          more = xs ++ y ∷ ys;
          closed =
              chain_join h x y x xs ys
              (passes f h pass s o else' x z y xs hx (λ u l. st u (omega arith)) (zn (λ e. (ends y ms mt).1 (sym d.0 ∙ e)) ∙ d.0) c.1)
              (passes f h pass s o else' y w x ys hy (λ u l. st u (omega arith)) (wn (λ e. (ends x ns nt).0 (sym c.0 ∙ e)) ∙ c.0) d.1);
          same = λ k. omega (arith, occ_append k xs (y ∷ ys));
          after = inl (sym c.0);
          all = refl;
        }

  -- a circle without its first member, which leads back to itself
  shorter : (z : ℕ) (xs : List ℕ) → ((x : ℕ) → 0 < occ x xs → Stays f h pass s o x) → pass z ≡ f z → (f z ≡ z → ⊥) → Chain f z xs z →
      (head : ℕ) × (more : List ℕ) × (xs ≡ head ∷ more) × (head ≡ f z) × Chain h head more head
  shorter z [] st e ne c = absurd (ne c)
  shorter z (x ∷ xs) st e ne c =
      let (ns, nt, hx) = st x (omega (arith, one_same x)) in
      (x, xs, refl, sym c.0, passes f h pass s o else' x z x xs hx (λ y l. st y (omega arith)) (e ∙ c.0) c.1)

-- ---- the rings

module _ (f h : ℕ → ℕ) (n s o : ℕ) (r : Ringed f n) (ls : s < n) (lo : o < n) (ne : o ≡ s → ⊥) (apart : meets f n s o ≡ false) (nb : f s ≡ s → f o ≡ o → ⊥)
    (at_s : h s ≡ s) (at_o : h o ≡ o) (at_else : (k : ℕ) → k < n → (k ≡ s → ⊥) → (k ≡ o → ⊥) → h k ≡ past f s o (f k)) where
  fc : Circles f n (rings f n)
  fc = ringed_circles f n r

  t : InTwo f n s o (rings f n)
  t = in_two f n s o (rings f n) fc ls lo (λ e. ne (sym e)) apart

  stays : (x : ℕ) → 0 < occ x t.xs + occ x t.ys + occs x t.rest → Stays f h (past f s o) s o x
  stays x l =
      let ns : x ≡ s → ⊥ = λ e. omega (arith, t.parts.once x, one_most (ltb x n), ap one_if (eq-eqb x s e)) in
      let nt : x ≡ o → ⊥ = λ e. omega (arith, t.parts.once x, one_most (ltb x n), ap one_if (eq-eqb x o e)) in
      (ns, nt, at_else x (below_one x n (omega (arith, t.parts.once x))) ns nt)

  one : Joined f h s o t.xs t.ys
  one =
      joined f h (past f s o) s o (past_else f s o) s o (λ x ns nt. (ns, nt)) (past_s_alone f s o) (past_s f s o) (past_o_alone f s o ne) (past_o f s o ne) nb t.xs t.ys
      (λ x l. stays x (omega arith)) t.a_to_a t.b_to_b

  abbrev freed : List (List ℕ)
  freed = (s ∷ []) ∷ (o ∷ []) ∷ (one.head ∷ one.more) ∷ t.rest

  hc : Circles h n freed
  hc = record {
    round = (at_s, (at_o, (one.closed, passes_all f h (past f s o) s o (past_else f s o) t.rest (λ x l. stays x (omega arith)) t.parts.others)));
    once = λ k. omega (arith, t.parts.once k, one.same k);
  }

  pub ringed_free : Ringed h n
  ringed_free = circles_ringed h n freed hc

  -- the two rings become one, and each side of the arc is one alone
  pub count_free : length (rings h n) ≡ suc (length (rings f n))
  count_free = omega (arith, (listed h n freed hc).count, t.fewer)

  in_order : (x : ℕ) (xs ys : List ℕ) → (y : ℕ) → ring h n y ≡ y ∷ ys → y ∷ ys ≡ x ∷ xs → ring h n x ≡ x ∷ xs
  in_order x xs ys y w e = ap (ring h n) (sym (ap first e)) ∙ (w ∙ e)

  -- the one ring: the sides after s, then the sides after o
  pub one_ring : (x : ℕ) (xs : List ℕ) → walk f n s s ++ walk f n o o ≡ x ∷ xs → ring h n x ≡ x ∷ xs
  one_ring x xs e =
      let ws : walk f n s s ≡ t.xs = walk_is f n s s t.xs t.a_to_a (omega (arith, t.parts.once s, one_same s, one_most (ltb s n))) (pigeon n t.xs (λ k. omega (arith, t.parts.once k))) in
      let wo : walk f n o o ≡ t.ys = walk_is f n o o t.ys t.b_to_b (omega (arith, t.parts.once o, one_same o, one_most (ltb o n))) (pigeon n t.ys (λ k. omega (arith, t.parts.once k))) in
      let a : one.head ∷ one.more ≡ x ∷ xs = one.all ∙ (sym (ap (λ (zs : List ℕ). zs ++ walk f n o o) ws ∙ ap (λ (zs : List ℕ). t.xs ++ zs) wo) ∙ e) in
      in_order x xs one.more one.head (ring_is h n one.head one.more one.closed (λ k. omega (arith, hc.once k))) a

  -- any other ring stays
  pub other_ring : (k : ℕ) → k < n → meets f n s k ≡ false → meets f n o k ≡ false → ring h n k ≡ ring f n k
  other_ring k l ms mo =
      ring_from f h n n k r l (omega arith)
      (λ x m.
      let lx = meets_low f n k x r l m in
      let not : (y : ℕ) → y < n → meets f n y k ≡ false → meets f n k y ≡ true → ⊥ = λ y ly a b. both_ways (meets f n y k) a (meets_sym f n (rings f n) fc y k ly l ∙ b) in
      let on = meets_next f n (rings f n) fc k x l lx ∙ m in
      at_else x lx (λ e. not s ls ms (ap (meets f n k) (sym e) ∙ m)) (λ e. not o lo mo (ap (meets f n k) (sym e) ∙ m))
      ∙ past_else f s o (f x) (λ e. not s ls ms (ap (meets f n k) (sym e) ∙ on)) (λ e. not o lo mo (ap (meets f n k) (sym e) ∙ on)))

  head_stays : Stays f h (past f s o) s o one.head
  head_stays = stays one.head (omega (arith, one.same one.head, one_same one.head))

  -- .. its first side is another than s and o
  pub first_there : (x : ℕ) (xs : List ℕ) → walk f n s s ++ walk f n o o ≡ x ∷ xs → (x < n) × (x ≡ s → ⊥) × (x ≡ o → ⊥)
  first_there x xs e =
      let ws : walk f n s s ≡ t.xs = walk_is f n s s t.xs t.a_to_a (omega (arith, t.parts.once s, one_same s, one_most (ltb s n))) (pigeon n t.xs (λ k. omega (arith, t.parts.once k))) in
      let wo : walk f n o o ≡ t.ys = walk_is f n o o t.ys t.b_to_b (omega (arith, t.parts.once o, one_same o, one_most (ltb o n))) (pigeon n t.ys (λ k. omega (arith, t.parts.once k))) in
      let both : t.xs ++ t.ys ≡ x ∷ xs = sym (ap (λ (zs : List ℕ). zs ++ walk f n o o) ws ∙ ap (λ (zs : List ℕ). t.xs ++ zs) wo) ∙ e in
      let here : 0 < occ x t.xs + occ x t.ys = omega (arith, occ_append x t.xs t.ys, ap (occ x) both, one_same x) in
      let w = stays x (omega arith) in
      (below_one x n (omega (arith, t.parts.once x)), w.0, w.1)

  -- where the ring leads on from a side that stays: to a side that stays, as before or past the arc
  pub record Leads (k : ℕ) : Type 0 where
    pub not_s : h k ≡ s → ⊥
    pub not_o : h k ≡ o → ⊥
    pub to : (h k ≡ f k) ⊎ (((f k ≡ s) ⊎ (f k ≡ o)) × ((h k ≡ f s) ⊎ (h k ≡ f o)))

  pub not_so : f s ≡ o → ⊥
  not_so e = both_ways (meets f n s o) apart (ap (meets f n s) (sym e) ∙ (meets_next f n (rings f n) fc s s ls ls ∙ meets_self f n s))

  pub not_os : f o ≡ s → ⊥
  not_os e = both_ways (meets f n s o) apart (sym (meets_next f n (rings f n) fc s o ls lo) ∙ (ap (meets f n s) e ∙ meets_self f n s))

  onward : (k : ℕ) → ((f k ≡ s) ⊎ (f k ≡ o)) → ((h k ≡ f s) × (f s ≡ s → ⊥)) ⊎ ((h k ≡ f o) × (f o ≡ o → ⊥)) → Leads k
  onward k e (inl (i, m)) = record { not_s = λ w. m (sym i ∙ w); not_o = λ w. not_so (sym i ∙ w); to = inr (e, inl i) }
  onward k e (inr (i, m)) = record { not_s = λ w. not_os (sym i ∙ w); not_o = λ w. m (sym i ∙ w); to = inr (e, inr i) }

  pub leads : (k : ℕ) → k < n → (k ≡ s → ⊥) → (k ≡ o → ⊥) → Leads k
  leads k l ns nt =
      let e = at_else k l ns nt in
      elim (cases_eq (f k) s) [
        | inl i ↦
            let w = e ∙ ap (past f s o) i in
            elim (cases_eq (f o) o) [
              | inl j ↦ onward k (inl i) (inl (w ∙ past_s_alone f s o j, λ u. nb u j))
              | inr nj ↦ onward k (inl i) (inr (w ∙ past_s f s o nj, nj))
            ]
        | inr ni ↦
            elim (cases_eq (f k) o) [
              | inl i ↦
                  let w = e ∙ ap (past f s o) i in
                  elim (cases_eq (f s) s) [
                    | inl j ↦ onward k (inr i) (inr (w ∙ past_o_alone f s o ne j, nb j))
                    | inr nj ↦ onward k (inr i) (inl (w ∙ past_o f s o ne nj, nj))
                  ]
              | inr mi ↦
                  let w = e ∙ past_else f s o (f k) ni mi in
                  record { not_s = λ u. ni (sym w ∙ u); not_o = λ u. mi (sym w ∙ u); to = inl w }
            ]
      ]

  inside : (k : ℕ) → k < n → h k < n
  inside = within h n freed hc

  -- a label along the rings as they were, and one label along the ring that the two become
  pub along_free : (low lab : ℕ → ℕ) (c : ℕ) → Along f low n →
      ((k : ℕ) → k < n → (k ≡ s → ⊥) → (k ≡ o → ⊥) → (f k ≡ s → ⊥) → (f k ≡ o → ⊥) → lab (f k) ≡ lab k) →
      ((k : ℕ) → k < n → (k ≡ s → ⊥) → (k ≡ o → ⊥) → (low k ≡ low s) ⊎ (low k ≡ low o) → lab k ≡ c) → Along h lab n
  along_free low lab c along same in_one x l =
      elim (cases_eq x s) [
        | inl e ↦ ap (λ (y : ℕ). lab (h y)) e ∙ (ap lab at_s ∙ ap lab (sym e))
        | inr ns ↦
            elim (cases_eq x o) [
              | inl e ↦ ap (λ (y : ℕ). lab (h y)) e ∙ (ap lab at_o ∙ ap lab (sym e))
              | inr nt ↦
                  let d = leads x l ns nt in
                  elim d.to [
                    | inl e ↦ ap lab e ∙ same x l ns nt (λ i. d.not_s (e ∙ i)) (λ i. d.not_o (e ∙ i))
                    | inr w ↦
                        let was : (low x ≡ low s) ⊎ (low x ≡ low o) =
                        elim w.0 [ inl e ↦ inl (sym (along x l) ∙ ap low e) | inr e ↦ inr (sym (along x l) ∙ ap low e) ] in
                        let is : (low (h x) ≡ low s) ⊎ (low (h x) ≡ low o) =
                        elim w.1 [ inl e ↦ inl (ap low e ∙ along s ls) | inr e ↦ inr (ap low e ∙ along o lo) ] in
                        in_one (h x) (inside x l) d.not_s d.not_o is ∙ sym (in_one x l ns nt was)
                  ]
            ]
      ]

  -- ---- the lowest sides

  -- no side of another ring tells what s or o tells
  rest_other : (low : ℕ → ℕ) → Along f low n → LowNames f low n → (k : ℕ) → 0 < occs k t.rest → (low k ≡ low s → ⊥) × (low k ≡ low o → ⊥)
  rest_other low along named k l =
      let p = picked f k t.rest t.parts.others l in
      let c = p.label low (λ x m. along x (below_one x n (omega (arith, t.parts.once x)))) (low k) in
      let d = t.label low along (low k) in
      let b = named (low k) in
      let m = one_most (ltb (low k) n && eqb (low (low k)) (low k)) in (
        λ e. omega (arith, c, d, b, m, one_same (low k), ap one_if (eq-eqb (low k) (low s) e)),
        λ e. omega (arith, c, d, b, m, one_same (low k), ap one_if (eq-eqb (low k) (low o) e)),
      )

  -- low' tells what low told, but that the one ring has its own lowest side x, and the arc's sides tell themselves
  module _ (low low' : ℕ → ℕ) (x : ℕ) (along : Along f low n) (named : LowNames f low n) (lx : x < n) (xs : x ≡ s → ⊥) (xo : x ≡ o → ⊥)
      (x_in : (low x ≡ low s) ⊎ (low x ≡ low o)) (is-s : low' s ≡ s) (is-o : low' o ≡ o)
      (is_one : (k : ℕ) → k < n → (k ≡ s → ⊥) → (k ≡ o → ⊥) → (low k ≡ low s) ⊎ (low k ≡ low o) → low' k ≡ x)
      (is-else : (k : ℕ) → k < n → (k ≡ s → ⊥) → (k ≡ o → ⊥) → (low k ≡ low s → ⊥) → (low k ≡ low o → ⊥) → low' k ≡ low k) where
    along_low : Along h low' n
    along_low =
        along_free low low' x along
        (λ k l ns nt ms mt.
        let lk : f k < n = within f n (rings f n) fc k l in
        let e : low (f k) ≡ low k = along k l in
        elim (cases_eq (low k) (low s)) [
          | inl i ↦ is_one (f k) lk ms mt (inl (e ∙ i)) ∙ sym (is_one k l ns nt (inl i))
          | inr ni ↦
              elim (cases_eq (low k) (low o)) [
                | inl i ↦ is_one (f k) lk ms mt (inr (e ∙ i)) ∙ sym (is_one k l ns nt (inr i))
                | inr mi ↦ is-else (f k) lk ms mt (λ i. ni (sym e ∙ i)) (λ i. mi (sym e ∙ i)) ∙ (e ∙ sym (is-else k l ns nt ni mi))
              ]
        ])
        is_one

    pub low_along_free : LowAlong h low' n
    low_along_free = along_low

    abbrev lowest : ℕ → ℕ
    lowest v = one_if (ltb v n && eqb (low v) v)

    abbrev lowest' : ℕ → ℕ
    lowest' v = one_if (ltb v n && eqb (low' v) v)

    lowest_told : (v : ℕ) → lowest v ≤ one_if (eqb (low v) v)
    lowest_told v = one_both (ltb v n) (eqb (low v) v)
      where
        one_both : (a b : Bool) → one_if (a && b) ≤ one_if b
        one_both true b = omega arith
        one_both false b = omega arith

    names_rest : (v : ℕ) → occ v (names low' freed) ≡ one_if (eqb v s) + (one_if (eqb v o) + (one_if (eqb v x) + occ v (names low t.rest)))
    names_rest v =
        let lh : low' one.head ≡ x =
        is_one one.head (below_one one.head n (omega (arith, t.parts.once one.head, one.same one.head, one_same one.head))) head_stays.0 head_stays.1
        (elim one.after [ inl e ↦ inl (ap low e ∙ along s ls) | inr e ↦ inr (ap low e ∙ along o lo) ]) in
        let lr =
        names_from f low low' t.rest t.parts.others
        (λ k l.
        let w = stays k (omega arith) in
        let b = rest_other low along named k l in
        is-else k (below_one k n (omega (arith, t.parts.once k))) w.0 w.1 b.0 b.1) in
        omega (
          arith,
          ap (λ (w : ℕ). one_if (eqb v w)) is-s,
          ap (λ (w : ℕ). one_if (eqb v w)) is-o,
          ap (λ (w : ℕ). one_if (eqb v w)) lh,
          ap (occ v) lr,
        )

    were : (v : ℕ) → one_if (eqb v (low s)) + one_if (eqb v (low o)) + occ v (names low t.rest) ≡ lowest v
    were v = omega (arith, t.label low along v, named v)

    -- what is told of the one ring, or is one of the arc's sides, is told of no other
    told_not : (v : ℕ) → (low v ≡ low s) ⊎ (low v ≡ low o) → occ v (names low t.rest) ≡ 0
    told_not v e =
        elim (cases_eq (low v) v) [
          | inl i ↦
              elim e [
                | inl j ↦ omega (arith, were v, one_most (ltb v n && eqb (low v) v), ap one_if (eq-eqb v (low s) (sym i ∙ j)))
                | inr j ↦ omega (arith, were v, one_most (ltb v n && eqb (low v) v), ap one_if (eq-eqb v (low o) (sym i ∙ j)))
              ]
          | inr ni ↦ omega (arith, were v, lowest_told v, one_other (low v) v ni)
        ]

    told_self : (v : ℕ) → v < n → low' v ≡ v → lowest' v ≡ 1
    told_self v l e = ap one_if (and_from (ltb v n) (eqb (low' v) v) (lt-ltb v n l) (eq-eqb (low' v) v e))

    named_free : (v : ℕ) → one_if (eqb v s) + (one_if (eqb v o) + (one_if (eqb v x) + occ v (names low t.rest))) ≡ lowest' v
    named_free v =
        elim (cases_eq v s) [
          | inl e ↦
              omega (
                arith,
                ap one_if (eq-eqb v s e),
                one_other v o (λ i. ne (sym i ∙ e)),
                one_other v x (λ i. xs (sym i ∙ e)),
                told_not v (inl (ap low e)),
                told_self v (subst (λ (k : ℕ). k < n) (sym e) ls) (ap low' e ∙ (is-s ∙ sym e)),
              )
          | inr ns ↦
              elim (cases_eq v o) [
                | inl e ↦
                    omega (
                      arith,
                      one_other v s ns,
                      ap one_if (eq-eqb v o e),
                      one_other v x (λ i. xo (sym i ∙ e)),
                      told_not v (inr (ap low e)),
                      told_self v (subst (λ (k : ℕ). k < n) (sym e) lo) (ap low' e ∙ (is-o ∙ sym e)),
                    )
                | inr nt ↦
                    elim (cases_eq v x) [
                      | inl e ↦
                          omega (
                            arith,
                            one_other v s ns,
                            one_other v o nt,
                            ap one_if (eq-eqb v x e),
                            told_not v (elim x_in [ inl i ↦ inl (ap low e ∙ i) | inr i ↦ inr (ap low e ∙ i) ]),
                            told_self v (subst (λ (k : ℕ). k < n) (sym e) lx) (ap low' e ∙ (is_one x lx xs xo x_in ∙ sym e)),
                          )
                      | inr nx ↦ omega (arith, one_other v s ns, one_other v o nt, one_other v x nx, other v ns nt nx)
                    ]
              ]
        ]
      where
        in_ring : (v : ℕ) → v < n → (v ≡ s → ⊥) → (v ≡ o → ⊥) → (v ≡ x → ⊥) → (low v ≡ low s) ⊎ (low v ≡ low o) → occ v (names low t.rest) ≡ lowest' v
        in_ring v l ns nt nx e =
            omega (arith, told_not v e, ap one_if (and_right (ltb v n) (eqb (low' v) v) (ne_eqb (low' v) v (λ i. nx (sym i ∙ is_one v l ns nt e)))))

        other : (v : ℕ) → (v ≡ s → ⊥) → (v ≡ o → ⊥) → (v ≡ x → ⊥) → occ v (names low t.rest) ≡ lowest' v
        other v ns nt nx =
            elim (cases_lt v n) [
              | inr g ↦
                  omega (
                    arith,
                    were v,
                    ap one_if (and_left (ltb v n) (eqb (low v) v) (le-ltb v n g)),
                    ap one_if (and_left (ltb v n) (eqb (low' v) v) (le-ltb v n g)),
                  )
              | inl l ↦
                  elim (cases_eq (low v) (low s)) [
                    | inl e ↦ in_ring v l ns nt nx (inl e)
                    | inr ms ↦
                        elim (cases_eq (low v) (low o)) [
                          | inl e ↦ in_ring v l ns nt nx (inr e)
                          | inr mt ↦
                              omega (
                                arith,
                                were v,
                                one_other v (low s) (λ i. ms (ap low i ∙ (low_told f low n r along named s ls).1)),
                                one_other v (low o) (λ i. mt (ap low i ∙ (low_told f low n r along named o lo).1)),
                                ap (λ (w : ℕ). one_if (ltb v n && eqb w v)) (is-else v l ns nt ms mt),
                              )
                        ]
                  ]
            ]

    pub low_names_free : LowNames h low' n
    low_names_free v = (listed h n freed hc).label low' along_low v ∙ (names_rest v ∙ named_free v)

  -- ---- the turns

  module _ (even : n % 2 ≡ 0) (opp-s : opp s ≡ o) (opp-o : opp o ≡ s) (tr : Ringed (turn f) n) where
    tc : Circles (turn f) n (rings (turn f) n)
    tc = ringed_circles (turn f) n tr

    turn_s : turn f s ≡ f o
    turn_s = ap f opp-s

    turn_o : turn f o ≡ f s
    turn_o = ap f opp-o

    free_s : turn h s ≡ o
    free_s = ap h opp-s ∙ at_o

    free_o : turn h o ≡ s
    free_o = ap h opp-o ∙ at_s

    free_else : (k : ℕ) → k < n → (k ≡ s → ⊥) → (k ≡ o → ⊥) → turn h k ≡ past f s o (turn f k)
    free_else k l ns nt = at_else (opp k) (opp_low n k even l) (λ e. nt (sym (opp_opp k) ∙ (ap opp e ∙ opp-s))) (λ e. ns (sym (opp_opp k) ∙ (ap opp e ∙ opp-o)))

    record Turns : Type 0 where
      pub circles : List (List ℕ)
      pub are : Circles (turn h) n circles
      pub label : (node lab : ℕ → ℕ) → Closes f node n → ((k : ℕ) → k < n → (k ≡ s → ⊥) → (k ≡ o → ⊥) → lab k ≡ node k) →
          (v : ℕ) → occ v (names lab circles) ≡ one_if (eqb v (lab s)) + occ v (names node (rings (turn f) n))

    turns_one : InOne (turn f) n s o (rings (turn f) n) → Turns
    turns_one u =
        let st : (x : ℕ) → 0 < occ x u.xs + occ x u.ys + occs x u.rest → Stays (turn f) (turn h) (past f s o) s o x = λ x l.
        let ns : x ≡ s → ⊥ = λ e. omega (arith, u.parts.once x, one_most (ltb x n), ap one_if (eq-eqb x s e)) in
        let nt : x ≡ o → ⊥ = λ e. omega (arith, u.parts.once x, one_most (ltb x n), ap one_if (eq-eqb x o e)) in
        (ns, nt, free_else x (below_one x n (omega (arith, u.parts.once x))) ns nt) in
        let j =
        joined (turn f) (turn h) (past f s o) s o (past_else f s o) o s (λ x ns nt. (nt, ns))
        (λ e. past_o_alone f s o ne (sym turn_o ∙ e) ∙ sym turn_s) (λ e. past_o f s o ne (λ i. e (turn_o ∙ i)) ∙ sym turn_o)
        (λ e. past_s_alone f s o (sym turn_s ∙ e) ∙ sym turn_o) (λ e. past_s f s o (λ i. e (turn_s ∙ i)) ∙ sym turn_s)
        (λ e i. nb (sym turn_o ∙ i) (sym turn_s ∙ e)) u.ys u.xs (λ x l. st x (omega arith)) u.a_to_b u.b_to_a in
        record {
          circles = (s ∷ o ∷ []) ∷ (j.head ∷ j.more) ∷ u.rest;
          are = record {
            round = ((free_s, free_o), (j.closed, passes_all (turn f) (turn h) (past f s o) s o (past_else f s o) u.rest (λ x l. st x (omega arith)) u.parts.others));
            once = λ k. omega (arith, u.parts.once k, j.same k);
          };
          label = λ node lab closes same v.
              let lr = ap (occ v) (names_from (turn f) node lab u.rest u.parts.others (λ x l. let w = st x (omega arith) in same x (below_one x n (omega (arith, u.parts.once x))) w.0 w.1)) in
              let hs = st j.head (omega (arith, j.same j.head, one_same j.head)) in
              let lh : lab j.head ≡ node s =
              same j.head (below_one j.head n (omega (arith, u.parts.once j.head, j.same j.head, one_same j.head))) hs.0 hs.1
              ∙ (elim j.after [
                | inl e ↦ ap node e ∙ closes s ls
                | inr e ↦ ap node e ∙ (closes o lo ∙ sym (one_node node closes u))
              ]) in
              omega (arith, lr, u.label node closes v, ap (λ (w : ℕ). one_if (eqb v w)) lh);
        }
      where
        one_node : (node : ℕ → ℕ) → Closes f node n → InOne (turn f) n s o (rings (turn f) n) → node s ≡ node o
        one_node node closes u = sym (chain_label (turn f) node s o u.ys (closes s ls) (λ x l. closes x (below_one x n (omega (arith, u.parts.once x)))) u.a_to_b)

    turns_two : InTwo (turn f) n s o (rings (turn f) n) → Turns
    turns_two u =
        let st : (x : ℕ) → 0 < occ x u.xs + occ x u.ys + occs x u.rest → Stays (turn f) (turn h) (past f s o) s o x = λ x l.
        let ns : x ≡ s → ⊥ = λ e. omega (arith, u.parts.once x, one_most (ltb x n), ap one_if (eq-eqb x s e)) in
        let nt : x ≡ o → ⊥ = λ e. omega (arith, u.parts.once x, one_most (ltb x n), ap one_if (eq-eqb x o e)) in
        (ns, nt, free_else x (below_one x n (omega (arith, u.parts.once x))) ns nt) in
        let ap' = two_apart (turn f) n s o (rings (turn f) n) u in
        let so : turn f s ≡ o → ⊥ = λ e. both_ways (meets (turn f) n s o) ap' (ap (meets (turn f) n s) (sym e) ∙ (meets_next (turn f) n (rings (turn f) n) tc s s ls ls ∙ meets_self (turn f) n s)) in
        let os : turn f o ≡ s → ⊥ = λ e. both_ways (meets (turn f) n s o) ap' (sym (meets_next (turn f) n (rings (turn f) n) tc s o ls lo) ∙ (ap (meets (turn f) n s) e ∙ meets_self (turn f) n s)) in
        let x = shorter (turn f) (turn h) (past f s o) s o (past_else f s o) s u.xs (λ x l. st x (omega arith)) (past_s f s o (λ i. so (turn_s ∙ i)) ∙ sym turn_s) (λ e. not_os (sym turn_s ∙ e)) u.a_to_a in
        let y = shorter (turn f) (turn h) (past f s o) s o (past_else f s o) o u.ys (λ x l. st x (omega arith)) (past_o f s o ne (λ i. os (turn_o ∙ i)) ∙ sym turn_o) (λ e. not_so (sym turn_o ∙ e)) u.b_to_b in
        record {
          circles = (s ∷ o ∷ []) ∷ (x.0 ∷ x.1) ∷ (y.0 ∷ y.1) ∷ u.rest;
          are = record {
            round = ((free_s, free_o), (x.4, (y.4, passes_all (turn f) (turn h) (past f s o) s o (past_else f s o) u.rest (λ x l. st x (omega arith)) u.parts.others)));
            once = λ k. omega (arith, u.parts.once k, ap (occ k) x.2, ap (occ k) y.2);
          };
          label = λ node lab closes same v.
              let low : (k : ℕ) → 0 < occ k u.xs + occ k u.ys + occs k u.rest → lab k ≡ node k = λ k l. let w = st k l in same k (below_one k n (omega (arith, u.parts.once k))) w.0 w.1 in
              let lr = ap (occ v) (names_from (turn f) node lab u.rest u.parts.others (λ k l. low k (omega arith))) in
              let lx : lab x.0 ≡ node s = low x.0 (omega (arith, ap (occ x.0) x.2, one_same x.0)) ∙ (ap node x.3 ∙ closes s ls) in
              let ly : lab y.0 ≡ node o = low y.0 (omega (arith, ap (occ y.0) y.2, one_same y.0)) ∙ (ap node y.3 ∙ closes o lo) in
              omega (arith, lr, u.label node closes v, ap (λ (w : ℕ). one_if (eqb v w)) lx, ap (λ (w : ℕ). one_if (eqb v w)) ly);
        }

    turns : Turns
    turns = elim (one_or_two (turn f) n s o (rings (turn f) n) tc ls lo (λ e. ne (sym e))) [ inl u ↦ turns_one u | inr u ↦ turns_two u ]

    pub turned_free : Ringed (turn h) n
    turned_free = circles_ringed (turn h) n turns.circles turns.are

    -- the turns but for the arc's sides: each passes them by
    abbrev t₁ : ℕ → ℕ
    t₁ = leave (turn f) s

    abbrev t₂ : ℕ → ℕ
    t₂ = leave t₁ o

    s_on : turn f s ≡ s → ⊥
    s_on e = not_os (sym turn_s ∙ e)

    o_on : t₁ o ≡ o → ⊥
    o_on e =
        elim (cases_eq (turn f o) s) [
          | inl i ↦ nb (sym turn_o ∙ i) (sym turn_s ∙ (sym (leave_past (turn f) s o ne i) ∙ e))
          | inr ni ↦ not_so (sym turn_o ∙ (sym (leave_else (turn f) s o ne ni) ∙ e))
        ]

    passed_by : (x : ℕ) → x < n → (x ≡ s → ⊥) → (x ≡ o → ⊥) → turn h x ≡ t₂ x
    passed_by x l ns nt =
        let e = free_else x l ns nt in
        let at_o : t₁ o ≡ past f s o o =
        elim (cases_eq (f s) s) [
          | inl i ↦ leave_past (turn f) s o ne (turn_o ∙ i) ∙ (turn_s ∙ sym (past_o_alone f s o ne i))
          | inr ni ↦ leave_else (turn f) s o ne (λ i. ni (sym turn_o ∙ i)) ∙ (turn_o ∙ sym (past_o f s o ne ni))
        ] in
        elim (cases_eq (turn f x) s) [
          | inl i ↦
              let w = leave_past (turn f) s x ns i ∙ turn_s in
              elim (cases_eq (f o) o) [
                | inl j ↦
                    e ∙ (ap (past f s o) i ∙ (past_s_alone f s o j
                    ∙ sym (leave_past t₁ o x nt (w ∙ j) ∙ (leave_else (turn f) s o ne (λ k. nb (sym turn_o ∙ k) j) ∙ turn_o))))
                | inr nj ↦ e ∙ (ap (past f s o) i ∙ (past_s f s o nj ∙ sym (leave_else t₁ o x nt (λ k. nj (sym w ∙ k)) ∙ w)))
              ]
          | inr ni ↦
              let w = leave_else (turn f) s x ns ni in
              elim (cases_eq (turn f x) o) [
                | inl j ↦ e ∙ (ap (past f s o) j ∙ sym (leave_past t₁ o x nt (w ∙ j) ∙ at_o))
                | inr nj ↦ e ∙ (past_else f s o (turn f x) ni nj ∙ sym (leave_else t₁ o x nt (λ k. nj (sym w ∙ k)) ∙ w))
              ]
        ]

    pub turn_free : (k : ℕ) → k < n → (k ≡ s → ⊥) → (k ≡ o → ⊥) → ring (turn h) n k ≡ without o (without s (ring (turn f) n k))
    turn_free k l ns nt =
        let r₁ = ringed_out (turn f) t₁ n s tr ls s_on (λ j _. refl) in
        let r₂ = ringed_out t₁ t₂ n o r₁ lo o_on (λ j _. refl) in
        let w = ring_out t₁ t₂ n o r₁ lo o_on (λ j _. refl) k l nt ∙ ap (without o) (ring_out (turn f) t₁ n s tr ls s_on (λ j _. refl) k l ns) in
        let xs = ring (turn f) n k in
        ring_from t₂ (turn h) n n k r₂ l (omega arith)
        (λ x m.
        let b = ltb-true 0 (occ x (ring t₂ n k)) m in
        passed_by x (meets_low t₂ n k x r₂ l m) (λ e. omega (arith, b, ap (occ x) w, without_most o x (without s xs), ap (λ (j : ℕ). occ j (without s xs)) e, without_none s xs))
        (λ e. omega (arith, b, ap (occ x) w, ap (λ (j : ℕ). occ j (without o (without s xs))) e, without_none o (without s xs))))
        ∙ w

    -- the arc has a node of its own, the other sides keep theirs
    module _ (node lab : ℕ → ℕ) (closes : Closes f node n) (own : lab o ≡ lab s) (same : (k : ℕ) → k < n → (k ≡ s → ⊥) → (k ≡ o → ⊥) → lab k ≡ node k) where
      at_turn : (k : ℕ) → k < n → (k ≡ s → ⊥) → (k ≡ o → ⊥) → lab (turn h k) ≡ lab k
      at_turn k l ns nt =
          let j = opp k in
          let lj : j < n = opp_low n k even l in
          let js : j ≡ s → ⊥ = λ e. nt (sym (opp_opp k) ∙ (ap opp e ∙ opp-s)) in
          let jt : j ≡ o → ⊥ = λ e. ns (sym (opp_opp k) ∙ (ap opp e ∙ opp-o)) in
          let d = leads j lj js jt in
          same (h j) (inside j lj) d.not_s d.not_o
          ∙ (met k l ns nt ∙ sym (same k l ns nt))
        where
          met : (k : ℕ) → k < n → (k ≡ s → ⊥) → (k ≡ o → ⊥) → node (turn h k) ≡ node k
          met k l ns nt =
              let e = free_else k l ns nt in
              elim (cases_eq (turn f k) s) [
                | inl i ↦
                    let b = sym (ap node i) ∙ closes k l in
                    elim (cases_eq (f o) o) [
                      | inl j ↦ ap node (e ∙ (ap (past f s o) i ∙ (past_s_alone f s o j ∙ sym turn_o))) ∙ (closes o lo ∙ (ap node (sym j) ∙ (ap node (sym turn_s) ∙ (closes s ls ∙ b))))
                      | inr nj ↦ ap node (e ∙ (ap (past f s o) i ∙ (past_s f s o nj ∙ sym turn_s))) ∙ (closes s ls ∙ b)
                    ]
                | inr ni ↦
                    elim (cases_eq (turn f k) o) [
                      | inl i ↦
                          let b = sym (ap node i) ∙ closes k l in
                          elim (cases_eq (f s) s) [
                            | inl j ↦ ap node (e ∙ (ap (past f s o) i ∙ (past_o_alone f s o ne j ∙ sym turn_s))) ∙ (closes s ls ∙ (ap node (sym j) ∙ (ap node (sym turn_o) ∙ (closes o lo ∙ b))))
                            | inr nj ↦ ap node (e ∙ (ap (past f s o) i ∙ (past_o f s o ne nj ∙ sym turn_o))) ∙ (closes o lo ∙ b)
                          ]
                      | inr mi ↦ ap node (e ∙ past_else f s o (turn f k) ni mi) ∙ closes k l
                    ]
              ]

      pub closes_free : Closes h lab n
      closes_free k l =
          elim (cases_eq k s) [
            | inl e ↦ ap (λ (y : ℕ). lab (turn h y)) e ∙ (ap lab free_s ∙ (own ∙ ap lab (sym e)))
            | inr ns ↦
                elim (cases_eq k o) [
                  | inl e ↦ ap (λ (y : ℕ). lab (turn h y)) e ∙ (ap lab free_o ∙ (sym own ∙ ap lab (sym e)))
                  | inr nt ↦ at_turn k l ns nt
                ]
          ]

      pub noded_free : (nodes : ℕ) → Noded f node n nodes → lab s ≡ nodes → Noded h lab n (nodes + 1)
      noded_free nodes noded new v =
          let x = (listed (turn h) n turns.circles turns.are).label lab closes_free v in
          let y = turns.label node lab closes same v in
          let more : nodes + 1 ≡ suc nodes = omega arith in
          omega (arith, x, y, noded v, ap (λ (w : ℕ). one_if (eqb v w)) new, below_more v nodes, ap (λ (w : ℕ). one_if (ltb v w)) more)
