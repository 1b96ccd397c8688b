-- Where each member tells the lowest of its circle, the circles start at the members that tell themselves.
use Rattle.std.proofs.Common.{◌≡◌, ℕ, zero, suc, ◌+◌, ◌-◌, ◌<◌, ◌≤◌, Bool, true, false, cond, ◌&&◌, eqb, ltb, List, [], ◌∷◌, ◌++◌, length, get_or, sym, refl, ap, ◌∙◌, subst, inl, inr, arith}
use Rattle.std.proofs.lemmas.Bool.{cases_eq, cases_lt, ltb-true, eqb-true, lt-ltb, le-ltb, and_parts, and_left, cond_both}
use Rattle.std.proofs.lemmas.List.{length-append, append-nil, get_or_append_left, get_or-append_right}
use Rattle.rings.specs.Circles.{one_if, occ, occs, AllCircles, first, names, ring, rings, Lowest, Rising, starts, kept}
use Rattle.rings.specs.Law.{Ringed, LowAlong, LowBelow, LowNames}
use Rattle.rings.proofs.Occurs.{occ_append, one_same, one_other, one_most, below_one, one_true}
use Rattle.rings.proofs.Ringed.{ringed_circles}
use Rattle.rings.proofs.Listing.{ring_is}
use Rattle.rings.proofs.Closed.{same_circle}
use Rattle.rings.proofs.Words.{rings_order}

-- ---- what is kept

one_kept : (k : ℕ) (t : Bool) → occ k (cond t (k ∷ []) []) ≡ one_if t
one_kept k true = omega (arith, one_same k)
one_kept k false = refl

kept_here : (P : ℕ → Bool) (k : ℕ) → occ k (kept P k) ≡ one_if (ltb k k && P k) → occ k (kept P k) + occ k (cond (P k) (k ∷ []) []) ≡ one_if (ltb k (suc k) && P k)
kept_here P k h =
    let o : occ k (kept P k) ≡ 0 = h ∙ ap one_if (and_left (ltb k k) (P k) (le-ltb k k (omega arith))) in
    rw (o, lt-ltb k (suc k) (omega arith)) (omega (arith, one_kept k (P k)))

below_same : (v k : ℕ) → (v ≡ k → ⊥) → ltb v k ≡ ltb v (suc k)
below_same v k ne = elim (cases_lt v k) [ inl l ↦ lt-ltb v k l ∙ sym (lt-ltb v (suc k) (omega arith)) | inr g ↦ le-ltb v k g ∙ sym (le-ltb v (suc k) (omega arith)) ]

none_kept : (v k : ℕ) (t : Bool) → (v ≡ k → ⊥) → occ v (cond t (k ∷ []) []) ≡ 0
none_kept v k true ne = omega (arith, one_other v k ne)
none_kept v k false ne = refl

pub kept_occ : (P : ℕ → Bool) (n v : ℕ) → occ v (kept P n) ≡ one_if (ltb v n && P v)
kept_occ P zero v = sym (ap one_if (and_left (ltb v 0) (P v) (le-ltb v 0 (omega arith))))
kept_occ P (suc k) v =
    occ_append v (kept P k) (cond (P k) (k ∷ []) []) ∙
    elim (cases_eq v k) [
      | inl e ↦ subst (λ (u : ℕ). occ u (kept P k) + occ u (cond (P k) (k ∷ []) []) ≡ one_if (ltb u (suc k) && P u)) (sym e) (kept_here P k (kept_occ P k k))
      | inr ne ↦
          let z = none_kept v k (P k) ne in
          let y : occ v (kept P k) + occ v (cond (P k) (k ∷ []) []) ≡ occ v (kept P k) = omega arith in
          y ∙ kept_occ P k v ∙ ap (λ t. one_if (t && P v)) (below_same v k ne)
    ]

-- ---- rising lists

abbrev pub Up : ℕ → List ℕ → Type 0
Up b [] = Unit {0}
Up b (x ∷ xs) = (b ≤ x) × Up (suc x) xs

up_none : (b k : ℕ) (xs : List ℕ) → Up b xs → k < b → occ k xs ≡ 0
up_none b k [] u l = refl
up_none b k (x ∷ xs) u l = let h = u.0 in omega (arith, one_other k x (omega arith), up_none (suc x) k xs u.1 (omega arith))

-- two rising lists with the same members are one list
pub up_one : (b d : ℕ) (xs ys : List ℕ) → Up b xs → Up d ys → ((k : ℕ) → occ k xs ≡ occ k ys) → xs ≡ ys
up_one b d [] [] u v h = refl
up_one b d [] (y ∷ ys) u v h = absurd (omega (arith, h y, one_same y))
up_one b d (x ∷ xs) [] u v h = absurd (omega (arith, h x, one_same x))
up_one b d (x ∷ xs) (y ∷ ys) u v h =
    let e : x ≡ y =
    elim (cases_lt x y) [
      | inl l ↦ absurd (omega (arith, h x, one_same x, one_other x y (omega arith), up_none (suc y) x ys v.1 (omega arith)))
      | inr g ↦
          elim (cases_eq x y) [
            | inl q ↦ q
            | inr ne ↦ absurd (omega (arith, h y, one_same y, one_other y x (λ q. ne (sym q)), up_none (suc x) y xs u.1 (omega arith)))
          ]
    ]
    in
    let t = up_one (suc x) (suc y) xs ys u.1 v.1 (λ k. omega (arith, h k, ap (λ (z : ℕ). one_if (eqb k z)) e)) in
    ap (λ (z : ℕ). z ∷ xs) e ∙ ap (λ (zs : List ℕ). y ∷ zs) t

up_append : (b k : ℕ) (xs : List ℕ) → Up b xs → b ≤ k → ((v : ℕ) → k ≤ v → occ v xs ≡ 0) → Up b (xs ++ k ∷ [])
up_append b k [] u l h = (l, tt)
up_append b k (x ∷ xs) u l h =
    let m : x < k = elim (cases_lt x k) [ inl i ↦ i | inr g ↦ absurd (omega (arith, h x g, one_same x)) ] in
    (u.0, up_append (suc x) k xs u.1 m (λ v g. omega (arith, h v g)))

pub kept_up : (P : ℕ → Bool) (n : ℕ) → Up 0 (kept P n)
kept_up P zero = tt
kept_up P (suc k) =
    cond_both (P k) (k ∷ []) [] (λ (l : List ℕ). Up 0 (kept P k ++ l))
    (λ _. up_append 0 k (kept P k) (kept_up P k) (omega arith) (λ v g. kept_occ P k v ∙ ap one_if (and_left (ltb v k) (P v) (le-ltb v k g))))
    (λ _. subst (Up 0) (sym (append-nil (kept P k))) (kept_up P k))

pub starts_up : (b : ℕ) (cs : List (List ℕ)) → Rising b cs → Up b (starts cs)
starts_up b [] r = tt
starts_up b (c ∷ cs) r = (r.0, starts_up (suc (first c)) cs r.1)

-- the number of those kept before s is the place of s
pub kept_at : (P : ℕ → Bool) (n s : ℕ) → s < n → P s ≡ true → (get_or (kept P n) (length (kept P s)) 0 ≡ s) × (length (kept P s) < length (kept P n))
kept_at P zero s l h = absurd (omega arith)
kept_at P (suc k) s l h =
    elim (cases_eq s k) [
      | inl e ↦
          let m : P k ≡ true = ap P (sym e) ∙ h in
          let x : kept P (suc k) ≡ kept P k ++ (k ∷ []) = ap (λ t. kept P k ++ cond t (k ∷ []) []) m in (
            rw (x, e) (get_or-append_right (kept P k) (k ∷ []) (length (kept P k)) (length (kept P k)) 0 refl (omega arith) ∙ z (length (kept P k))),
            rw (x, e) (omega (arith, length-append (kept P k) (k ∷ []))),
          )
      | inr ne ↦
          let r = kept_at P k s (omega arith) h in (
            get_or_append_left (kept P k) (cond (P k) (k ∷ []) []) 0 (length (kept P s)) r.1 ∙ r.0,
            omega (arith, r.1, length-append (kept P k) (cond (P k) (k ∷ []) [])),
          )
    ]
  where
    z : (m : ℕ) → get_or (k ∷ []) (m - m) 0 ≡ k
    z m = let e : m - m ≡ 0 = omega arith in rw e

-- ---- the lowest of each circle

module _ (f low : ℕ → ℕ) (n : ℕ) (r : Ringed f n) (along : LowAlong f low n) (below : LowBelow low n) (named : LowNames f low n) where
  most : (v : ℕ) → occ v (names low (rings f n)) ≤ 1
  most v = omega (arith, named v, one_most (ltb v n && eqb (low v) v))

  -- the circle of a starts at a: then a tells itself
  tells_itself : (a : ℕ) → a < n → ((k : ℕ) → 0 < occ k (ring f n a) → a ≤ k) → 0 < occ (low a) (names low (rings f n)) → low a ≡ a
  tells_itself a la lowest here =
      let v = low a in
      let t : (ltb v n && eqb (low v) v) ≡ true = one_true (ltb v n && eqb (low v) v) (omega (arith, named v)) in
      let (p, q) = and_parts (ltb v n) (eqb (low v) v) t in
      let lv : v < n = ltb-true v n p in
      let ev : low v ≡ v = eqb-true (low v) v q in
      elim (cases_eq a v) [
        | inl e ↦ sym e
        | inr ne ↦
            let m = same_circle f low n (rings f n) (ringed_circles f n r) along most a v la lv (sym ev) ne in
            omega (arith, below a la, lowest v (ltb-true 0 (occ v (ring f n a)) m))
      ]

  lows_first : (cs : List (List ℕ)) → AllCircles f cs → Lowest cs → ((k : ℕ) → occs k cs ≤ one_if (ltb k n)) → ((v : ℕ) → occ v (names low cs) ≤ occ v (names low (rings f n))) → names low cs ≡ starts cs
  lows_first [] c l o w = refl
  lows_first ([] ∷ cs) c l o w = absurd c.0
  lows_first ((a ∷ xs) ∷ cs) c l o w =
      let i : ring f n a ≡ a ∷ xs = ring_is f n a xs c.0 (λ k. omega (arith, o k)) in
      let la : a < n = below_one a n (omega (arith, o a, one_same a)) in
      let e : low a ≡ a = tells_itself a la (λ k h. l.0 k (subst (λ (ys : List ℕ). 0 < occ k ys) i h)) (omega (arith, w (low a), one_same (low a))) in
      ap (λ (x : ℕ). x ∷ names low cs) e ∙ ap (λ (ys : List ℕ). a ∷ ys) (lows_first cs c.1 l.1 (λ k. omega (arith, o k)) (λ v. omega (arith, w v)))

  abbrev tells : ℕ → Bool
  tells s = eqb (low s) s

  -- the circles start, rising, at the members that tell themselves
  pub starts_kept : starts (rings f n) ≡ kept tells n
  starts_kept =
      let o = rings_order f n r in
      let c = ringed_circles f n r in
      let e = lows_first (rings f n) c.round o.0 (λ k. omega (arith, c.once k)) (λ v. omega arith) in
      up_one 0 0 (starts (rings f n)) (kept tells n) (starts_up 0 (rings f n) o.1) (kept_up tells n)
      (λ v. ap (occ v) (sym e) ∙ named v ∙ sym (kept_occ tells n v))

pub length_names : (lab : ℕ → ℕ) (cs : List (List ℕ)) → length (names lab cs) ≡ length cs
length_names lab [] = refl
length_names lab (c ∷ cs) = ap suc (length_names lab cs)
