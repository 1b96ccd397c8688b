-- The rings by their starts, the lowest member of a ring, and a walk step by step.
use Rattle.std.proofs.Common.{◌≡◌, ℕ, zero, suc, ◌<◌, ◌≤◌, true, eqb, ltb, List, [], ◌∷◌, map, sym, refl, ap, ◌∙◌, arith}
use Rattle.std.proofs.lemmas.Bool.{eq-eqb, ne_eqb, cond-true, cond-false}
use Rattle.rings.specs.Circles.{one_if, occs, AllCircles, walk, ring, rings, meets, starts, kept}
use Rattle.rings.specs.Law.{Ringed, LowAlong, LowBelow, LowNames}
use Rattle.rings.proofs.Ringed.{ringed_circles}
use Rattle.rings.proofs.Listing.{ring_is}
use Rattle.rings.proofs.Lows.{starts_kept}
use Rattle.rings.proofs.LowMeets.{low_told, low_same}
use Rattle.rings.proofs.Division.{same_ring}
use Rattle.rings.proofs.TwoRings.{meets_low}

by_starts : (f : ℕ → ℕ) (n : ℕ) (cs : List (List ℕ)) → AllCircles f cs → ((k : ℕ) → occs k cs ≤ one_if (ltb k n)) → cs ≡ map (ring f n) (starts cs)
by_starts f n [] c o = refl
by_starts f n ([] ∷ cs) c o = absurd c.0
by_starts f n ((a ∷ xs) ∷ cs) c o =
    let i : ring f n a ≡ a ∷ xs = ring_is f n a xs c.0 (λ k. omega (arith, o k)) in
    ap (λ (ys : List ℕ). ys ∷ cs) (sym i) ∙ ap (λ (ds : List (List ℕ)). ring f n a ∷ ds) (by_starts f n cs c.1 (λ k. omega (arith, o k)))

module _ (f low : ℕ → ℕ) (n : ℕ) (r : Ringed f n) (along : LowAlong f low n) (below : LowBelow low n) (named : LowNames f low n) where
  -- the rings are those that the members start which tell themselves
  pub ringwise : rings f n ≡ map (ring f n) (kept (λ s. eqb (low s) s) n)
  ringwise =
      let c = ringed_circles f n r in
      by_starts f n (rings f n) c.round (λ k. omega (arith, c.once k)) ∙ ap (map (ring f n)) (starts_kept f low n r along below named)

  -- what s tells is the lowest member of the circle of s
  pub lowest : (s : ℕ) → s < n → (meets f n (low s) s ≡ true) × ((t : ℕ) → meets f n (low s) t ≡ true → low s ≤ t)
  lowest s l =
      let (i, e) = low_told f low n r along named s l in (
        low_same f low n r along named (low s) s i l e,
        λ t h.
            let j = meets_low f n (low s) t r i h in
            let d = same_ring f low n (rings f n) (ringed_circles f n r) along (low s) t i j (λ _. h) in
            omega (arith, below t j),
      )

-- ---- a walk, one step on

pub walk_back : (f : ℕ → ℕ) (fuel s p : ℕ) → f p ≡ s → walk f fuel s p ≡ []
walk_back f zero s p e = refl
walk_back f (suc m) s p e = cond-true (eqb s (f p)) [] (f p ∷ walk f m s (f p)) (eq-eqb s (f p) (sym e))

pub walk_on : (f : ℕ → ℕ) (fuel m s p : ℕ) → fuel ≡ suc m → (f p ≡ s → ⊥) → walk f fuel s p ≡ f p ∷ walk f m s (f p)
walk_on f zero m s p e ne = absurd (omega arith)
walk_on f (suc k) m s p e ne =
    let q : k ≡ m = omega arith in
    cond-false (eqb s (f p)) [] (f p ∷ walk f k s (f p)) (ne_eqb s (f p) (λ i. ne (sym i))) ∙ ap (λ (j : ℕ). f p ∷ walk f j s (f p)) q
