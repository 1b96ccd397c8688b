-- What a chain over the sides with their numbers gives, in the words of the specs.
use Rattle.std.proofs.Common.{◌≡◌, ℕ, suc, ◌+◌, ◌/◌, ◌<◌, Bool, cond, not, ◌&&◌, ◌||◌, eqb, List, [], ◌∷◌, ◌++◌, map, length, get_or, Some, sym, refl, ap, ◌∙◌, inl, inr, add-one, arith}
use Rattle.std.proofs.Math.Bool.{or-false, or_assoc}
use Rattle.std.proofs.Math.Nat.{zero-add}
use Rattle.std.specs.List.{enumerate_from, filter, list_any, position_from}
use Rattle.std.specs.Option.{unwrap_or}
use Rattle.std.proofs.lemmas.Bool.{cases_Bool}
use Rattle.std.proofs.lemmas.List.{append_assoc, append-nil}
use Rattle.std.specs.Iterator.Adapters.{enumerate_source, enumerate_count, enumerate_steps}
use Rattle.std.specs.Slice.Iter.{iter_rest}
use Rattle.std.specs.declared.iter.Enumerate.{Enumerate}
use Rattle.std.specs.declared.slice.Iter.{Iter}
use Rattle.std.proofs.iter.Yields.{fronts}
use Rattle.std.proofs.lemmas.Iterator.{YieldsList, YieldsList-from_slice}
use Rattle.std.proofs.lemmas.Iterator.Consumers.{YieldsList-from_enumerate, YieldsList-at}
use Rattle.rings.specs.Circles.{kept}
use Rattle.topology.specs.declared.side.Side.{Side}
use Rattle.topology.specs.Rows.{no_side, tells, low_of, polygon_of}
use Rattle.topology.specs.Lifts.{other_under}
use Rattle.topology.specs.Dissolves.{in_either, first_from}

-- a test of a side with its number is a test of the number alone
abbrev Agree : (ℕ → Bool) → (ℕ × Side → Bool) → ℕ → List Side → Type 0
Agree P T n xs = (i : ℕ) → i < length xs → P (n + i) ≡ T (n + i, get_or xs i no_side)

module _ (P : ℕ → Bool) (T : ℕ × Side → Bool) where
  here : (n : ℕ) (x : Side) (xs : List Side) → Agree P T n (x ∷ xs) → P n ≡ T (n, x)
  here n x xs h = let e : n + 0 ≡ n = omega arith in sym (ap P e) ∙ (h 0 (omega arith) ∙ ap (λ (k : ℕ). T (k, x)) e)

  after : (n : ℕ) (x : Side) (xs : List Side) → Agree P T n (x ∷ xs) → Agree P T (n + 1) xs
  after n x xs h i l =
      let e : n + 1 + i ≡ n + suc i = omega arith in
      ap P e ∙ (h (suc i) (omega arith) ∙ ap (λ (k : ℕ). T (k, get_or xs i no_side)) (sym e))

  -- the numbers of those that pass
  abbrev passed : ℕ → List Side → List ℕ
  passed n xs = map (λ (p : ℕ × Side). p.0) (filter T (enumerate_from n xs))

  kept_on : (n : ℕ) (xs : List Side) → Agree P T n xs → kept P n ++ passed n xs ≡ kept P (n + length xs)
  kept_on n [] h = append-nil (kept P n) ∙ ap (kept P) (let e : n ≡ n + 0 = omega arith in e)
  kept_on n (x ∷ xs) h =
      let next = kept_on (n + 1) xs (after n x xs h) in
      let one : kept P (n + 1) ≡ kept P n ++ cond (T (n, x)) (n ∷ []) [] = ap (kept P) (add-one n) ∙ ap (λ (b : Bool). kept P n ++ cond b (n ∷ []) []) (here n x xs h) in
      let same : kept P n ++ passed n (x ∷ xs) ≡ kept P (n + 1) ++ passed (n + 1) xs =
      elim (cases_Bool (T (n, x))) [
        | inl t ↦
            ap (λ (b : Bool). kept P n ++ map (λ (p : ℕ × Side). p.0) (cond b ((n, x) ∷ filter T (enumerate_from (n + 1) xs)) (filter T (enumerate_from (n + 1) xs)))) t
            ∙ (sym (append_assoc (kept P n) (n ∷ []) (passed (n + 1) xs))
            ∙ ap (λ (ys : List ℕ). ys ++ passed (n + 1) xs) (sym (one ∙ ap (λ (b : Bool). kept P n ++ cond b (n ∷ []) []) t)))
        | inr f ↦
            ap (λ (b : Bool). kept P n ++ map (λ (p : ℕ × Side). p.0) (cond b ((n, x) ∷ filter T (enumerate_from (n + 1) xs)) (filter T (enumerate_from (n + 1) xs)))) f
            ∙ ap (λ (ys : List ℕ). ys ++ passed (n + 1) xs) (sym (one ∙ (ap (λ (b : Bool). kept P n ++ cond b (n ∷ []) []) f ∙ append-nil (kept P n))))
      ] in
      same ∙ (next ∙ ap (kept P) (let e : n + 1 + length xs ≡ n + suc (length xs) = omega arith in e))

  -- whether one passes, where A k says so of the numbers below k
  any_on : (A : ℕ → Bool) → ((k : ℕ) → A (suc k) ≡ (A k || P k)) → (n : ℕ) (xs : List Side) → Agree P T n xs → (A n || list_any T (enumerate_from n xs)) ≡ A (n + length xs)
  any_on A step n [] h = or-false (A n) ∙ ap A (let e : n ≡ n + 0 = omega arith in e)
  any_on A step n (x ∷ xs) h =
      ap (λ (b : Bool). A n || (b || list_any T (enumerate_from (n + 1) xs))) (sym (here n x xs h))
      ∙ (sym (or_assoc (A n) (P n) (list_any T (enumerate_from (n + 1) xs)))
      ∙ (ap (λ (b : Bool). b || list_any T (enumerate_from (n + 1) xs)) (sym (ap A (add-one n) ∙ step n))
      ∙ (any_on A step (n + 1) xs (after n x xs h) ∙ ap A (let e : n + 1 + length xs ≡ n + suc (length xs) = omega arith in e))))

  first_on : (n : ℕ) (xs : List Side) → Agree P T n xs → unwrap_or (position_from T n (enumerate_from n xs)) (n + length xs) ≡ first_from P n (length xs)
  first_on n [] h = omega arith
  first_on n (x ∷ xs) h =
      let next = first_on (n + 1) xs (after n x xs h) in
      let e : n + suc (length xs) ≡ n + 1 + length xs = omega arith in
      elim (cases_Bool (T (n, x))) [
        | inl t ↦ ap (λ (b : Bool). unwrap_or (cond b (Some n) (position_from T (n + 1) (enumerate_from (n + 1) xs))) (n + suc (length xs))) t
            ∙ sym (ap (λ (b : Bool). cond b n (first_from P (n + 1) (length xs))) (here n x xs h ∙ t))
        | inr f ↦ ap (λ (b : Bool). unwrap_or (cond b (Some n) (position_from T (n + 1) (enumerate_from (n + 1) xs))) (n + suc (length xs))) f
            ∙ (ap (unwrap_or (position_from T (n + 1) (enumerate_from (n + 1) xs))) e ∙ (next ∙ sym (ap (λ (b : Bool). cond b n (first_from P (n + 1) (length xs))) (here n x xs h ∙ f))))
      ]

-- ---- the road of such a chain

pub numbered : {s : Iter Side} {t : Enumerate (Iter Side)} (us : List Side) → iter_rest s ≡ us → enumerate_source t ≡ s → enumerate_count t ≡ 0 →
    YieldsList (enumerate_steps fronts) (λ p. (p.0, p.1.now)) t (enumerate_from 0 us)
numbered us a b e = YieldsList-from_enumerate (YieldsList-at b (YieldsList-from_slice us a)) e

-- ---- what is listed

-- the sides that are the lowest of their ring
abbrev pub is_start : ℕ × Side → Bool
is_start p = eqb p.1.low p.0

pub starts_listed : (us : List Side) → map (λ (p : ℕ × Side). p.0) (filter is_start (enumerate_from 0 us)) ≡ kept (tells us) (length us)
starts_listed us = kept_on (tells us) is_start 0 us (λ i l. ap (λ (k : ℕ). eqb (low_of us k) k) (zero-add i) ∙ ap (λ (k : ℕ). eqb (low_of us i) k) (sym (zero-add i))) ∙ ap (kept (tells us)) (zero-add (length us))

-- a polygon and the lowest side of its ring
abbrev pub told : ℕ × Side → ℕ × ℕ
told p = (p.1.polygon, p.0)

abbrev pub named : List Side → ℕ → ℕ × ℕ
named us s = (polygon_of us s, s)

polygons_listed : (us : List Side) (n : ℕ) (xs : List Side) → ((i : ℕ) → i < length xs → polygon_of us (n + i) ≡ polygon_of xs i) →
    map told (filter is_start (enumerate_from n xs)) ≡ map (named us) (map (λ (p : ℕ × Side). p.0) (filter is_start (enumerate_from n xs)))
polygons_listed us n [] h = refl
polygons_listed us n (x ∷ xs) h =
    let rest = filter is_start (enumerate_from (n + 1) xs) in
    let next = polygons_listed us (n + 1) xs (λ i l. let e : n + 1 + i ≡ n + suc i = omega arith in ap (polygon_of us) e ∙ h (suc i) (omega arith)) in
    let first : x.polygon ≡ polygon_of us n = sym (h 0 (omega arith)) ∙ ap (polygon_of us) (let e : n + 0 ≡ n = omega arith in e) in
    elim (cases_Bool (is_start (n, x))) [
      | inl t ↦
          ap (λ (b : Bool). map told (cond b ((n, x) ∷ rest) rest)) t
          ∙ (ap (λ (q : ℕ). (q, n) ∷ map told rest) first
          ∙ (ap (λ (ys : List (ℕ × ℕ)). named us n ∷ ys) next
          ∙ sym (ap (λ (b : Bool). map (named us) (map (λ (p : ℕ × Side). p.0) (cond b ((n, x) ∷ rest) rest))) t)))
      | inr f ↦
          ap (λ (b : Bool). map told (cond b ((n, x) ∷ rest) rest)) f
          ∙ (next ∙ sym (ap (λ (b : Bool). map (named us) (map (λ (p : ℕ × Side). p.0) (cond b ((n, x) ∷ rest) rest))) f))
    ]

pub rings_listed : (us : List Side) → map told (filter is_start (enumerate_from 0 us)) ≡ map (named us) (kept (tells us) (length us))
rings_listed us = polygons_listed us 0 us (λ i l. ap (polygon_of us) (zero-add i)) ∙ ap (map (named us)) (starts_listed us)

pub other_listed : (us : List Side) (a p q : ℕ) →
    list_any (λ (x : ℕ × Side). not (eqb (x.0 / 2) a) && (eqb x.1.polygon p || eqb x.1.polygon q)) (enumerate_from 0 us) ≡ other_under us a p q (length us)
other_listed us a p q =
    let T : ℕ × Side → Bool = λ x. not (eqb (x.0 / 2) a) && (eqb x.1.polygon p || eqb x.1.polygon q) in
    any_on (λ k. T (k, get_or us k no_side)) T (other_under us a p q) (λ k. refl) 0 us (λ i l. ap (λ (k : ℕ). T (0 + i, get_or us k no_side)) (zero-add i)) ∙ ap (other_under us a p q) (zero-add (length us))

pub first_listed : (us : List Side) (a : ℕ) →
    unwrap_or (position_from (λ (x : ℕ × Side). not (eqb (x.0 / 2) a) && (eqb x.1.low (low_of us (a + a)) || eqb x.1.low (low_of us (a + a + 1)))) 0 (enumerate_from 0 us)) (length us)
    ≡ first_from (in_either us a) 0 (length us)
first_listed us a =
    let T : ℕ × Side → Bool = λ x. not (eqb (x.0 / 2) a) && (eqb x.1.low (low_of us (a + a)) || eqb x.1.low (low_of us (a + a + 1))) in
    ap (unwrap_or (position_from T 0 (enumerate_from 0 us))) (sym (zero-add (length us)))
    ∙ first_on (in_either us a) T 0 us (λ i l. ap (λ (k : ℕ). T (0 + i, get_or us k no_side)) (zero-add i))
