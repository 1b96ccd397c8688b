-- What `successors` gives: the numbers that follow one, each the image of the one before, until they come round.
use Rattle.std.proofs.Common.{◌≡◌, ℕ, zero, suc, ◌+◌, ◌<◌, Bool, cond, not, eqb, List, [], ◌∷◌, take, Option, Some, None, is_some, true≢false, Bor, sym, refl, ap, ◌∙◌, subst, inl, inr, min, fold, arith}
use denote.Param.Members.{Mut}
use Rattle.std.specs.List.{prefix_len}
use Rattle.std.specs.Iterator.{AlwaysYields}
use Rattle.std.specs.Iterator.Adapters.{take_source, take_count, take_steps, successors_next, successors_callee, successors_steps}
use Rattle.std.specs.Fn.{CalledAt}
use Rattle.std.specs.declared.iter.Take.{Take}
use Rattle.std.specs.declared.iter.Successors.{Successors}
use Rattle.std.proofs.lemmas.Bool.{cases_Bool}
use Rattle.std.proofs.lemmas.Iterator.{YieldsList}
use Rattle.rings.specs.Circles.{Chain, walk, rings}
use Rattle.rings.specs.Law.{Ringed}
use Rattle.rings.proofs.Occurs.{one_below}
use Rattle.rings.proofs.Chains.{picked}
use Rattle.rings.proofs.Listing.{ring_is}
use Rattle.rings.proofs.Ringed.{ringed_circles}
use Rattle.topology.specs.Divisions.{lowest_of}

-- a and what follows it, m numbers long
abbrev pub following : (ℕ → ℕ) → ℕ → ℕ → List ℕ
following f zero a = []
following f (suc m) a = a ∷ following f m (f a)

in_some : (x y : ℕ) → ◌≡◌ {A = Option ℕ} (Some x) (Some y) → x ≡ y
in_some x y e = ap (λ (o : Option ℕ). elim o [ None ↦ x | Some z ↦ z ]) e

module _ {F : Type 0} (g : Mut F (Bor ℕ × Unit {0}) (Option ℕ)) (f : ℕ → ℕ) (n : ℕ) (keeps : (p : ℕ) → p < n → f p < n) (c : F)
    (says : (x : ℕ) (r : Option ℕ) (q : F) → CalledAt g c x r q → (q ≡ c) × (x < n → r ≡ Some (f x))) where
  goes : (m a : ℕ) (s : Take (Successors ℕ F)) → a < n → take_count s ≡ m → successors_callee (take_source s) ≡ c → successors_next (take_source s) ≡ Some a →
      AlwaysYields (take_steps (successors_steps g)) (λ (x : ℕ). x) s (following f m a)
  goes zero a s l e d h = λ x t p. omega (arith, p.1, e)
  goes (suc m) a s l e d h = (
    (λ t p. true≢false (ap is_some (sym h ∙ sym (p (omega (arith, e))).0))),
    λ x t p.
        let xa : x ≡ a = in_some x a (p.0.0 ∙ h) in
        let w = says x _ _ (subst (λ z. CalledAt g z x (successors_next (take_source t)) (successors_callee (take_source t))) d p.0.1) in
        (xa, goes m (f a) t (keeps a l) (omega (arith, p.1, e)) w.0 (w.1 (subst (λ (y : ℕ). y < n) (sym xa) l) ∙ ap (λ (y : ℕ). Some (f y)) xa)),
  )

  pub YieldsList-following : (m a : ℕ) (s : Take (Successors ℕ F)) → a < n → take_count s ≡ m → successors_callee (take_source s) ≡ c → successors_next (take_source s) ≡ Some a →
      YieldsList (take_steps (successors_steps g)) (λ (x : ℕ). x) s (following f m a)
  YieldsList-following m a s l e d h = record { runs = goes m a s l e d h }

-- those before it comes round to s
pub walk_round : (f : ℕ → ℕ) (m s p : ℕ) → take (prefix_len (λ y. not (eqb s y)) (following f m (f p))) (following f m (f p)) ≡ walk f m s p
walk_round f zero s p = refl
walk_round f (suc m) s p =
    let ys = following f m (f (f p)) in
    elim (cases_Bool (eqb s (f p))) [
      | inl t ↦
          ap (λ (b : Bool). take (cond (not b) (1 + prefix_len (λ y. not (eqb s y)) ys) 0) (f p ∷ ys)) t
          ∙ sym (ap (λ (b : Bool). cond b [] (f p ∷ walk f m s (f p))) t)
      | inr u ↦
          ap (λ (b : Bool). take (cond (not b) (1 + prefix_len (λ y. not (eqb s y)) ys) 0) (f p ∷ ys)) u
          ∙ (ap (λ (j : ℕ). take j (f p ∷ ys)) (let e : 1 + prefix_len (λ y. not (eqb s y)) ys ≡ suc (prefix_len (λ y. not (eqb s y)) ys) = omega arith in e)
          ∙ (ap (λ (zs : List ℕ). f p ∷ zs) (walk_round f m s (f p)) ∙ sym (ap (λ (b : Bool). cond b [] (f p ∷ walk f m s (f p))) u)))
    ]

pub lowest_folds : (x : ℕ) (ys : List ℕ) → fold min x ys ≡ lowest_of x ys
lowest_folds x [] = refl
lowest_folds x (y ∷ ys) = lowest_folds (min x y) ys

-- the last of a list, or a number where it is empty
abbrev pub last_from : ℕ → List ℕ → ℕ
last_from = fold (λ a x. x)

pub last_leads : (f : ℕ → ℕ) (p q : ℕ) (xs : List ℕ) → Chain f p xs q → f (last_from p xs) ≡ q
last_leads f p q [] c = c
last_leads f p q (x ∷ xs) c = last_leads f x q xs c.1

pub last_within : (f : ℕ → ℕ) (n : ℕ) → ((k : ℕ) → k < n → f k < n) → (p q : ℕ) (xs : List ℕ) → Chain f p xs q → p < n → last_from p xs < n
last_within f n keeps p q [] c l = l
last_within f n keeps p q (x ∷ xs) c l = last_within f n keeps x q xs c.1 (subst (λ (k : ℕ). k < n) c.0 (keeps p l))

abbrev rest_of : List ℕ → List ℕ
rest_of [] = []
rest_of (x ∷ xs) = xs

-- a walk from s goes round to it
pub goes_round : (f : ℕ → ℕ) (n s : ℕ) → Ringed f n → s < n → Chain f s (walk f n s s) s
goes_round f n s r l =
    let c = ringed_circles f n r in
    let t = picked f s (rings f n) c.round (omega (arith, c.once s, one_below s n l)) in
    let w = ring_is f n s t.loop t.closed (λ j. omega (arith, c.once j, t.same j)) in
    subst (λ (xs : List ℕ). Chain f s xs s) (sym (ap rest_of w)) t.closed
