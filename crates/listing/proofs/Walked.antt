-- The sides of a ring as they are walked, one by one.
use Rattle.std.proofs.Common.{◌≡◌, ℕ, zero, suc, ◌+◌, Bool, true, false, cond, eqb, List, [], ◌∷◌, ◌++◌, Option, Some, None, sym, refl, ap, ◌∙◌, arith}
use Rattle.rings.specs.Circles.{walk}
use Rattle.listing.specs.Puts.{step}
use Rattle.listing.specs.Texts.{side_text, sides_text}

-- the members that are still to come, at most n of them, where o is the next one
abbrev pub left : (ℕ → ℕ) → ℕ → ℕ → Option ℕ → List ℕ
left f s zero o = []
left f s (suc n) None = []
left f s (suc n) (Some q) = q ∷ walk f n s q

left_by : (f : ℕ → ℕ) (s n q : ℕ) (b : Bool) → left f s (suc n) (cond b None (Some (f q))) ≡ cond b [] (f q ∷ walk f n s (f q))
left_by f s n q true = refl
left_by f s n q false = refl

-- after q comes the walk
pub left_after : (f : ℕ → ℕ) (s n q : ℕ) → left f s n (step f s q) ≡ walk f n s q
left_after f s zero q = refl
left_after f s (suc n) q = left_by f s n q (eqb s (f q))

-- the next member, and those that are to come after it
pub left_on : (f : ℕ → ℕ) (s n m : ℕ) (o r : Option ℕ) (q : ℕ) → o ≡ Some q → m + 1 ≡ n → r ≡ step f s q → sides_text (left f s n o) ≡ side_text q ++ sides_text (left f s m r)
left_on f s n m o r q e k a =
    let x : n ≡ suc m = omega arith in
    ap (λ (i : ℕ). sides_text (left f s i o)) x ∙ ap (λ (p : Option ℕ). sides_text (left f s (suc m) p)) e ∙ ap (λ (xs : List ℕ). side_text q ++ sides_text xs) (sym (ap (left f s m) a ∙ left_after f s m q))
