-- What an answer about a thing tells of it: taken, there is such a thing, and refused, there is none.
use Rattle.std.proofs.Common.{◌≡◌, Bool, true, false, cond, Ok, Err, Result, is_ok, true≢false, sym, refl, ap}

pub taken : {X E : Type 0} (b : Bool) (x y : X) (e : E) → ◌≡◌ {A = Result X E} (cond b (Ok x) (Err e)) (Ok y) → (b ≡ true) × (x ≡ y)
taken {X} {E} true x y e h = (refl, ap (λ (r : Result X E). elim r [ Ok z ↦ z | Err f ↦ x ]) h)
taken {X} {E} false x y e h = absurd (true≢false (ap is_ok (sym h)))

pub refused : {X E : Type 0} (b : Bool) (x : X) (e f : E) → ◌≡◌ {A = Result X E} (cond b (Ok x) (Err e)) (Err f) → (b ≡ false) × (e ≡ f)
refused {X} {E} true x e f h = absurd (true≢false (ap is_ok h))
refused {X} {E} false x e f h = (refl, ap (λ (r : Result X E). elim r [ Ok z ↦ e | Err g ↦ g ]) h)
