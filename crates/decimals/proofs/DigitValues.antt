-- Digits, in one run or cut by a point.
use Rattle.std.proofs.Common.{◌≡◌, ℕ, ◌+◌, ◌-◌, ◌*◌, ◌^◌, ◌<◌, ◌≤◌, Bool, true, false, ◌&&◌, ltb, List, [], ◌∷◌, ◌++◌, length, get_or, drop, Some, None, Option, is_some, MatchOption, sym, refl, ap, ◌∙◌, inl, inr, arith}
use Rattle.std.specs.Str.Parse.{digits_value_after}
use Rattle.std.specs.Char.{digit_value, is_ascii_digit}
use Rattle.std.specs.Int.{IsInRange}
use Rattle.std.specs.Str.{all_ascii_digits}
use Rattle.std.proofs.lemmas.Bool.{cases_Bool, and_cases, and_parts, ltb-false, le-ltb}
use Rattle.std.proofs.lemmas.Str.{digit_value_digit}
use Rattle.std.proofs.lemmas.List.{at_drop_more}
use Rattle.decimals.specs.Plain.{before_point, after_point, some_if, digits_after, with_places, is_short, plain}

pub value_append : (n : ℕ) (w f : List ℕ) → digits_value_after 10 n (w ++ f) ≡ digits_value_after 10 (digits_value_after 10 n w) f
value_append n [] f = refl
value_append n (c ∷ w) f = value_append (n * 10 + digit_value c) w f

pub value_rises : (n : ℕ) (ds : List ℕ) → n ≤ digits_value_after 10 n ds
value_rises n [] = omega arith
value_rises n (c ∷ ds) = omega (arith, value_rises (n * 10 + digit_value c) ds)

pub digits_append : (w f : List ℕ) → all_ascii_digits (w ++ f) ≡ (all_ascii_digits w && all_ascii_digits f)
digits_append [] f = refl
digits_append (c ∷ w) f = elim (cases_Bool (is_ascii_digit c)) [ inl t ↦ rw t (digits_append w f) | inr e ↦ rw e refl ]

-- what `some_if` tells
some_told : {X : Type 0} (b : Bool) (x y : X) → some_if b x ≡ Some y → (b ≡ true) × (x ≡ y)
some_told true x y e = (refl, grind arith)
some_told false x y e = absurd (grind arith)

none_told : {X : Type 0} (b : Bool) (x : X) → some_if b x ≡ None → b ≡ false
none_told true x e = absurd (grind arith)
none_told false x e = refl

-- digits below the limit are digits below the limit and more digits after them
pub some_first : (m n : ℕ) (w f : List ℕ) → digits_after m w ≡ Some n → digits_after m (w ++ f) ≡ digits_after n f
some_first m n w f e =
    let (b, v) = some_told (all_ascii_digits w && ltb (digits_value_after 10 m w) (2 ^ 53)) (digits_value_after 10 m w) n e in
    let d = (and_parts (all_ascii_digits w) _ b).0 in
    rw (digits_append w f, value_append m w f, d, v) refl

none_if : {X : Type 0} (b : Bool) (x : X) → b ≡ false → some_if b x ≡ None
none_if b x e = rw e refl

pub none_first : (m : ℕ) (w f : List ℕ) → digits_after m w ≡ None → digits_after m (w ++ f) ≡ None
none_first m w f e =
    none_if _ _ (elim (and_cases (all_ascii_digits w) (ltb (digits_value_after 10 m w) (2 ^ 53)) (none_told _ _ e)) [
      | inl d ↦ rw (digits_append w f, d) refl
      | inr h ↦ at (all_ascii_digits (w ++ f)) (le-ltb (digits_value_after 10 m (w ++ f)) (2 ^ 53) (omega (arith, ltb-false (digits_value_after 10 m w) (2 ^ 53) h, value_append m w f, value_rises (digits_value_after 10 m w) f)))
    ])
  where
    at : (b : Bool) {c : Bool} → c ≡ false → (b && c) ≡ false
    at true h = h
    at false h = refl

pub digit_over : (m c : ℕ) (cs : List ℕ) → IsInRange 48 57 c → 2 ^ 53 ≤ m * 10 + (c - 48) → digits_after m (c ∷ cs) ≡ None
digit_over m c cs d l =
    let v : digit_value c ≡ c - 48 = omega (arith, digit_value_digit c d) in
    none_first m (c ∷ []) cs (none_if _ _ (over (all_ascii_digits (c ∷ [])) (le-ltb (digits_value_after 10 m (c ∷ [])) (2 ^ 53) (omega (arith, v, l)))))
  where
    over : (b : Bool) {t : Bool} → t ≡ false → (b && t) ≡ false
    over true h = h
    over false h = refl

-- the digit at place i is one too many
pub over_at : (m : ℕ) (ds : List ℕ) (i : ℕ) → i < length ds → IsInRange 48 57 (get_or ds i 0) → 2 ^ 53 ≤ m * 10 + (get_or ds i 0 - 48) → digits_after m (drop i ds) ≡ None
over_at m ds i l d h = at_drop_more (digits_after m) ds i 0 l ∙ digit_over m (get_or ds i 0) (drop (i + 1) ds) d h

-- a short text: the digits before the point, and then those after it
pub plain_steps : (bs w f : List ℕ) (o r : Option ℕ) (Q : ℕ → Type 0) → w ≡ before_point bs → f ≡ after_point bs → true ≡ is_short (length w) (length f) → o ≡ digits_after 0 w → ((n : ℕ) → Q n → r ≡ digits_after n f) → MatchOption o (r ≡ None) Q → is_some r ≡ is_some (plain bs)
plain_steps bs w f o r Q p q s e k h = rw (← p, ← q, ← s) (at o (sym e) h)
  where
    some_places : (p : ℕ) (o r : Option ℕ) → o ≡ r → is_some r ≡ is_some (with_places true p o)
    some_places p None r e = ap is_some (sym e)
    some_places p (Some n) r e = ap is_some (sym e)

    at : (o : Option ℕ) → digits_after 0 w ≡ o → MatchOption o (r ≡ None) Q → is_some r ≡ is_some (with_places true (length f) (digits_after 0 (w ++ f)))
    at None e h = some_places (length f) _ r (none_first 0 w f e ∙ sym h)
    at (Some n) e h = some_places (length f) _ r (some_first 0 n w f e ∙ sym (k n h))
