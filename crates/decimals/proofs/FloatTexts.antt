-- Of a plain text, Rust's `parse` gives the double nearest to its number.
use Rattle.std.proofs.Common.{◌≡◌, ℕ, ◌+◌, ◌^◌, ◌<◌, Bool, true, false, cond, ◌&&◌, ◌||◌, eqb, ltb, List, [], ◌∷◌, length, drop, Some, None, Ok, Err, Option, Result, is_some, sym, refl, ap, ◌∙◌, subst, inl, inr, arith, append-nil, add-zero, mul-one, lt-ltb}
use lib.Ieee.{Float, binary64, round}
use Rattle.std.specs.Result.{result_ok}
use Rattle.std.specs.Float.Numeral.{Parts, scan_numeral, nearest_float, text_of, IsWellFormed}
use Rattle.std.specs.Float.Parse.{without_sign, sign_len, read_float, parse_float, is_float_text, IsParseFloatResult}
use Rattle.std.specs.Str.Parse.{digits_value_after, starts_with_minus}
use Rattle.std.specs.Str.{all_ascii_digits}
use Rattle.std.proofs.lemmas.Bool.{cases_Bool, and_parts, ltb-true, eqb-true, eq-eqb, or_cases}
use Rattle.std.proofs.lemmas.Float.Parse.{scan_numeral-text_of, is_some-parse_float}
use Rattle.std.proofs.lemmas.Str.Parse.{tells_all_ascii_digits, numerals_by_value, IsNumeralModel}
use Rattle.decimals.specs.Plain.{before_point, after_point, digits_of, some_if, with_places, is_short, plain, nearest_double, plain_of}
use Rattle.decimals.proofs.DigitValues.{digits_append}

told : IsNumeralModel (λ ds. all_ascii_digits ds ≡ true) (digits_value_after 10 0)
told = numerals_by_value _ tells_all_ascii_digits

abbrev has_point : List ℕ → Bool
has_point [] = false
has_point (c ∷ cs) = cond (eqb c 46) true (has_point cs)

-- the parts of a text with no exponent
abbrev parts_of : List ℕ → Parts
parts_of u = record { whole = before_point u; point = has_point u; fraction = after_point u; exponent_negative = false; exponent = []; len = length u }

text_is : (u : List ℕ) → text_of (parts_of u) ≡ u
text_is [] = refl
text_is (c ∷ cs) = elim (cases_Bool (eqb c 46)) [ inl t ↦ rw (t, append-nil) (ap (λ k. k ∷ cs) (sym (eqb-true c 46 t))) | inr f ↦ rw f (ap (λ l. c ∷ l) (text_is cs)) ]

none_after : (u : List ℕ) → has_point u ≡ false → after_point u ≡ []
none_after [] e = refl
none_after (c ∷ cs) e = elim (cases_Bool (eqb c 46)) [ inl t ↦ absurd (grind (arith, rw t at e)) | inr f ↦ rw f (none_after cs (rw f at e)) ]

well_formed : (u : List ℕ) → all_ascii_digits (digits_of u) ≡ true → IsWellFormed (parts_of u)
well_formed u e =
    let (w, f) = and_parts (all_ascii_digits (before_point u)) (all_ascii_digits (after_point u)) (rw (digits_append (before_point u) (after_point u)) at e) in
    record { whole_digits = told.to _ w; fraction_digits = told.to _ f; exponent_digits = tt; no_point = none_after u; no_exponent = λ _. refl; len_is = ap length (sym (text_is u)) }

scanned : (u : List ℕ) → all_ascii_digits (digits_of u) ≡ true → scan_numeral u ≡ parts_of u
scanned u e = ap scan_numeral (sym (text_is u)) ∙ scan_numeral-text_of (parts_of u) (well_formed u e)

-- the text u stands after a sign of k bytes
read : (bs u : List ℕ) (s : Bool) (k : ℕ) → starts_with_minus bs ≡ s → sign_len bs ≡ k → drop k bs ≡ u → k + length u ≡ length bs → all_ascii_digits (digits_of u) ≡ true
    → 0 < length (before_point u) + length (after_point u) → parse_float binary64 bs ≡ Some (nearest_float binary64 s (parts_of u))
unfolding read_float
read bs u s k es ek ed el digits some =
    rw (ek, ed, es, scanned u digits, lt-ltb 0 (length (before_point u) + length (after_point u)) some, eq-eqb (k + length u) (length bs) el)

some_digits : (w f : List ℕ) → (ltb 0 (length w) || ltb 0 (length f)) ≡ true → 0 < length w + length f
some_digits w f e =
    elim (or_cases (ltb 0 (length w)) (ltb 0 (length f)) e) [
      | inl t ↦ omega (arith, ltb-true 0 (length w) t)
      | inr t ↦ omega (arith, ltb-true 0 (length f) t)
    ]

places_told : (b : Bool) (p : ℕ) (d : Bool) (v n q : ℕ) → with_places b p (some_if d v) ≡ Some (n, q) → (b ≡ true) × (d ≡ true) × (v ≡ n) × (p ≡ q)
places_told true p true v n q e = (refl, refl, grind (arith, e), grind (arith, e))
places_told true p false v n q e = absurd (grind arith)
places_told false p d v n q e = absurd (grind arith)

-- the same, of a plain text
read_plain : (bs u : List ℕ) (s : Bool) (k n p : ℕ) → starts_with_minus bs ≡ s → sign_len bs ≡ k → drop k bs ≡ u → k + length u ≡ length bs → plain u ≡ Some (n, p)
    → parse_float binary64 bs ≡ Some (round binary64 s n (10 ^ p))
read_plain bs u s k n p es ek ed el e =
    let (b, d, v, l) = places_told (is_short (length (before_point u)) (length (after_point u))) (length (after_point u)) (all_ascii_digits (digits_of u) && ltb (digits_value_after 10 0 (digits_of u)) (2 ^ 53)) (digits_value_after 10 0 (digits_of u)) n p e in
    let digits = (and_parts (all_ascii_digits (digits_of u)) _ d).0 in
    let some = some_digits (before_point u) (after_point u) (and_parts (ltb 0 (length (before_point u)) || ltb 0 (length (after_point u))) _ b).0 in
    rw (mul-one, add-zero, v, l) at (read bs u s k es ek ed el digits some)

-- of a plain text, `parse` gives the double nearest to its number
pub plain_parsed : (bs : List ℕ) (n p : ℕ) → plain (without_sign bs) ≡ Some (n, p) → parse_float binary64 bs ≡ Some (round binary64 (starts_with_minus bs) n (10 ^ p))
plain_parsed [] n p e = read_plain [] [] false 0 n p refl refl refl refl e
plain_parsed (c ∷ cs) n p e =
    elim (cases_Bool (eqb c 45)) [
      | inl t ↦ subst (λ x. plain (without_sign (x ∷ cs)) ≡ Some (n, p) → parse_float binary64 (x ∷ cs) ≡ Some (round binary64 (eqb x 45) n (10 ^ p))) (sym (eqb-true c 45 t)) (read_plain (45 ∷ cs) cs true 1 n p refl refl refl (omega arith)) e
      | inr f ↦ elim (cases_Bool (eqb c 43)) [
        | inl t ↦ subst (λ x. plain (without_sign (x ∷ cs)) ≡ Some (n, p) → parse_float binary64 (x ∷ cs) ≡ Some (round binary64 (eqb x 45) n (10 ^ p))) (sym (eqb-true c 43 t)) (read_plain (43 ∷ cs) cs false 1 n p refl refl refl (omega arith)) e
        | inr g ↦ rw f (read_plain (c ∷ cs) (c ∷ cs) false 0 n p f (rw (f, g)) refl (omega arith) (rw (f, g) at e))
      ]
    ]

-- what `parse` reads
pub parsed : {E : Type 0} (bs : List ℕ) (r : Result Float E) → IsParseFloatResult binary64 bs r → result_ok r ≡ parse_float binary64 bs
parsed bs (Ok x) h = sym h
parsed bs (Err e) h = sym h

pub plain_read : {E : Type 0} (bs u : List ℕ) (r : Result Float E) → u ≡ without_sign bs → true ≡ is_some (plain u) → IsParseFloatResult binary64 bs r → result_ok r ≡ plain_of bs
plain_read bs u r e t h = parsed bs r h ∙ at (plain (without_sign bs)) refl (t ∙ ap (λ v. is_some (plain v)) e)
  where
    at : (o : Option (ℕ × ℕ)) → plain (without_sign bs) ≡ o → true ≡ is_some o → parse_float binary64 bs ≡ nearest_double (starts_with_minus bs) o
    at None e t = absurd (grind arith)
    at (Some (n, p)) e t = plain_parsed bs n p e

-- the double of a plain text is what `parse` reads of it
pub plain_is : (bs : List ℕ) (y : Float) → plain_of bs ≡ Some y → parse_float binary64 bs ≡ Some y
plain_is bs y = at (plain (without_sign bs)) refl
  where
    at : (o : Option (ℕ × ℕ)) → plain (without_sign bs) ≡ o → nearest_double (starts_with_minus bs) o ≡ Some y → parse_float binary64 bs ≡ Some y
    at None e h = absurd (grind arith)
    at (Some (n, p)) e h = plain_parsed bs n p e ∙ h

-- so `parse` reads a plain text
pub plain_float : (bs : List ℕ) (y : Float) → plain_of bs ≡ Some y → is_float_text bs ≡ true
plain_float bs y e = sym (is_some-parse_float binary64 bs) ∙ ap is_some (plain_is bs y e)
