-- What std's `parse` answers, in the words of the specs.
use Rattle.std.proofs.Common.{◌≡◌, ℕ, ◌^◌, ◌<◌, true, ◌&&◌, ltb, List, [], ◌∷◌, length, is_some, Some, None, Ok, Err, IsUtf8, Option, Result, sym, refl, ap, ◌∙◌, subst, append-nil, arith}
use lib.Utf8.{scalar, encode, encodes, scalars}
use lib.Ieee.{Float, binary64}
use Rattle.std.specs.Result.{result_ok}
use Rattle.std.specs.Float.Parse.{ParsesFloat, IsParseFloatResult, without_sign, is_float_text}
use Rattle.std.specs.Str.Parse.{IsNumeral, without_leading_plus, digits_value, ParsesUnsigned, ParsesChar, starts_with_minus}
use Rattle.std.specs.Str.{all_ascii_digits, chars}
use Rattle.std.proofs.lemmas.Str.Parse.{IsNumeralModel, numerals_by_value, tells_all_ascii_digits}
use Rattle.std.proofs.lemmas.Bool.{and_parts, and_from, ltb-true, lt-ltb, cond_both}
use Rattle.std.proofs.lemmas.Float.Parse.{is_some-parse_float}
use Rattle.std.proofs.lemmas.Str.{chars_from_encodes, encodes-chars, scalars-chars}
use Rattle.decimals.specs.Plain.{plain, nearest_double, plain_of}
use Rattle.decimals.proofs.FloatTexts.{parsed, plain_parsed, plain_is}
use Rattle.words.specs.Words.{numeral, whole_of, only, character_of, Said, Parsed, Decimal}

told : IsNumeralModel (λ ds. all_ascii_digits ds ≡ true) (digits_value 10)
told = numerals_by_value _ tells_all_ascii_digits

numeral_of : (ds : List ℕ) → numeral ds ≡ true → IsNumeral 10 ds × (digits_value 10 ds < 2 ^ 64)
numeral_of ds e =
    let (a, fits) = and_parts (ltb 0 (length ds) && all_ascii_digits ds) _ e in
    let (some, all) = and_parts (ltb 0 (length ds)) (all_ascii_digits ds) a in
    ((ltb-true 0 (length ds) some, told.to ds all), ltb-true _ _ fits)

of_numeral : (ds : List ℕ) → IsNumeral 10 ds → digits_value 10 ds < 2 ^ 64 → numeral ds ≡ true
of_numeral ds p q = and_from _ _ (and_from _ _ (lt-ltb _ _ p.0) (told.from ds p.1)) (lt-ltb _ _ q)

pub whole_read : {E : Type 0} (bs : List ℕ) (r : Result ℕ E) → ParsesUnsigned 64 10 bs r → result_ok r ≡ whole_of bs
whole_read bs (Ok n) h = rw (of_numeral (without_leading_plus bs) h.0.0 h.0.1) (ap (λ k. Some k) h.1)
whole_read bs (Err e) h = cond_both (numeral (without_leading_plus bs)) (Some (digits_value 10 (without_leading_plus bs))) None (λ o. None ≡ o) (λ t. absurd (h (numeral_of (without_leading_plus bs) t))) (λ _. refl)

-- a text that is one character has that one
one_decoded : (bs : List ℕ) (c : ℕ) → IsUtf8 bs → bs ≡ encode c → c ∷ [] ≡ chars bs
one_decoded bs c u e = chars_from_encodes (c ∷ []) bs u (append-nil (encode c) ∙ sym e)

none_only : (bs cs : List ℕ) → encodes cs ≡ bs → scalars cs ≡ true → ((c : ℕ) → scalar c ≡ true → bs ≡ encode c → ⊥) → None ≡ only cs
none_only bs [] e s h = refl
none_only bs (c ∷ []) e s h = absurd (h c (and_parts (scalar c) true s).0 (sym e ∙ append-nil (encode c)))
none_only bs (c ∷ d ∷ cs) e s h = refl

pub character_read : {E : Type 0} (bs : List ℕ) (r : Result ℕ E) → IsUtf8 bs → ParsesChar bs r → result_ok r ≡ character_of bs
character_read bs (Ok c) u h = ap only (one_decoded bs c u h)
character_read bs (Err e) u h = none_only bs (chars bs) (encodes-chars bs u) (scalars-chars bs u) h

ok_same : {E : Type 0} (x y : Float) → (let r : Result Float E = Ok x in r ≡ Ok y) → x ≡ y
ok_same x y e = grind arith

pub decimal_read : {E : Type 0} (bs : List ℕ) (r : Result Float E) → ParsesFloat binary64 64 bs r → Parsed bs (result_ok r)
decimal_read bs (Ok x) h = (sym h.0, λ e. let p = numeral_of (without_leading_plus bs) e in ok_same x _ (h.1 p.0 p.1))
decimal_read bs (Err e) h = sym h.0

-- it is what the text writes, and of a plain number the double nearest to it
pub decimal_said : {E : Type 0} (bs : List ℕ) (r : Result Float E) → ParsesFloat binary64 64 bs r → IsParseFloatResult binary64 bs r → Decimal bs (result_ok r)
decimal_said bs r h i = record { rounded = parsed bs r i; said = at (plain (without_sign bs)) refl }
  where
    at : (o : Option (ℕ × ℕ)) → plain (without_sign bs) ≡ o → Said bs (nearest_double (starts_with_minus bs) o) (result_ok r)
    at None e = decimal_read bs r h
    at (Some (n, p)) e = parsed bs r i ∙ plain_parsed bs n p e

-- exactly the text of a decimal number says one
pub decimal_text : (bs : List ℕ) (r : Option Float) → Decimal bs r → is_some r ≡ is_float_text bs
decimal_text bs r d = ap is_some d.rounded ∙ is_some-parse_float binary64 bs

-- the double nearest to a plain number is the one that its text says
pub plain_said : (bs : List ℕ) (x : Float) → Some x ≡ plain_of bs → Decimal bs (Some x)
plain_said bs x e = record { rounded = sym (plain_is bs x (sym e)); said = subst (λ (o : Option Float). Said bs o (Some x)) e refl }
