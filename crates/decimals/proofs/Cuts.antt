-- A text without its sign, and cut at its first point.
use Rattle.std.proofs.Common.{◌≡◌, ℕ, ◌<◌, Bool, true, false, ◌||◌, eqb, List, [], ◌∷◌, length, drop, Some, None, Option, Bor, MatchOption, unwrap_or, sym, refl, ap, ◌∙◌, inl, inr, arith, lit<, drop_of_length-le, take_all, ◌⊎◌, subst, one-add, add_comm, ◌++◌}
use Rattle.std.proofs.Math.Bool.{or-false}
use lib.Utf8.{encode}
use native.Mathlib.Numerals.{unary_clauses}
use Rattle.std.specs.Char.{IsScalar, char_set_contains}
use Rattle.std.specs.Float.Parse.{without_sign}
use Rattle.std.specs.List.{position_or_len, before_first, after_first}
use Rattle.std.specs.Str.Pattern.{FindsPrefixBy, StripsPrefix, HasCharAt}
use Rattle.std.proofs.lemmas.Bool.{cases_Bool, eqb-true, or_cases, ne_eqb, false≢true}
use Rattle.std.proofs.lemmas.Str.Pattern.{IsSplitOnceResult, split_once_first}
use Rattle.decimals.specs.Plain.{before_point, after_point}

abbrev is_point : ℕ → Bool
is_point b = eqb b 46

before_is : (bs : List ℕ) → before_first is_point bs ≡ before_point bs
before_is [] = refl
before_is (c ∷ cs) = elim (cases_Bool (eqb c 46)) [ inl t ↦ rw t refl | inr f ↦ rw (f, one-add) (ap (λ l. c ∷ l) (before_is cs)) ]

after_is : (bs : List ℕ) → after_first is_point bs ≡ after_point bs
after_is [] = refl
after_is (c ∷ cs) = elim (cases_Bool (eqb c 46)) [ inl t ↦ rw t refl | inr f ↦ rw f (simp unary_clauses (ap (λ k. drop k cs) (add_comm 1 (position_or_len is_point cs)) ∙ after_is cs)) ]

-- cut at the first point, or all of the text before it and nothing after
pub parted : (bs : List ℕ) (r : Option (Bor (List ℕ) × Bor (List ℕ))) (d : Bor (List ℕ) × Bor (List ℕ)) → IsSplitOnceResult 46 bs r → d.0.now ≡ bs → d.1.now ≡ []
    → ((unwrap_or r d).0.now ≡ before_point bs) × ((unwrap_or r d).1.now ≡ after_point bs)
parted bs r d h e n = at r (split_once_first 46 bs r h (lit< tt))
  where
    at : (r : Option (Bor (List ℕ) × Bor (List ℕ)))
        → MatchOption r (position_or_len is_point bs ≡ length bs) (λ x. (position_or_len is_point bs < length bs) × (x.0.now ≡ before_first is_point bs) × (x.1.now ≡ after_first is_point bs))
        → ((unwrap_or r d).0.now ≡ before_point bs) × ((unwrap_or r d).1.now ≡ after_point bs)
    at None i = (e ∙ sym (take_all (position_or_len is_point bs) bs (omega arith)) ∙ before_is bs, n ∙ sym (drop_of_length-le bs (omega arith)) ∙ after_is bs)
    at (Some x) i = (i.1 ∙ before_is bs, i.2 ∙ after_is bs)

-- a sign, as one of two characters
abbrev pub is_sign : ℕ → Bool
is_sign c = char_set_contains (43 ∷ 45 ∷ []) c

sign_is : (c : ℕ) → is_sign c ≡ true → (c ≡ 43) ⊎ (c ≡ 45)
sign_is c e = elim (or_cases (eqb 43 c) (eqb 45 c || false) e) [ inl t ↦ inl (sym (eqb-true 43 c t)) | inr t ↦ inr (sym (eqb-true 45 c (rw or-false at t))) ]

signed : (bs : List ℕ) (c n : ℕ) → is_sign c ≡ true → HasCharAt c bs 0 n → drop n bs ≡ without_sign bs
signed bs c n t h = elim (sign_is c t) [ inl e ↦ plus (subst (λ k. HasCharAt k bs 0 n) e h) | inr e ↦ minus (subst (λ k. HasCharAt k bs 0 n) e h) ]
  where
    plus : HasCharAt 43 bs 0 n → drop n bs ≡ without_sign bs
    plus h = rw (h.ends, h.byte (lit< tt)) refl

    minus : HasCharAt 45 bs 0 n → drop n bs ≡ without_sign bs
    minus h = rw (h.ends, h.byte (lit< tt)) refl

-- the first character is no sign
no_sign : (b k : ℕ) (bs : List ℕ) → FindsPrefixBy is_sign (b ∷ bs) None → IsScalar k → encode k ≡ k ∷ [] → is_sign k ≡ true → eqb b k ≡ false
no_sign b k bs h s u t = ne_eqb b k (λ e. false≢true (sym (h k bs s (ap (λ n. n ∷ bs) e ∙ ap (λ l. l ++ bs) (sym u))) ∙ t))

-- what a search for a sign at the front finds
abbrev FindsSign : List ℕ → Option ℕ → Type 0
FindsSign s o = (k : ℕ → Bool) → ((c : ℕ) → is_sign c ≡ k c) → FindsPrefixBy k s o

found : (s : List ℕ) (o : Option ℕ) → FindsSign s o → FindsPrefixBy is_sign s o
found s o f = f is_sign (λ c. refl)

pub unsigned : (bs : List ℕ) (r : Option (Bor (List ℕ))) (d : Bor (List ℕ)) → MatchOption r (FindsSign bs None) (λ x. StripsPrefix FindsSign bs x.now) → d.now ≡ bs → (unwrap_or r d).now ≡ without_sign bs
unfolding encode
unsigned [] None d h e = e
unsigned (b ∷ bs) None d h e = let f = found (b ∷ bs) None h in rw (no_sign b 43 bs f refl refl refl, no_sign b 45 bs f refl refl refl) e
unsigned bs (Some x) d (n, p, i, l) e = let (c, t, k) = found bs (Some n) p in i ∙ signed bs c n t k
