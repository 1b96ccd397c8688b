-- The words that are left.
use Rattle.std.proofs.Common.{◌≡◌, ℕ, ◌<◌, ◌≤◌, List, [], length, Option, Some, None, Bor, MatchOption, slice_range, ◌⊎◌, inl, inr, ◌+◌, drop, string_bytes, String, sym, ap, ◌∙◌, arith, drop_of_length-le}
use Rattle.std.proofs.lemmas.List.{drop-map, take_rest}
use Rattle.std.specs.Option.{UnwrapsOrElse}
use Rattle.line_words.specs.LineWords.{texts}

-- the words after the first n, and none where there are not so many
pub rest_is : {Z : Type 0} (D : Bor (List (String Z)) → Type 0) (ws : List (String Z)) (n : ℕ) (o : Option (Bor (List (String Z)))) (r : Bor (List (String Z)))
    → MatchOption o ((length ws < n) ⊎ (length ws < length ws)) (λ x. (n ≤ length ws) × (length ws ≤ length ws) × (x.now ≡ slice_range ws n (length ws)) × (length x.now + n ≡ length ws)) → UnwrapsOrElse o D r
    → ((d : Bor (List (String Z))) → D d → d.now ≡ []) → texts r.now ≡ drop n (texts ws)
rest_is {Z = Z} D ws n None r h u d = ap texts (d r u ∙ sym (drop_of_length-le ws (elim h [ inl l ↦ omega arith | inr l ↦ omega arith ]))) ∙ sym (drop-map string_bytes n ws)
rest_is {Z = Z} D ws n (Some x) r h u d = ap (λ (y : Bor (List (String Z))). texts y.now) u ∙ ap texts (h.2 ∙ take_rest ws n) ∙ sym (drop-map string_bytes n ws)
