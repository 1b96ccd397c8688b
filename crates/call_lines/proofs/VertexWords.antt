-- A word that writes a vertex.
use Rattle.std.proofs.Common.{◌≡◌, ℕ, ◌<◌, eqb, List, [], length, get_or, Some, None, Option, Bor, MatchOption, String, string_bytes, sym, ap, ◌∙◌, arith, lit<}
use Rattle.std.specs.List.{position_or_len, before_first, after_first}
use Rattle.std.proofs.lemmas.List.{get_or-map}
use Rattle.std.proofs.lemmas.Bool.Decides.{nat_tests}
use Rattle.std.proofs.lemmas.Str.Pattern.{IsSplitOnceResult, split_once_first}
use Rattle.line_words.specs.LineWords.{texts, word}
use Rattle.call_lines.specs.Spoken.{coordinates}

-- where `split_once` cuts a word at a comma
parted : (w : List ℕ) (r : Option (Bor (List ℕ) × Bor (List ℕ))) → MatchOption r (position_or_len (λ b. eqb b 44) w ≡ length w) (λ x. (position_or_len (λ b. eqb b 44) w < length w) × (x.0.now ≡ before_first (λ b. eqb b 44) w) × (x.1.now ≡ after_first (λ b. eqb b 44) w))
    → MatchOption r (coordinates w ≡ None) (λ x. coordinates w ≡ Some (x.0.now, x.1.now))
parted w None h = grind (arith, nat_tests)
parted w (Some x) h = grind (arith, nat_tests)

pub comma : (w : List ℕ) (r : Option (Bor (List ℕ) × Bor (List ℕ))) → IsSplitOnceResult 44 w r → MatchOption r (coordinates w ≡ None) (λ x. coordinates w ≡ Some (x.0.now, x.1.now))
comma w r h = parted w r (split_once_first 44 w r h (lit< tt))

pub word_is : {Z : Type 0} (ws : List (String Z)) (i : ℕ) (s : String Z) (w : List ℕ) → i < length ws → s ≡ get_or ws i s → w ≡ string_bytes s → word (texts ws) i ≡ w
word_is ws i s w l e f = get_or-map string_bytes ws i s [] l ∙ ap string_bytes (sym e) ∙ sym f
