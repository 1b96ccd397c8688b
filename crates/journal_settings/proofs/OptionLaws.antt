-- How the options go on after the first pair of words.
use Rattle.std.proofs.Common.{◌≡◌, ℕ, ◌<◌, List, [], ◌∷◌, ◌++◌, length, min, Ok, String, sym, ap, ◌∙◌, arith}
use Rattle.line_words.specs.LineWords.{texts, word}
use Rattle.journal_settings.specs.declared.settings.Given.{Given}
use Rattle.journal_settings.specs.Settings.{option, then, options}

pub goes_on : {Z : Type 0} (g more : Given) (name value : List ℕ) (ws pair rest : List (String Z)) → Ok more ≡ option g name value → name ≡ word (texts pair) 0 → value ≡ word (texts pair) 1 → ws ≡ pair ++ rest → length pair ≡ min 2 (length ws) → 0 < length ws
    → options more (texts rest) ≡ options g (texts ws)
goes_on {Z = Z} g more name value ws pair rest h p q e l s = at pair rest (h ∙ ap (λ n. option g n value) p ∙ ap (option g (word (texts pair) 0)) q) e l ∙ ap (λ (k : List (String Z)). options g (texts k)) (sym e)
  where
    at : (pair rest : List (String Z)) → Ok more ≡ option g (word (texts pair) 0) (word (texts pair) 1) → ws ≡ pair ++ rest → length pair ≡ min 2 (length ws) → options more (texts rest) ≡ options g (texts (pair ++ rest))
    at [] rest h e l = absurd (omega arith)
    at (x ∷ []) [] h e l = ap (λ r. then r (λ k. Ok k)) h
    at (x ∷ []) (y ∷ rest) h e l = absurd (omega (arith, ap length e))
    at (x ∷ y ∷ []) rest h e l = ap (λ r. then r (λ k. options k (texts rest))) h
    at (x ∷ y ∷ z ∷ zs) rest h e l = absurd (omega arith)
