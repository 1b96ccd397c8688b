-- A text that fits into a buffer from its first byte on.
use Rattle.std.proofs.Common.{◌≡◌, ℕ, ◌+◌, ◌≤◌, leb, List, ◌++◌, length, drop, sym, ap, ◌∙◌, arith}
use lib.Seq.{sets, sets-eq}
use Rattle.std.proofs.lemmas.Bool.{le-leb, cond-true}
use Rattle.listing.specs.Texts.{text_leaves}

pub fits_leaves : (out text is : List ℕ) → length text ≤ length out → is ≡ sets out 0 text → is ≡ text_leaves text out
fits_leaves out text is fits e =
    let z : 0 + length text ≡ length text = omega arith in
    e ∙ sets-eq text out 0 (omega arith) ∙ ap (λ (k : ℕ). text ++ drop k out) z
    ∙ sym (cond-true (leb (length text) (length out)) (text ++ drop (length text) out) out (le-leb (length text) (length out) fits))
