-- A part that is handed out has the place and the length of its outcome.
use Rattle.std.proofs.Common.{◌≡◌, ℕ, List, Ok, Err, Result, sym, ap, ◌∙◌}
use Rattle.refusal.specs.declared.Refusal.{Refusal}
use Rattle.tables.specs.declared.part.Part.{Part}
use Rattle.tables.specs.Handing.{Handed, extent_of}
use Rattle.record_lines.specs.Texts.{line_of}

pub handed_extent : (bs : List ℕ) (o : Result (ℕ × ℕ) Refusal) (r : Result Part Refusal) → Handed bs o r → extent_of r ≡ o
handed_extent bs o (Ok p) h = sym h.0
handed_extent bs o (Err e) h = sym h

pub line_of_same : (k : ℕ) {p q l m : List ℕ} → p ≡ q → l ≡ m → line_of k p l ≡ line_of k q m
line_of_same k {q = q} {l = l} e f = ap (λ x. line_of k x l) e ∙ ap (λ x. line_of k q x) f
