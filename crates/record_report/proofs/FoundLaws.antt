-- The turn and the end of a loop that goes from one wanted record to the next.
use Rattle.std.proofs.Common.{◌≡◌, ℕ, ◌+◌, ◌≤◌, Bool, List, ◌++◌, Some, None, Option, Result, sym, ap, ◌∙◌}
use Rattle.refusal.specs.declared.Refusal.{Refusal}
use Rattle.boxes.specs.declared.edges.Edges.{Edges}
use Rattle.boxes.specs.declared.bounds.Bounds.{Bounds}
use Rattle.boxes.specs.Boxes.{edges_of}
use Rattle.tables.specs.Windows.{met, Lowest, tally}
use Rattle.tables.proofs.MetLaws.{met_from_meeting}
use Rattle.tables.proofs.CountLaws.{none_between, tally_more, tally_none}
use Rattle.record_report.specs.Reports.{lines, Next}
use Rattle.record_report.proofs.LineLaws.{lines_more, lines_none}

-- the lowest record whose box meets a window is the next that passes the test
pub next_from_lowest : (boxes : ℕ → Result Edges Refusal) (w : Bounds) (count k : ℕ) (r : Option ℕ) → Lowest boxes count k (edges_of w) r → Next (λ i. met (boxes i) (edges_of w)) count k r
next_from_lowest boxes w count k None none = none_between boxes w k count none
next_from_lowest boxes w count k (Some f) (low, high, here, none) = (low, high, met_from_meeting (boxes f) w here, none_between boxes w k f none)

module _ (wanted : ℕ → Bool) (text : ℕ → List ℕ) (start : List ℕ) where
  pub found_turn : (count k f n : ℕ) (was is : List ℕ) → Next wanted count k (Some f) → n ≡ tally wanted k → was ≡ start ++ lines wanted text k → is ≡ was ++ text f
      → (n + 1 ≡ tally wanted (f + 1)) × (is ≡ start ++ lines wanted text (f + 1))
  found_turn count k f n was is (low, high, here, none) t e d = (
    ap (λ v. v + 1) (t ∙ sym (tally_none wanted k f low none)) ∙ tally_more wanted f here,
    d ∙ ap (λ v. v ++ text f) (e ∙ ap (λ v. start ++ v) (sym (lines_none wanted text k f low none))) ∙ lines_more wanted text start f here,
  )

  pub found_end : (count k n : ℕ) (was : List ℕ) → Next wanted count k None → k ≤ count → n ≡ tally wanted k → was ≡ start ++ lines wanted text k
      → (n ≡ tally wanted count) × (was ≡ start ++ lines wanted text count)
  found_end count k n was none high t e =
      (t ∙ sym (tally_none wanted k count high none), e ∙ ap (λ v. start ++ v) (sym (lines_none wanted text k count high none)))
