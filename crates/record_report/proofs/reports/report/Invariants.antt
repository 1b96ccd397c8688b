use Rattle.std.proofs.Common.{◌≡◌, ℕ, ◌-◌, ◌≤◌, Bool, Option, ◌++◌, string_bytes}
use Rattle.tables.specs.Windows.{tally}
use Rattle.record_lines.specs.Texts.{line}
use Rattle.record_report.specs.Reports.{lines, Next}
use Rattle.record_report.proofs.reports.report.Given as goal

abbrev pub invariant-loop-f : goal.invariant-loop-f
invariant-loop-f g l =
    (l.found ≤ l.k) × (l.k ≤ g.T.RecordTable.count l.table)
    × ((w : ℕ → Bool) → ((k : ℕ) (r : Option ℕ) → goal.F-post g l.next k r → Next w (g.T.RecordTable.count l.table) k r)
    → (l.found ≡ tally w l.k) × (string_bytes l.text ≡ string_bytes l.initial.text ++ lines w (line (g.T.RecordTable.place l.table) (g.T.RecordTable.list_place l.table)) l.k))

abbrev pub decreases-loop-f : goal.decreases-loop-f
decreases-loop-f g l = g.T.RecordTable.count l.table - l.k
