use Rattle.std.proofs.Common.{◌≡◌, ◌-◌, ◌≤◌}
use Rattle.boxes.specs.Boxes.{edges_of}
use Rattle.tables.specs.Windows.{met, tally}
use Rattle.tables.proofs.tables.count_meeting.Given as goal

abbrev pub invariant-loop-f : goal.invariant-loop-f
invariant-loop-f g l =
    (l.n ≤ l.k) × (l.k ≤ g.T.RecordTable.count l.table) × (l.n ≡ tally (λ k. met (g.T.BoxedTable.boxes l.table k) (edges_of l.window)) l.k)

abbrev pub decreases-loop-f : goal.decreases-loop-f
decreases-loop-f g l = g.T.RecordTable.count l.table - l.k
