use Rattle.topology.proofs.Growth.{Changing}
use Rattle.topology.proofs.rows.change_each.Given as goal

abbrev pub invariant-loop-row : goal.invariant-loop-row
invariant-loop-row g l = Changing (goal.F-post g l.change) l.initial.rows l.rows l.row-index
