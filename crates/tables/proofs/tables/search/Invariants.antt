use Rattle.std.proofs.Common.{ℕ, ◌<◌, ◌≤◌}
use Rattle.boxes.specs.Boxes.{edges_of}
use Rattle.tables.specs.Windows.{Meeting}
use Rattle.tables.proofs.tables.search.Given as goal

abbrev pub invariant-loop-i : goal.invariant-loop-i
invariant-loop-i g l = (j : ℕ) → j < l.i → l.k ≤ j → Meeting (g.T.BoxedTable.boxes l.table j) (edges_of l.window) → ⊥
