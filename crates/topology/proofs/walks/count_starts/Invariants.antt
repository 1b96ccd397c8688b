use Rattle.std.proofs.Common.{◌≡◌, ◌≤◌, length}
use Rattle.rings.specs.Circles.{kept}
use Rattle.topology.specs.Rows.{tells}
use Rattle.topology.proofs.walks.count_starts.Given as goal

abbrev pub invariant-loop-s : goal.invariant-loop-s
invariant-loop-s l = (l.n ≤ l.s) × (l.n ≡ length (kept (tells l.sides) l.s))
