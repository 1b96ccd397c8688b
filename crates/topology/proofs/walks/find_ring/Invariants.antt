use Rattle.std.proofs.Common.{◌≡◌, ◌≤◌, length}
use Rattle.rings.specs.Circles.{kept}
use Rattle.topology.specs.Rows.{tells}
use Rattle.topology.proofs.walks.find_ring.Given as goal

abbrev pub invariant-loop-at : goal.invariant-loop-at
invariant-loop-at l = (l.n ≤ l.at) × (l.n ≤ l.k) × (l.n ≡ length (kept (tells l.sides) l.at))
