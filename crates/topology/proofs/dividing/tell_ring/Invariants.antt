use Rattle.topology.proofs.Telling.{Telling}
use Rattle.topology.proofs.dividing.tell_ring.Given as goal

abbrev pub invariant-loop-i : goal.invariant-loop-i
invariant-loop-i l = Telling l.initial.sides l.sides l.start l.at l.polygon l.low l._i
