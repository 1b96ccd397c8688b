use Rattle.topology.specs.States.{state_of}
use Rattle.listing.specs.Puts.{Puts}
use Rattle.listing.proofs.RingLines.{lines_below}
use Rattle.listing.proofs.puts.Lister.put_rings.Given as goal

abbrev pub invariant-loop-side : goal.invariant-loop-side
invariant-loop-side l = Puts l.initial.self l.self (lines_below (state_of l.initial.self.map.now) l.side)
