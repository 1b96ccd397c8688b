use Rattle.std.proofs.Common.{◌≡◌}
use Rattle.topology.specs.Rows.{next_of}
use Rattle.topology.specs.States.{state_of}
use Rattle.listing.specs.Puts.{ring_at}
use Rattle.listing.specs.Texts.{sides_text}
use Rattle.listing.proofs.Putting.{Rest}
use Rattle.listing.proofs.Walked.{left}
use Rattle.listing.proofs.puts.Lister.put_sides.Given as goal

abbrev pub invariant-loop-side : goal.invariant-loop-side
invariant-loop-side l =
    Rest l.initial.self l.self (sides_text (ring_at l.initial.self l.fn.start))
    (sides_text (left (next_of (state_of l.initial.self.map.now).sides) l.fn.start l.side-iterator.n l.side-iterator.iter.item))
    × (l.side-iterator.iter.f.0.now ≡ l.initial.self.map.now) × (l.side-iterator.iter.f.1.now ≡ l.fn.start)
