use Rattle.std.proofs.Common.{◌≡◌}
use Rattle.topology.specs.States.{state_of}
use Rattle.listing.specs.Texts.{listing, text_leaves}
use Rattle.bench_export.proofs.nests.list_again.Given as goal

abbrev pub invariant-loop-i : goal.invariant-loop-i
invariant-loop-i l = text_leaves (listing (state_of l.map)) l.out ≡ text_leaves (listing (state_of l.map)) l.initial.out
