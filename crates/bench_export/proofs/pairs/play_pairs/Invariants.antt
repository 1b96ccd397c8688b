use Rattle.std.proofs.Common.{◌≡◌, drop}
use Rattle.topology.specs.States.{state_of}
use Rattle.bench_export.specs.Pairs.{pairs_outcome}
use Rattle.bench_export.proofs.pairs.play_pairs.Given as goal

abbrev pub invariant-loop-pair : goal.invariant-loop-pair
invariant-loop-pair g l = pairs_outcome g.P.Pair.outcome l.pairs (state_of l.initial.map) ≡ pairs_outcome g.P.Pair.outcome (drop l.pair-index l.pairs) (state_of l.map)
