use Rattle.std.proofs.Common.{◌≡◌, drop}
use Rattle.topology.specs.States.{state_of}
use Rattle.bench_export.specs.Sheets.{parted}
use Rattle.bench_export.proofs.sheets.part.Given as goal

abbrev pub invariant-loop-k : goal.invariant-loop-k
invariant-loop-k l = parted l.arc l.cuts (state_of l.initial.map) ≡ parted l.arc (drop l.k-index l.cuts) (state_of l.map)
