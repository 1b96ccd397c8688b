use Rattle.std.proofs.Common.{◌≡◌, ◌-◌}
use Rattle.topology.specs.States.{state_of}
use Rattle.bench_export.specs.Sheets.{islands_outcome}
use Rattle.bench_export.proofs.sheets.add_islands.Given as goal

abbrev pub invariant-loop-k : goal.invariant-loop-k
invariant-loop-k l = islands_outcome 0 l.islands l.run l.cuts (state_of l.initial.map) ≡ islands_outcome l.k (l.islands - l.k) l.run l.cuts (state_of l.map)
