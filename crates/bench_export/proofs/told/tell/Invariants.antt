use Rattle.std.proofs.Common.{◌≡◌, ◌++◌, map, take, drop}
use Rattle.std.specs.List.{enumerate_from}
use Rattle.topology.specs.States.{state_of}
use Rattle.bench_export.specs.Telling.{told_at}
use Rattle.bench_export.proofs.told.tell.Given as goal

abbrev pub invariant-loop-side : goal.invariant-loop-side
invariant-loop-side l = l.told ≡ map (told_at (state_of l.map)) (take l.side (enumerate_from 0 l.initial.told)) ++ drop l.side l.initial.told
