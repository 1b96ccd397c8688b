use Rattle.std.proofs.Common.{◌≡◌, ◌++◌, map, take, drop}
use Rattle.bench_export.specs.Sheets.{vertex_of}
use Rattle.bench_export.proofs.sheets.put_vertices.Given as goal

abbrev pub invariant-loop-k : goal.invariant-loop-k
invariant-loop-k l = l.run ≡ map vertex_of (take l.k l.places) ++ drop l.k l.initial.run
