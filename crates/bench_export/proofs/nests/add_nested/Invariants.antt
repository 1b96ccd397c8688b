use Rattle.std.proofs.Common.{◌≡◌, Ok, Result}
use Rattle.refusal.specs.declared.Refusal.{Refusal}
use Rattle.topology.specs.States.{State, state_of}
use Rattle.bench_export.specs.Nestings.{nested}
use Rattle.bench_export.proofs.nests.add_nested.Given as goal

abbrev pub invariant-loop-k : goal.invariant-loop-k
invariant-loop-k l = ◌≡◌ {A = Result State Refusal} (Ok (state_of l.map)) (nested l.k (state_of l.initial.map))
