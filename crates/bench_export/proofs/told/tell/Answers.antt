use Rattle.std.proofs.Common.{arith}
use Rattle.topology.specs.States.{state_of}
use Rattle.bench_export.proofs.Asking.{told_more, told_all}
use Rattle.bench_export.proofs.told.tell.Goals as goal

pub loop-side-preserved : goal.loop-side-preserved
loop-side-preserved c =
    told_more (state_of c.args.map.now) c.args.told.now c.loop-side.told c.loop-side.side c.loop-side.invariant
    (record { node = 0; polygon = 0; next = 0; lowest = 0; vertices = 0 }) c.unwrap_or.result c.ask.result (omega arith) c.ask.ensures c.unwrap_or.ensures

pub returns : goal.returns
returns c = told_all (state_of c.args.map.now) c.args.told.now c.loop-side.told c.loop-side.side c.loop-side.invariant (omega arith)
