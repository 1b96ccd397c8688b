use Rattle.std.proofs.Common.{arith}
use Rattle.topology.specs.Rows.{no_side}
use Rattle.topology.proofs.Growth.{changing_more}
use Rattle.topology.proofs.rows.change_each.Goals as goal

pub loop-row-preserved : goal.loop-row-preserved
loop-row-preserved g c =
    changing_more _ c.args.rows.now c.loop-row.rows c.loop-row.row-index no_side c.change.result (omega (arith, c.loop-row.invariant.long)) c.loop-row.invariant c.change.ensures
