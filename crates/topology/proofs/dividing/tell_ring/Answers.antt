use Rattle.std.proofs.Common.{arith}
use Rattle.topology.proofs.Telling.{telling_more, telling_done, telling_ends}
use Rattle.topology.proofs.dividing.tell_ring.Goals as goal

pub returns-then-at-start : goal.returns-then-at-start
returns-then-at-start c =
    telling_done c.args.sides.now c.loop-i.sides c.args.start c.loop-i.at c.args.polygon c.args.low c.loop-i._i (omega arith) c.loop-i.invariant
    c.if-at-start.true

pub loop-i-preserved : goal.loop-i-preserved
loop-i-preserved c =
    telling_more c.args.sides.now c.loop-i.sides c.args.start c.loop-i.at c.args.polygon c.args.low c.loop-i._i (omega arith) c.loop-i.invariant
    c.requires.ringed c.if-at-start.false

pub unreachable-requires : goal.unreachable-requires
unreachable-requires c =
    telling_ends c.args.sides.now c.loop-i.sides c.args.start c.loop-i.at c.args.polygon c.args.low c.loop-i._i c.requires.ringed c.requires.here (omega arith)
    c.loop-i.invariant
