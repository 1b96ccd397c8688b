use Rattle.std.proofs.Common.{false, arith}
use Rattle.topology.proofs.PushedAgain.{both_grown, once_used}
use Rattle.topology.proofs.joins.«Table+Vertex».push_joined.Goals as goal

pub push_again-requires-then-after-clause-in_use : goal.push_again-requires-then-after-clause-in_use
push_again-requires-then-after-clause-in_use c =
    let w = c.args.whole in
    omega (arith, once_used c.args.self.now c.push_again.new.self w.start w.end false c.push_again.ensures c.requires.whole_ordered c.requires.whole_in, c.requires.rest_in)

pub push_again-requires-then-after-clause-room : goal.push_again-requires-then-after-clause-room
push_again-requires-then-after-clause-room c =
    let w = c.args.whole in
    omega (arith, once_used c.args.self.now c.push_again.new.self w.start w.end false c.push_again.ensures c.requires.whole_ordered c.requires.whole_in, c.push_again.ensures.long, c.requires.room)

pub push_again-requires-else-after-2-clause-in_use : goal.push_again-requires-else-after-2-clause-in_use
push_again-requires-else-after-2-clause-in_use c =
    let r = c.args.rest in
    omega (arith, once_used c.args.self.now c.push_again-else-after.new.self r.start r.end c.args.backwards c.push_again-else-after.ensures c.requires.rest_ordered c.requires.rest_in, c.requires.whole_in)

pub push_again-requires-else-after-2-clause-room : goal.push_again-requires-else-after-2-clause-room
push_again-requires-else-after-2-clause-room c =
    let r = c.args.rest in
    omega (arith, once_used c.args.self.now c.push_again-else-after.new.self r.start r.end c.args.backwards c.push_again-else-after.ensures c.requires.rest_ordered c.requires.rest_in, c.push_again-else-after.ensures.long, c.requires.room)

pub returns-then-after : goal.returns-then-after
returns-then-after c =
    let t = c.args.self.now in
    let w = c.args.whole in
    let r = c.args.rest in
    rw c.if-after.true
    (both_grown t c.push_again.new.self w.start w.end false c.push_again.ensures c.push_again-then-after.new.self r.start r.end c.args.backwards c.push_again-then-after.ensures c.requires.rest_ordered c.requires.rest_in)

pub returns-else-after : goal.returns-else-after
returns-else-after c =
    let t = c.args.self.now in
    let w = c.args.whole in
    let r = c.args.rest in
    rw c.if-after.false
    (both_grown t c.push_again-else-after.new.self r.start r.end c.args.backwards c.push_again-else-after.ensures c.push_again-else-after-2.new.self w.start w.end false c.push_again-else-after-2.ensures c.requires.whole_ordered c.requires.whole_in)
