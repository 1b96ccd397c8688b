use Rattle.tables.proofs.CountLaws.{count_turn, count_end}
use Rattle.tables.proofs.tables.count_meeting.Goals as goal

pub loop-f-preserved : goal.loop-f-preserved
loop-f-preserved g c =
    let t = c.args.table.now in
    let v = c.loop-f.invariant in
    count_turn (g.T.BoxedTable.boxes t) c.args.window.now (g.T.RecordTable.count t) c.loop-f.k c.in-Some.f c.loop-f.n c.in-Some.ensures v.0 v.2

pub returns : goal.returns
returns g c =
    let t = c.args.table.now in
    let v = c.loop-f.invariant in
    count_end (g.T.BoxedTable.boxes t) c.args.window.now (g.T.RecordTable.count t) c.loop-f.k c.loop-f.n c.in_default.ensures v.1 v.2
