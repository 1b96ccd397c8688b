use Rattle.std.proofs.Common.{arith}
use lib.Ieee.{nan}
use Rattle.bench_export.specs.Sheets.{vertex_of}
use Rattle.bench_export.proofs.Sheeting.{put_more}
use Rattle.bench_export.proofs.sheets.put_vertices.Goals as goal

pub loop-k-preserved : goal.loop-k-preserved
loop-k-preserved c =
    put_more vertex_of c.args.places.now c.args.run.now c.loop-k.run c.loop-k.k (record { x = nan; y = nan }) c.from.result (omega arith) (omega arith) c.loop-k.invariant
    c.from.ensures
