use Rattle.std.proofs.Common.{refl, arith}
use Rattle.topology.proofs.Growth.{take_put, drop_put, length_put}
use Rattle.topology.proofs.table.Table.push_run.Goals as goal

pub returns : goal.returns
returns g c =
    let t = c.args.self.now in
    let e = c.copy_from_slice.ensures.after in
    record {
      rows = take_put t.rows.now _ c.args.run.now t.used _ e (omega arith) c.requires;
      rest = drop_put t.rows.now _ c.args.run.now t.used _ e (omega arith) c.requires;
      long = length_put t.rows.now _ c.args.run.now t.used _ e (omega arith) c.requires;
      lent = refl;
    }
