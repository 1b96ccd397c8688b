use Rattle.std.proofs.Common.{refl}
use Rattle.topology.proofs.PushedAgain.{again_rows, again_rest, again_long}
use Rattle.topology.proofs.table.Table.push_again.Goals as goal

pub returns : goal.returns
returns g c =
    let t = c.args.self.now in
    let r = c.args.rows in
    let copied = c.copy_within.ensures.after in
    let turned = c.turn_if.ensures in
    let b = c.args.backwards in
    record {
      rows = again_rows t.rows.now _ _ _ t.used r.start r.end b c.requires.ordered c.requires.in_use c.requires.room copied turned refl;
      rest = again_rest t.rows.now _ _ _ t.used r.start r.end b c.requires.ordered c.requires.in_use c.requires.room copied turned refl;
      long = again_long t.rows.now _ _ _ t.used r.start r.end b c.requires.ordered c.requires.in_use c.requires.room copied turned refl;
      lent = refl;
    }
