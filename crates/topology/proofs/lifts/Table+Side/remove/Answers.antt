use Rattle.std.proofs.Common.{refl}
use Rattle.topology.specs.Renumbered.{renumbered}
use Rattle.topology.proofs.Shrinking.{without_rows, without_rest, without_long}
use Rattle.topology.proofs.lifts.«Table+Side».remove.Goals as goal

pub returns : goal.returns
returns c =
    let t = c.args.self.now in
    let full = t.rows.now in
    let a = c.args.arc in
    let F = renumbered c.args.numbers in
    let m = c.copy_within.ensures.after in
    let e = c.renumber.ensures in
    record {
      rows = without_rows full t.used a c.requires.here c.requires.even t.fits F _ _ m e;
      rest = without_rest full t.used a c.requires.here c.requires.even t.fits F _ _ m e;
      long = without_long full t.used a c.requires.here c.requires.even t.fits F _ _ m e;
      lent = refl;
    }
