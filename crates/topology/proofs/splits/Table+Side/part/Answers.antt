use Rattle.std.proofs.Common.{◌<◌, ap, sym, ◌∙◌, arith}
use Rattle.topology.specs.Rows.{next_of}
use Rattle.topology.proofs.Growth.{grown_twice, grown_used}
use Rattle.topology.proofs.Splitting.{rows_pushed, rest_kept, three_long}
use Rattle.topology.proofs.splits.«Table+Side».part.Goals as goal

pub returns : goal.returns
returns c =
    let t = c.args.self.now in
    let full = t.rows.now in
    let n = t.used in
    let a = c.args.arc in
    let p = c.before-p.result in
    let s = c.in_use.ensures.rows in
    let here = c.requires.here in
    let lp : p < n = omega (arith, c.before-p.ensures.low, c.in_use.ensures.long) in
    let leads = ap (λ xs. next_of xs p) (sym s) ∙ c.before-p.ensures.leads in
    let g = grown_twice _ c.push.new.self c.push-2.new.self _ _ c.push.ensures c.push-2.ensures in
    record {
      rows = g.rows ∙ rows_pushed full n a c.args.node c.args.row p t.fits here c.requires.ringed lp leads;
      rest = g.rest ∙ rest_kept full n a c.args.node c.args.row p t.fits here c.requires.ringed lp leads c.push-2.new.self.used (omega (arith, grown_used _ c.push-2.new.self _ g));
      long = g.long ∙ three_long full n a c.args.node c.args.row p t.fits here c.requires.ringed lp leads;
      lent = g.lent;
    }
