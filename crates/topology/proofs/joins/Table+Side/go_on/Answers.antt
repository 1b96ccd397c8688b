use Rattle.std.proofs.Common.{◌≡◌, ◌<◌, ap, sym, ◌∙◌, refl, arith, take}
use Rattle.std.proofs.lemmas.List.{length-take-le}
use Rattle.topology.specs.Rows.{next_of}
use Rattle.topology.proofs.Growth.{front_new, front_rest, front_long}
use Rattle.topology.proofs.GoesOn.{rows_on, l₅}
use Rattle.topology.proofs.joins.«Table+Side».go_on.Goals as goal

pub returns : goal.returns
returns c =
    let t = c.args.self.now in
    let full = t.rows.now in
    let n = t.used in
    let long = length-take-le n full t.fits in
    let q = c.requires in
    let lp : c.before-p.result < n = omega (arith, c.before-p.ensures.low, c.in_use.ensures.long) in
    let leads : next_of (take n full) c.before-p.result ≡ c.opposite-far.result = ap (λ xs. next_of xs c.before-p.result) (sym c.in_use.ensures.rows) ∙ c.before-p.ensures.leads in
    let x = rows_on _ n c.args.stays c.args.goes c.opposite-near.result c.opposite-far.result c.before-p.result c.args.first c.args.last c.begins.result c.begins-2.result long q.even q.ringed q.turned q.goes_in q.rising c.opposite-near.ensures.value c.opposite-far.ensures.value q.to_goes q.to_stays q.one_node lp leads c.begins.ensures c.begins-2.ensures in
    let e = l₅ (take n full) n c.args.stays c.args.goes c.opposite-near.result c.opposite-far.result c.before-p.result c.args.first c.args.last c.begins.result c.begins-2.result long q.even q.ringed q.turned q.goes_in q.rising c.opposite-near.ensures.value c.opposite-far.ensures.value q.to_goes q.to_stays q.one_node lp leads c.begins.ensures c.begins-2.ensures in
    record {
      rows = front_new _ full n e t.fits ∙ x;
      rest = front_rest _ full n e t.fits;
      long = front_long _ full n e t.fits;
      lent = refl;
    }
