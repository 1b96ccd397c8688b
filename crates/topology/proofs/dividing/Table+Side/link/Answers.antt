use Rattle.std.proofs.Common.{◌≡◌, ℕ, ◌<◌, take, sym, ap, ◌∙◌, arith}
use Rattle.rings.specs.Circles.{rings}
use Rattle.rings.proofs.Ringed.{ringed_circles}
use Rattle.rings.proofs.Closed.{one_image}
use Rattle.topology.specs.Rows.{next_of}
use Rattle.topology.proofs.Growth.{grown_twice, grown_used}
use Rattle.topology.proofs.Linking.{linked_rows, linked_drop, linked_size}
use Rattle.topology.proofs.dividing.«Table+Side».link.Goals as goal

pub returns : goal.returns
returns c =
    let t = c.args.self.now in
    let full = t.rows.now in
    let n = t.used in
    let us = take n full in
    let first = c.args.first in
    let second = c.args.second in
    let on = c.renamed-on.ensures in
    let p = c.before-p in
    let q = c.before-q in
    let s = c.in_use-sides.ensures.rows in
    let us_long = c.in_use-sides.ensures.long in
    let lp : p.result < n = omega (arith, p.ensures.low, us_long) in
    let lq : q.result < n = omega (arith, q.ensures.low, us_long) in
    let fp = ap (λ xs. next_of xs p.result) (sym s) ∙ p.ensures.leads in
    let fq = ap (λ xs. next_of xs q.result) (sym s) ∙ q.ensures.leads in
    let fit = c.requires.room in
    let one : (k j : ℕ) → k < n → j < n → next_of us k ≡ next_of us j → k ≡ j = one_image (next_of us) n (rings (next_of us) n) (ringed_circles (next_of us) n c.requires.ringed) in
    let g = grown_twice _ c.push.new.self c.push-2.new.self _ _ c.push.ensures c.push-2.ensures in
    let w = c.push-2.new.self in
    record {
      rows = g.rows ∙ linked_rows full n p.result q.result first second c.args.row c.args.last c.renamed-on.result fit c.requires.first_in c.requires.second_in lp lq fp fq one on;
      rest = g.rest ∙ linked_drop full n p.result q.result first second c.args.row c.args.last c.renamed-on.result fit c.requires.first_in c.requires.second_in lp lq fp fq one on w.used (omega (arith, grown_used _ w _ g));
      long = g.long ∙ linked_size full n p.result q.result first second c.args.row c.args.last c.renamed-on.result fit c.requires.first_in c.requires.second_in lp lq fp fq one on;
      lent = g.lent;
    }
