use Rattle.std.proofs.Common.{◌≡◌, rules, sym}
use Rattle.listing.specs.Puts.{step}
use Rattle.topology.specs.Rows.{next_of}
use Rattle.topology.specs.States.{state_of}
use Rattle.listing.proofs.Putting.{rest_more, rest_same}
use Rattle.listing.proofs.Walked.{left_on}
use Rattle.listing.proofs.puts.Lister.put_sides.Goals as goal

pub loop-side-preserved : goal.loop-side-preserved
loop-side-preserved c =
    let us = (state_of c.args.self.now.map.now).sides in
    let ((e, k), n) = c.in-Some.ensures.steps in
    let (r, fm, fs) = c.loop-side.invariant in
    let q : c.next.new.self.iter.item ≡ step (next_of us) c.args.start c.in-Some.side = search rules in
    let m : c.next.new.self.iter.f.0.now ≡ c.args.self.now.map.now = search rules in
    let g : c.next.new.self.iter.f.1.now ≡ c.args.start = search rules in
    (rest_more (rest_same (left_on (next_of us) c.args.start _ _ _ _ c.in-Some.side (sym e) n q) r) c.put_side.ensures, m, g)
