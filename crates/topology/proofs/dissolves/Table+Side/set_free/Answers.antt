use Rattle.std.proofs.Common.{◌+◌, take, set, refl, ◌∙◌, arith}
use Rattle.std.proofs.lemmas.List.{length-take-le, length-set}
use Rattle.topology.proofs.Growth.{front_new, front_rest, front_long}
use Rattle.topology.proofs.MergesBeside.{freed_from}
use Rattle.topology.proofs.dissolves.«Table+Side».set_free.Goals as goal

pub returns : goal.returns
returns c =
    let t = c.args.self.now in
    let full = t.rows.now in
    let n = t.used in
    let us = take n full in
    let long = length-take-le n full t.fits in
    let X = c.alone_at.result in
    let Y = c.alone_at-2.result in
    let a = c.args.arc in
    let e = length-set (set (c.merge.new.rows) (a + a) X) (a + a + 1) Y ∙ (length-set c.merge.new.rows (a + a) X ∙ (c.merge.ensures.long ∙ long)) in
    record {
      rows = front_new _ full n e t.fits ∙ freed_from us c.merge.new.rows c.args.node a c.merging_where-rings.result X Y (omega (arith, c.requires.here, long)) c.merge.ensures c.merging_where-rings.ensures c.alone_at.ensures c.alone_at-2.ensures;
      rest = front_rest _ full n e t.fits;
      long = front_long _ full n e t.fits;
      lent = refl;
    }
