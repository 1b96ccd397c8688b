use Rattle.std.proofs.Common.{◌≡◌, ◌<◌, length, sym, ap, ◌∙◌, subst, arith}
use Rattle.topology.specs.States.{state_of}
use Rattle.listing.proofs.Putting.{puts_same}
use Rattle.listing.proofs.RingLines.{lines_below, lines_all}
use Rattle.listing.proofs.Listing.{line_more, line_none}
use Rattle.listing.proofs.puts.Lister.put_rings.Goals as goal
use Rattle.listing.proofs.puts.Lister.put_rings.Goals.{then-starts_ring, else-starts_ring}

pub put_ring-requires : goal.put_ring-requires
put_ring-requires c =
    subst (λ m. c.loop-side.side < length (state_of m.now).sides) (sym c.loop-side.invariant.map) (omega (arith, c.side_count-side-end.ensures.value, c.loop-side-test.true))

pub loop-side-preserved : goal.loop-side-preserved
loop-side-preserved c =
    let s = c.loop-side.side in
    elim c.if-starts_ring.branch [
      | then-starts_ring w ↦ line_more s c.loop-side.invariant (sym c.starts_ring.ensures ∙ w.if-starts_ring.true) w.put_ring.ensures w.self-is
      | else-starts_ring w ↦ line_none s c.loop-side.invariant (sym c.starts_ring.ensures ∙ w.if-starts_ring.false) w.self-is
    ]

pub returns : goal.returns
returns c =
    let m = state_of c.args.self.now.map.now in
    let e : c.loop-side.side ≡ length m.sides = omega (arith, c.side_count-side-end.ensures.value, c.loop-side-test.false, c.loop-side.auto.side-end) in
    puts_same (ap (lines_below m) e ∙ sym (lines_all c.args.self.now.map.now)) c.loop-side.invariant
