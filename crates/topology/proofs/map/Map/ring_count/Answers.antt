use Rattle.std.proofs.Common.{List, length, sym, ap, ◌∙◌}
use Rattle.rings.specs.Circles.{rings, kept}
use Rattle.topology.specs.declared.side.Side.{Side}
use Rattle.topology.specs.Rows.{next_of, tells}
use Rattle.topology.specs.States.{state_of}
use Rattle.rings.proofs.Listing.{same_count}
use Rattle.rings.proofs.Ringed.{ringed_circles}
use Rattle.rings.proofs.Words.{rings_order}
use Rattle.topology.proofs.Assembling.{lawful_of}
use Rattle.topology.proofs.Lowest.{count_kept}
use Rattle.topology.proofs.map.Map.ring_count.Goals as goal

pub returns : goal.returns
returns c =
    let m = c.args.self.now in
    let us = (state_of m).sides in
    let L = lawful_of m in
    let value =
    c.count_starts.ensures
    ∙ (ap (λ (xs : List Side). length (kept (tells xs) (length xs))) c.in_use.ensures.rows ∙ count_kept us (length us) L.in_rings L.low_along L.low_below L.low_names) in
    let circles = ringed_circles (next_of us) (length us) L.in_rings in
    let order = rings_order (next_of us) (length us) L.in_rings in
    record {
      value = value;
      listed = (circles, order.0, order.1);
      parted = λ cs p. same_count (next_of us) (length us) cs (rings (next_of us) (length us)) p circles ∙ sym value;
    }
