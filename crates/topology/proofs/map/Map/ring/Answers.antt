use Rattle.std.proofs.Common.{List, length, slice_get, ap, ◌∙◌}
use Rattle.std.specs.Option.{ok_or, option_map}
use Rattle.refusal.specs.declared.Refusal.TheVariants.{NoSuchElement}
use Rattle.rings.specs.Circles.{kept}
use Rattle.topology.specs.declared.side.Side.{Side}
use Rattle.topology.specs.Rows.{polygon_of, tells}
use Rattle.topology.specs.States.{state_of}
use Rattle.topology.proofs.Assembling.{lawful_of}
use Rattle.topology.proofs.Lowest.{ring_found}
use Rattle.topology.proofs.map.Map.ring.Goals as goal

pub returns : goal.returns
returns c =
    let us = (state_of c.args.self.now).sides in
    let L = lawful_of c.args.self.now in
    c.ok_or.ensures.value
    ∙ (ap (λ o. ok_or o NoSuchElement)
    (c.find_ring.ensures
    ∙ ap (λ (xs : List Side). option_map (λ s. (polygon_of xs s, s)) (slice_get (kept (tells xs) (length xs)) c.args.k)) c.in_use.ensures.rows)
    ∙ ring_found us (length us) L.in_rings L.low_along L.low_below L.low_names c.args.k)
