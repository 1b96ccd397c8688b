use Rattle.std.proofs.Common.{map, ap, ◌∙◌}
use Rattle.topology.specs.Renumbered.{node_renumbered, polygon_renumbered}
use Rattle.topology.proofs.Renumbers.{in_turn}
use Rattle.topology.proofs.renumbering.renumber.Goals as goal

pub returns : goal.returns
returns c =
    let n = c.args.numbers in
    c.renumber_polygons.ensures
    ∙ (ap (map (polygon_renumbered n)) (c.renumber_nodes.ensures ∙ ap (map (node_renumbered n)) c.renumber_sides.ensures) ∙ in_turn n c.args.rows.now)
