use Rattle.std.proofs.Common.{rules}
use Rattle.topology.specs.Renumbered.{polygon_renumbered}
use Rattle.topology.proofs.Growth.{changed_all}
use Rattle.topology.proofs.Renumbers.{none_changed, polygons_stay}
use Rattle.topology.proofs.renumbering.renumber_polygons.Goals as goal

pub returns-then-numbers : goal.returns-then-numbers
returns-then-numbers c = changed_all (polygon_renumbered c.args.numbers) _ (λ x y h. search rules) _ _ c.change_each.ensures

pub returns-else-numbers-2 : goal.returns-else-numbers-2
returns-else-numbers-2 c = none_changed (polygon_renumbered c.args.numbers) (polygons_stay c.args.numbers c.if-numbers.false c.if-numbers-2.false) c.args.rows.now
