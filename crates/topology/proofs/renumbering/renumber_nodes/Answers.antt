use Rattle.std.proofs.Common.{rules}
use Rattle.topology.specs.Renumbered.{node_renumbered}
use Rattle.topology.proofs.Growth.{changed_all}
use Rattle.topology.proofs.Renumbers.{none_changed, nodes_stay}
use Rattle.topology.proofs.renumbering.renumber_nodes.Goals as goal

pub returns-then-numbers : goal.returns-then-numbers
returns-then-numbers c = changed_all (node_renumbered c.args.numbers) _ (λ x y h. search rules) _ _ c.change_each.ensures

pub returns-else-numbers : goal.returns-else-numbers
returns-else-numbers c = none_changed (node_renumbered c.args.numbers) (nodes_stay c.args.numbers c.if-numbers.false) c.args.rows.now
