use Rattle.std.proofs.Common.{rules, arith}
use Rattle.topology.specs.Renumbered.{sides_renumbered}
use Rattle.topology.proofs.Growth.{changed_all}
use Rattle.topology.proofs.Renumbers.{none_changed, sides_stay}
use Rattle.topology.proofs.renumbering.renumber_sides.Goals as goal

pub returns-then-numbers : goal.returns-then-numbers
returns-then-numbers c = changed_all (sides_renumbered c.args.numbers) _ (λ x y h. search rules) _ _ c.change_each.ensures

pub returns-else-numbers-unturned-2 : goal.returns-else-numbers-unturned-2
returns-else-numbers-unturned-2 c = none_changed (sides_renumbered c.args.numbers) (sides_stay c.args.numbers c.if-numbers.false (omega arith) (omega arith)) c.args.rows.now
