use Rattle.std.proofs.Common.{rules}
use Rattle.topology.proofs.Turning.{turns_meet}
use Rattle.topology.proofs.map.Map.first_node.Goals as goal

pub returns-clause-turn : goal.returns-clause-turn
returns-clause-turn c = turns_meet c.args.self.now c.args.side c.map.result (search rules)
