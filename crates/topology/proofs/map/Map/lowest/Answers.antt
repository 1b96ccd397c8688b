use Rattle.std.proofs.Common.{rules}
use Rattle.topology.proofs.LowestSides.{lowest_told}
use Rattle.topology.proofs.map.Map.lowest.Goals as goal

pub returns-clause-lowest : goal.returns-clause-lowest
returns-clause-lowest c = lowest_told c.args.self.now c.args.side c.map.result (search rules)
