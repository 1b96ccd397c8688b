use Rattle.topology.specs.States.{state_of}
use Rattle.topology.proofs.Assembling.{lawful_of}
use Rattle.topology.proofs.JoinStates.{count_told}
use Rattle.topology.proofs.map.Map.joined_count.Goals as goal

pub returns : goal.returns
returns c =
    let e = c.joined_rows.ensures in
    count_told (state_of c.args.self.now) (lawful_of c.args.self.now) c.args.stays c.args.goes c.requires _ _ _ _ e.whole_start e.whole_end e.rest_start e.rest_end
