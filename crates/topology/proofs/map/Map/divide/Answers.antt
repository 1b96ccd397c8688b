use Rattle.std.proofs.Common.{◌&&◌, ltb, length, sym, ◌∙◌, rules, tests}
use Rattle.topology.specs.States.{state_of}
use Rattle.topology.proofs.Asked.{refused}
use Rattle.topology.proofs.map.Map.divide.Goals as goal

pub returns-in_err-share_ring-clause-edited : goal.returns-in_err-share_ring-clause-edited
returns-in_err-share_ring-clause-edited c =
    let n = length (state_of c.args.self.now).sides in
    let r = refused (ltb c.args.first n && ltb c.args.second n) _ _ _ (sym c.share_ring.ensures ∙ c.in_err-share_ring.was) in
    let absent = r.0 in
    let why = r.1 in
    search (rules, tests, absent, why)
