use Rattle.std.proofs.Common.{arith}
use Rattle.std.proofs.lemmas.List.{length-take-le}
use Rattle.topology.proofs.TakenOut.{taken_used}
use Rattle.topology.proofs.LiftDone.{some_node, lift_few, lift_law, lift_lifted}
use Rattle.topology.proofs.map.Map.lift_arc.Goals as goal

pub take_out-self-requires-clause-some_node : goal.take_out-self-requires-clause-some_node
take_out-self-requires-clause-some_node c = some_node c.args.self.now c.args.arc c.requires.here

pub overflow_sub-self : goal.overflow_sub-self
overflow_sub-self c = some_node c.args.self.now c.args.arc c.requires.here

pub invariant_of-self : goal.invariant_of-self
invariant_of-self c =
    let m = c.args.self.now in
    let a = c.args.arc in
    let s = c.take_out-self.new.self in
    let few = lift_few m s a _ c.requires.here c.requires.alone c.requires.leaves c.take_out-self.ensures.rows c.take_out-self.ensures.left in
    record { arcs_few = few.0; vertices_few = few.1; law = lift_law m s a _ c.requires.here c.requires.alone c.requires.leaves c.take_out-self.ensures.rows c.take_out-self.ensures.left }

pub returns-clause-rings : goal.returns-clause-rings
returns-clause-rings c =
    lift_lifted c.args.self.now c.take_out-self.new.self c.args.arc _ c.requires.here c.requires.alone c.requires.leaves c.take_out-self.ensures.rows c.take_out-self.ensures.left

pub returns-clause-nodes : goal.returns-clause-nodes
returns-clause-nodes c = let h = some_node c.args.self.now c.args.arc c.requires.here in omega (arith, h)

pub returns-clause-sides : goal.returns-clause-sides
returns-clause-sides c =
    let m = c.args.self.now in
    omega (arith, taken_used m.sides c.take_out-self.new.self _ _ c.args.arc c.take_out-self.ensures.rows, length-take-le m.sides.used m.sides.rows.now m.sides.fits, c.requires.here)
