use Rattle.topology.proofs.IslandDone.{island_few, island_law, island_added}
use Rattle.topology.proofs.map.Map.add_island.Goals as goal

pub invariant_of-self : goal.invariant_of-self
invariant_of-self c =
    let m = c.args.self.now in
    let v = c.push_run.new.self in
    let p = c.args.polygon in
    let run = c.args.run.now in
    let t = c.push.new.self in
    let s = c.push-2.new.self in
    let few = island_few m t s v p run c.requires.known c.requires.closed c.requires.room c.push.ensures c.push-2.ensures c.push_run.ensures in
    record {
      arcs_few = few.0;
      vertices_few = few.1;
      law = island_law m t s v p run c.requires.known c.requires.closed c.requires.room c.push.ensures c.push-2.ensures c.push_run.ensures;
    }

pub returns-clause-rings : goal.returns-clause-rings
returns-clause-rings c =
    island_added c.args.self.now c.push.new.self c.push-2.new.self c.push_run.new.self c.args.polygon c.args.run.now c.requires.known c.requires.closed c.requires.room c.push.ensures
    c.push-2.ensures c.push_run.ensures
