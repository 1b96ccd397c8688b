use Rattle.std.proofs.Common.{refl, arith}
use Rattle.topology.proofs.TakenOut.{taken_used}
use Rattle.topology.proofs.DissolveDone.{room, used_now, free_used, rest_kept, lent_kept, dissolve_few, dissolve_law, dissolve_agrees, dissolve_merged, dissolve_sum}
use Rattle.topology.proofs.map.Map.dissolve_arc.Goals as goal

pub take_out-self-requires : goal.take_out-self-requires
take_out-self-requires c =
    let m = c.args.self.now in
    let a = c.args.arc in
    let t = free_used m a c.set_free.new.self c.set_free.ensures in
    record {
      here = omega (arith, t, used_now m a c.requires.here c.requires.apart c.requires.some, c.requires.here);
      even = omega (arith, t, used_now m a c.requires.here c.requires.apart c.requires.some);
      few = omega (arith, t, m.arcs_few);
      some_node = omega arith;
      nodes_few = omega (arith, t, room m a c.requires.here c.requires.apart c.requires.some);
      some_polygon = m.law.polygon_zero;
      polygons_few = omega (arith, t, m.law.polygons_few);
    }

pub put_back-requires : goal.put_back-requires
put_back-requires c =
    let m = c.args.self.now in
    let a = c.args.arc in
    let here = c.requires.here in
    let apart = c.requires.apart in
    let some = c.requires.some in
    let t = free_used m a c.set_free.new.self c.set_free.ensures in
    let s = taken_used c.set_free.new.self c.take_out-self.new.self _ _ a c.take_out-self.ensures.rows in
    omega (arith, s, t, used_now m a here apart some, c.take_out-self.ensures.rows.long, c.set_free.ensures.long, m.sides.fits)

pub invariant_of-self : goal.invariant_of-self
invariant_of-self c =
    let m = c.args.self.now in
    let few = dissolve_few m c.args.arc c.requires.here c.requires.apart c.requires.some c.set_free.new.self c.take_out-self.new.self c.put_back.new.self _ c.set_free.ensures c.take_out-self.ensures.rows c.put_back.ensures c.take_out-self.ensures.left in
    record {
      arcs_few = few.0;
      vertices_few = few.1;
      law = dissolve_law m c.args.arc c.requires.here c.requires.apart c.requires.some c.set_free.new.self c.take_out-self.new.self c.put_back.new.self _ c.set_free.ensures c.take_out-self.ensures.rows c.put_back.ensures c.take_out-self.ensures.left;
    }

pub returns : goal.returns
returns c =
    let m = c.args.self.now in
    let a = c.args.arc in
    let here = c.requires.here in
    let apart = c.requires.apart in
    let some = c.requires.some in
    let t = c.set_free.new.self in
    let s = c.take_out-self.new.self in
    let w = c.put_back.new.self in
    let free = c.set_free.ensures in
    let shrunk = c.take_out-self.ensures.rows in
    let told = c.take_out-self.ensures.left in
    let back = c.put_back.ensures in
    record {
      done = record {
        agrees = dissolve_agrees m a here apart some t s w _ free shrunk back told;
        keeps = (rest_kept m a here apart some t s w _ free shrunk back told, refl);
        sides_lent = lent_kept m a here apart some t s w _ free shrunk back told;
        vertices_lent = refl;
      };
      rings = dissolve_merged m a here apart some t s w _ free shrunk back told;
      sum = dissolve_sum m a here apart some t s w _ free shrunk back told;
    }
