use Rattle.std.proofs.Common.{sym, subst, arith}
use Rattle.topology.specs.States.{State, state_of}
use Rattle.topology.specs.Questions.{Rises}
use Rattle.topology.specs.Tables.{Holds}
use Rattle.topology.specs.Divisions.{RingDivided}
use Rattle.topology.proofs.DivideDone.{Division, us', both_held, first_walk, second_walk, divide_few, divide_law, divide_state, divide_agrees, divide_rings, divide_sum}
use Rattle.topology.proofs.map.Map.divide_ring.Goals.{After-link, After-push_run}
use Rattle.topology.proofs.map.Map.divide_ring.Goals as goal

-- the division that the function makes
abbrev division : After-link → Division
division c = record {
  m = c.args.self.now;
  first = c.args.first;
  second = c.args.second;
  run = c.args.run.now;
  named = c.args.named;
  first_in = c.requires.first_in;
  second_in = c.requires.second_in;
  share = c.requires.share;
  fit = c.requires.fit;
  led = c.requires.led;
  room = c.requires.room;
}

pub tell_ring-requires : goal.tell_ring-requires
tell_ring-requires c =
    let (r, h) = first_walk (division (goal.at.tell_ring-requires c).After-link) c.link.new.self c.link.ensures in
    record { ringed = r; here = omega arith }

pub tell_ring-requires-2 : goal.tell_ring-requires-2
tell_ring-requires-2 c =
    let (r, h) =
    second_walk (division (goal.at.tell_ring-requires-2 c).After-link) c.link.new.self c.tell_ring.new.self c.polygons-unturned.result.0 c.polygons-unturned.ensures.unturned c.link.ensures
    c.tell_ring.ensures in
    record { ringed = r; here = h }

-- the sides, once both rings are told
held : (c : After-push_run) → Holds c.args.self.now.sides c.tell_ring-2.new.self (us' (division (goal.at.invariant_of-self c).After-link))
held c =
    both_held (division (goal.at.invariant_of-self c).After-link) c.link.new.self c.tell_ring.new.self c.tell_ring-2.new.self _ _ c.polygons-unturned.ensures.unturned c.polygons-unturned.ensures.turned c.link.ensures c.tell_ring.ensures
    c.tell_ring-2.ensures

pub invariant_of-self : goal.invariant_of-self
invariant_of-self c =
    let d = division (goal.at.invariant_of-self c).After-link in
    let s = c.tell_ring-2.new.self in
    let v = c.push_run.new.self in
    let few = divide_few d s v (held c) c.push_run.ensures in
    record { arcs_few = few.0; vertices_few = few.1; law = divide_law d s v (held c) c.push_run.ensures }

pub returns : goal.returns
returns c =
    let at = goal.at.returns c in
    let d = division at.After-link in
    let s = c.tell_ring-2.new.self in
    let v = c.push_run.new.self in
    let h = held at.After-push_run in
    let k = divide_state d s v h c.push_run.ensures in
    record {
      done = record {
        agrees = divide_agrees d s v h c.push_run.ensures;
        keeps = (h.rest, c.push_run.ensures.rest);
        sides_lent = h.lent;
        vertices_lent = c.push_run.ensures.lent;
      };
      rings = subst (λ (x : State). RingDivided (state_of d.m) x d.first d.second d.named) (sym k) (divide_rings d);
      sum = subst (λ (x : State). Rises 0 (state_of d.m) x) (sym k) (divide_sum d);
    }
