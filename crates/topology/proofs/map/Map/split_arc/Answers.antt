use Rattle.std.proofs.Common.{refl, sym, subst}
use Rattle.topology.specs.States.{State, state_of}
use Rattle.topology.specs.Splits.{Parts}
use Rattle.topology.proofs.SplitDone.{row_read, vertex_read, split_few, split_law, state_done, split_agrees, split_parts, rings_kept, used_two}
use Rattle.topology.proofs.map.Map.split_arc.Goals as goal

pub invariant_of-self : goal.invariant_of-self
invariant_of-self c =
    let m = c.args.self.now in
    let a = c.args.arc in
    let k = c.args.k in
    let s = c.part.new.self in
    let v = c.push.new.self in
    let at = row_read m a k c.requires.here c.requires.within in
    let vertex = vertex_read m a k c.requires.here c.requires.within in
    let few = split_few m a k c.requires.here c.requires.within s v _ _ c.requires.room c.part.ensures c.push.ensures at vertex in
    record {
      arcs_few = few.0;
      vertices_few = few.1;
      law = split_law m a k c.requires.here c.requires.within s v _ _ c.requires.room c.part.ensures c.push.ensures at vertex;
    }

pub returns : goal.returns
returns c =
    let m = c.args.self.now in
    let a = c.args.arc in
    let k = c.args.k in
    let s = c.part.new.self in
    let v = c.push.new.self in
    let at = row_read m a k c.requires.here c.requires.within in
    let vertex = vertex_read m a k c.requires.here c.requires.within in
    let state = state_done m a k c.requires.here c.requires.within s v _ _ c.requires.room c.part.ensures c.push.ensures at vertex in
    let parts : Parts (state_of m) _ a k = subst (λ (x : State). Parts (state_of m) x a k) (sym state) (split_parts m a k c.requires.here c.requires.within) in
    record {
      done = record {
        agrees = split_agrees m a k c.requires.here c.requires.within s v _ _ c.requires.room c.part.ensures c.push.ensures at vertex;
        keeps = (c.part.ensures.rest, c.push.ensures.rest);
        sides_lent = c.part.ensures.lent;
        vertices_lent = c.push.ensures.lent;
      };
      parts = parts;
      rings = rings_kept (state_of m) _ a k parts;
      nodes = refl;
      sides = used_two m a k c.requires.here c.requires.within s v _ _ c.requires.room c.part.ensures c.push.ensures at vertex;
    }
