use Rattle.std.proofs.Common.{◌≡◌, ◌+◌, ◌-◌, length, refl, sym, ap, ◌∙◌, subst, Ok, arith}
use Rattle.topology.specs.States.{State, state_of}
use Rattle.topology.specs.Questions.{Rises}
use Rattle.topology.specs.Joins.{Joined, joined_run}
use Rattle.topology.proofs.Assembling.{lawful_of, vertices_told}
use Rattle.topology.proofs.TakenOut.{taken_used}
use Rattle.topology.proofs.JoinStates.{two_told, lt, ls, run_many, leads_t, leads_s, count_told, pushed_is, join_means, join_sum, join_outcome_is}
use Rattle.topology.proofs.JoinDone.{sides_long, used_now, vertices_long, went_used, join_few, join_law, state_done, rest_kept, lent_kept}
use Rattle.topology.proofs.map.Map.join_arcs.Goals as goal

pub joined_rows-requires : goal.joined_rows-requires
joined_rows-requires c = two_told (state_of c.args.self.now) c.args.node c.args.stays c.args.goes c.requires.two c.requires.lower c.requires.higher

pub overflow_cast-stays : goal.overflow_cast-stays
overflow_cast-stays c =
    let m = c.args.self.now in
    let w = two_told (state_of m) c.args.node c.args.stays c.args.goes c.requires.two c.requires.lower c.requires.higher in
    omega (arith, ls (state_of m) (lawful_of m) c.args.stays c.args.goes w, used_now m c.args.stays c.args.goes w, m.arcs_few)

pub overflow_cast-goes : goal.overflow_cast-goes
overflow_cast-goes c =
    let m = c.args.self.now in
    let w = two_told (state_of m) c.args.node c.args.stays c.args.goes c.requires.two c.requires.lower c.requires.higher in
    omega (arith, lt (state_of m) (lawful_of m) c.args.stays c.args.goes w, used_now m c.args.stays c.args.goes w, m.arcs_few)

pub go_on-requires : goal.go_on-requires
go_on-requires c =
    let m = c.args.self.now in
    let w = two_told (state_of m) c.args.node c.args.stays c.args.goes c.requires.two c.requires.lower c.requires.higher in
    record {
      ringed = m.law.in_rings;
      turned = m.law.in_turns;
      even = m.law.paired;
      goes_in = omega (arith, w.below, sides_long m c.args.stays c.args.goes w);
      rising = omega (arith, w.rising, w.arcs);
      to_goes = leads_t (state_of m) (lawful_of m) c.args.stays c.args.goes w;
      to_stays = leads_s (state_of m) (lawful_of m) c.args.stays c.args.goes w;
      one_node = sym w.same;
    }

pub take_out-self-requires : goal.take_out-self-requires
take_out-self-requires c =
    let m = c.args.self.now in
    let w = two_told (state_of m) c.args.node c.args.stays c.args.goes c.requires.two c.requires.lower c.requires.higher in
    let u = went_used m c.args.stays c.args.goes w c.go_on.new.self _ _ c.go_on.ensures in
    record {
      here = omega (arith, u, w.below, sides_long m c.args.stays c.args.goes w, m.law.paired);
      even = omega (arith, u, m.law.paired);
      few = omega (arith, u, m.arcs_few);
      some_node = omega (arith, c.requires.known);
      nodes_few = omega (arith, u, m.law.nodes_few);
      some_polygon = m.law.polygon_zero;
      polygons_few = omega (arith, u, m.law.polygons_few);
    }

pub put_back-requires : goal.put_back-requires
put_back-requires c =
    let m = c.args.self.now in
    let w = two_told (state_of m) c.args.node c.args.stays c.args.goes c.requires.two c.requires.lower c.requires.higher in
    let u = went_used m c.args.stays c.args.goes w c.go_on.new.self _ _ c.go_on.ensures in
    let s = taken_used c.go_on.new.self c.take_out-self.new.self _ _ _ c.take_out-self.ensures.rows in
    omega (arith, s, u, used_now m c.args.stays c.args.goes w, c.take_out-self.ensures.rows.long, c.go_on.ensures.long, m.sides.fits)

pub push_joined-requires-clause-room : goal.push_joined-requires-clause-room
push_joined-requires-clause-room c =
    let m = c.args.self.now in
    let w = two_told (state_of m) c.args.node c.args.stays c.args.goes c.requires.two c.requires.lower c.requires.higher in
    let j = c.joined_rows.ensures in
    let k = count_told (state_of m) (lawful_of m) c.args.stays c.args.goes w _ _ _ _ j.whole_start j.whole_end j.rest_start j.rest_end in
    omega (arith, k, (vertices_told m _ c.requires.room).0, vertices_long m c.args.stays c.args.goes w)

pub invariant_of-self : goal.invariant_of-self
invariant_of-self c =
    let m = c.args.self.now in
    let v = c.args.node in
    let s = c.args.stays in
    let t = c.args.goes in
    let w = two_told (state_of m) v s t c.requires.two c.requires.lower c.requires.higher in
    let j = c.joined_rows.ensures in
    let k = count_told (state_of m) (lawful_of m) s t w _ _ _ _ j.whole_start j.whole_end j.rest_start j.rest_end in
    let p = pushed_is (state_of m) (lawful_of m) s t w _ _ _ _ j.whole_start j.whole_end j.rest_start j.rest_end in
    let l : m.vertices.used + (c.joined_rows.result.0.end - c.joined_rows.result.0.start) + (c.joined_rows.result.1.end - c.joined_rows.result.1.start) - 1 + 1 ≡ m.vertices.used + length (joined_run (state_of m).sides (state_of m).vertices s t) = omega (arith, k, run_many (state_of m) (lawful_of m) s t w) in
    let few = join_few m s t w c.go_on.new.self c.take_out-self.new.self c.put_back.new.self c.push_joined.new.self _ _ _ _ c.requires.room refl l c.go_on.ensures c.take_out-self.ensures.rows c.put_back.ensures c.take_out-self.ensures.left c.push_joined.ensures p in
    record {
      arcs_few = few.0;
      vertices_few = few.1;
      law = join_law m s t w c.go_on.new.self c.take_out-self.new.self c.put_back.new.self c.push_joined.new.self _ _ _ _ c.requires.room refl l c.go_on.ensures c.take_out-self.ensures.rows c.put_back.ensures c.take_out-self.ensures.left c.push_joined.ensures p;
    }

pub returns : goal.returns
returns c =
    let m = c.args.self.now in
    let v = c.args.node in
    let s = c.args.stays in
    let t = c.args.goes in
    let w = two_told (state_of m) v s t c.requires.two c.requires.lower c.requires.higher in
    let j = c.joined_rows.ensures in
    let k = count_told (state_of m) (lawful_of m) s t w _ _ _ _ j.whole_start j.whole_end j.rest_start j.rest_end in
    let p = pushed_is (state_of m) (lawful_of m) s t w _ _ _ _ j.whole_start j.whole_end j.rest_start j.rest_end in
    let l : m.vertices.used + (c.joined_rows.result.0.end - c.joined_rows.result.0.start) + (c.joined_rows.result.1.end - c.joined_rows.result.1.start) - 1 + 1 ≡ m.vertices.used + length (joined_run (state_of m).sides (state_of m).vertices s t) = omega (arith, k, run_many (state_of m) (lawful_of m) s t w) in
    let i = state_done m s t w c.go_on.new.self c.take_out-self.new.self c.put_back.new.self c.push_joined.new.self _ _ _ _ c.requires.room refl l c.go_on.ensures c.take_out-self.ensures.rows c.put_back.ensures c.take_out-self.ensures.left c.push_joined.ensures p in
    record {
      done = record {
        agrees = ap Ok i ∙ sym (join_outcome_is (state_of m) (lawful_of m) s t w v c.requires.known c.requires.two c.requires.lower c.requires.higher c.requires.room);
        keeps = (
          rest_kept m s t w c.go_on.new.self c.take_out-self.new.self c.put_back.new.self c.push_joined.new.self _ _ _ _ c.requires.room refl l c.go_on.ensures c.take_out-self.ensures.rows c.put_back.ensures c.take_out-self.ensures.left c.push_joined.ensures p,
          c.push_joined.ensures.rest,
        );
        sides_lent = lent_kept m s t w c.go_on.new.self c.take_out-self.new.self c.put_back.new.self c.push_joined.new.self _ _ _ _ c.requires.room refl l c.go_on.ensures c.take_out-self.ensures.rows c.put_back.ensures c.take_out-self.ensures.left c.push_joined.ensures p;
        vertices_lent = c.push_joined.ensures.lent;
      };
      joined = subst (λ (x : State). Joined (state_of m) x s t) (sym i) (join_means (state_of m) (lawful_of m) s t w (omega (arith, c.requires.known)));
      sum = subst (λ (x : State). Rises 0 (state_of m) x) (sym i) (join_sum (state_of m) (lawful_of m) s t w (omega (arith, c.requires.known)));
    }
