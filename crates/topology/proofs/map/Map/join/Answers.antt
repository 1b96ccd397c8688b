use Rattle.std.proofs.Common.{◌≡◌, length, false, ℕ, Err, refl, sym, ap, ◌∙◌, subst, rules}
use Rattle.refusal.specs.declared.Refusal.TheVariants.{NotTwoEndsOfTwoArcs}
use Rattle.topology.specs.States.{state_of}
use Rattle.topology.specs.Islands.{vertex_room}
use Rattle.topology.specs.Joins.{Joined, joined_run}
use Rattle.topology.proofs.JoinStates.{two_told, no_node, no_two, no_room}
use Rattle.topology.proofs.Asked.{taken, refused}
use Rattle.topology.proofs.map.Map.join.Goals as goal

pub returns-then-node-self-clause-edited : goal.returns-then-node-self-clause-edited
returns-then-node-self-clause-edited c =
    record { agrees = sym (no_node (state_of c.args.self.now) c.args.node c.if-node-self.true); keeps = refl; sides_lent = refl; vertices_lent = refl }

pub returns-in_err-stays-clause-edited : goal.returns-in_err-stays-clause-edited
returns-in_err-stays-clause-edited c =
    let m = c.args.self.now in
    let (h, e) = refused _ _ _ _ (sym c.two_ends.ensures ∙ c.in_err-stays.was) in
    let r : c.from_residual.result ≡ Err NotTwoEndsOfTwoArcs = search rules in
    rw r (record { agrees = sym (no_two (state_of m) c.args.node c.if-node-self.false h); keeps = refl; sides_lent = refl; vertices_lent = refl })

pub joined_count-requires : goal.joined_count-requires
joined_count-requires c =
    let (h, e) = taken _ _ _ _ (sym c.two_ends.ensures ∙ c.in_ok-stays.was) in
    two_told (state_of c.args.self.now) c.args.node c.in_ok-stays.stays c.in_ok-stays.goes h (sym (ap (λ p. p.0) e)) (sym (ap (λ p. p.1) e))

pub returns-then-not-has_vertex_room-clause-edited : goal.returns-then-not-has_vertex_room-clause-edited
returns-then-not-has_vertex_room-clause-edited c =
    let m = c.args.self.now in
    let (h, e) = taken _ _ _ _ (sym c.two_ends.ensures ∙ c.in_ok-stays.was) in
    let room : vertex_room (state_of m) (length (joined_run (state_of m).sides (state_of m).vertices c.in_ok-stays.stays c.in_ok-stays.goes)) ≡ false =
    ap (vertex_room (state_of m)) (sym c.joined_count.ensures) ∙ (sym c.has_vertex_room.ensures ∙ c.if-not-has_vertex_room.true) in
    record {
      agrees = sym (no_room (state_of m) c.args.node c.in_ok-stays.stays c.in_ok-stays.goes c.if-node-self.false h (sym (ap (λ p. p.0) e)) (sym (ap (λ p. p.1) e)) room);
      keeps = refl;
      sides_lent = refl;
      vertices_lent = refl;
    }

pub returns-clause-joined : goal.returns-clause-joined
returns-clause-joined c =
    let (h, e) = taken _ _ _ _ (sym c.two_ends.ensures ∙ c.in_ok-stays.was) in
    subst (λ (p : ℕ × ℕ). Joined (state_of c.args.self.now) (state_of c.join_arcs.new.self) p.0 p.1) (sym e) c.join_arcs.ensures.joined
