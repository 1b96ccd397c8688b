-- The law over all lists of calls.
use Rattle.std.proofs.Common.{◌≡◌, ℕ, ◌*◌, List, [], ◌∷◌, length, Ok, Err, Result, sym, refl, ap, ◌∙◌, subst, arith}
use Rattle.refusal.specs.declared.Refusal.{Refusal}
use Rattle.rings.specs.Circles.{rings}
use Rattle.rings.specs.Law.{opp}
use Rattle.rings.proofs.Ringed.{ringed_circles}
use Rattle.rings.proofs.Words.{rings_order, turn_meets}
use Rattle.rings.proofs.Division.{same_ring}
use Rattle.rings.proofs.Split.{opp_low, opp_opp}
use Rattle.topology.specs.declared.vertex.Vertex.{Vertex}
use Rattle.topology.specs.Rows.{next_of, node_of, polygon_of}
use Rattle.topology.specs.States.{State}
use Rattle.topology.specs.Kept.{Stands, settled, taken, Moves}
use Rattle.topology.specs.Islands.{island_outcome}
use Rattle.topology.specs.Lifts.{lift_outcome}
use Rattle.topology.specs.Splits.{split_outcome}
use Rattle.topology.specs.Divisions.{divide_outcome}
use Rattle.topology.specs.Dissolves.{dissolve_outcome}
use Rattle.topology.specs.Joins.{join_outcome}
use Rattle.topology.proofs.Settled.{Kept, island_kept, lift_kept}
use Rattle.topology.proofs.SettledSplits.{split_kept, divide_kept, dissolve_kept}
use Rattle.topology.proofs.JoinStates.{join_kept}
use Rattle.calls.specs.declared.call.Call.{Call}
use Rattle.calls.specs.declared.call.Call.TheVariants.{Island, Lift, Split, Divide, Dissolve, Join}
use Rattle.calls.specs.Outcomes.{edit}
use Rattle.history.specs.Runs.{World, after, replayed}
use Rattle.history.specs.Law.{InOrder, islands_by, lifts_by, islands, lifts, HistoryLaw}

-- the law, in words
pub in_order : (m : State) → Stands m → InOrder m
in_order m s =
    let us = m.sides in
    let n = length us in
    let f = next_of us in
    let c = ringed_circles f n s.in_rings in
    let o = rings_order f n s.in_rings in
    record {
      rings_listed = (c, o.0, o.1);
      one_polygon = λ a b la lb h. sym (same_ring f (polygon_of us) n (rings f n) c s.one_polygon a b la lb (λ _. h));
      rings_close = λ x l. ap (λ (y : ℕ). node_of us (f y)) (sym (opp_opp x)) ∙ s.rings_close (opp x) (opp_low n x s.paired l);
      turns_meet = λ x l y ly e. turn_meets f (node_of us) n m.nodes s.in_turns s.rings_close s.one_turn x y l ly e;
    }

-- what a call leaves
abbrev Steps : World → World → ℕ → ℕ → Type 0
Steps w v up down = Stands v.state × Moves up down w.state v.state

still : (w : World) (text : List ℕ) → Stands w.state → Steps w (record { state = w.state; text = text }) 0 0
still w text s = (s, omega arith)

edited : (m : State) (text : List ℕ) (o : Result State Refusal) → settled m o ≡ (edit m text o).state
edited m text (Ok n) = refl
edited m text (Err e) = refl

took : (w : World) (up down : ℕ) (o : Result State Refusal) → Kept w.state up down o →
    Stands (edit w.state w.text o).state × Moves (up * taken o) (down * taken o) w.state (edit w.state w.text o).state
took w up down o k =
    let e = edited w.state w.text o in
    (subst Stands e k.stands, subst (λ (n : State). Moves (up * taken o) (down * taken o) w.state n) e k.moves)

pub one_call : (w : World) (c : Call (List Vertex)) → Stands w.state → Steps w (after w c) (islands_by w c) (lifts_by w c)
one_call w (Island p run) s =
    let r = took w 1 0 (island_outcome w.state p run) (island_kept w.state p run s) in
    (r.0, omega (arith, r.1))
one_call w (Lift a) s =
    let r = took w 0 1 (lift_outcome w.state a) (lift_kept w.state a s) in
    (r.0, omega (arith, r.1))
one_call w (Split a k) s =
    let r = took w 0 0 (split_outcome w.state a k) (split_kept w.state a k s) in
    (r.0, omega (arith, r.1))
one_call w (Divide i j run named) s =
    let r = took w 0 0 (divide_outcome w.state i j run named) (divide_kept w.state i j run named s) in
    (r.0, omega (arith, r.1))
one_call w (Dissolve a) s =
    let r = took w 0 0 (dissolve_outcome w.state a) (dissolve_kept w.state a s) in
    (r.0, omega (arith, r.1))
one_call w (Join v) s =
    let r = took w 0 0 (join_outcome w.state v) (join_kept w.state v s) in
    (r.0, omega (arith, r.1))
one_call w _ s = still w w.text s

all_calls : (w : World) (cs : List (Call (List Vertex))) → Stands w.state → Steps w (replayed w cs) (islands w cs) (lifts w cs)
all_calls w [] s = (s, omega arith)
all_calls w (c ∷ cs) s =
    let a = one_call w c s in
    let b = all_calls (after w c) cs a.0 in
    (b.0, omega (arith, a.1, b.1))

pub history_law : HistoryLaw
history_law w cs s = let r = all_calls w cs s in (r.0, (in_order (replayed w cs).state r.0, r.1))
