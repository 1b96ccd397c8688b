-- Each outcome leaves the law, and moves the sum as it should.
use Rattle.std.proofs.Common.{◌≡◌, ℕ, suc, ◌+◌, ◌-◌, ◌*◌, ◌/◌, ◌<◌, true, ◌&&◌, ltb, List, length, Ok, Err, Result, sym, refl, ap, arith}
use Rattle.std.proofs.lemmas.Bool.{ltb-true, cond_both}
use Rattle.std.proofs.lemmas.List.{length-append}
use Rattle.refusal.specs.declared.Refusal.{Refusal}
use Rattle.refusal.specs.declared.Refusal.TheVariants.{NoSuchElement, UnfitRun, NoRoom, ArcNotClosedAlone, PolygonLosesLastRing}
use Rattle.rings.specs.Circles.{rings}
use Rattle.rings.proofs.Words.{node_low}
use Rattle.topology.specs.declared.vertex.Vertex.{Vertex}
use Rattle.topology.specs.Rows.{next_of, node_of}
use Rattle.topology.specs.States.{State}
use Rattle.topology.specs.Questions.{arc_count}
use Rattle.topology.specs.Kept.{Stands, settled, taken, Moves}
use Rattle.topology.specs.Islands.{closed_run, arc_room, vertex_room, island, island_outcome}
use Rattle.topology.specs.Lifts.{closed_alone, ring_left, lifted, lift_outcome}
use Rattle.topology.proofs.Assembling.{lawful_at}
use Rattle.topology.proofs.IslandLaw.{island_lawful, island_rings}
use Rattle.topology.proofs.LiftLaw.{lift_lawful, lift_rings, lifted_long}

-- what an outcome leaves
pub record Kept (m : State) (up down : ℕ) (o : Result State Refusal) : Type 0 where
  pub stands : Stands (settled m o)
  pub moves : Moves (up * taken o) (down * taken o) m (settled m o)

pub refused : (m : State) (up down : ℕ) (e : Refusal) → Stands m → Kept m up down (Err e)
refused m up down e s = record { stands = s; moves = omega arith }

pub island_kept : (m : State) (p : ℕ) (run : List Vertex) → Stands m → Kept m 1 0 (island_outcome m p run)
island_kept m p run s =
    cond_both (ltb p m.polygons) _ (Err NoSuchElement) (Kept m 1 0)
    (λ k.
    cond_both (closed_run run) _ (Err UnfitRun) (Kept m 1 0)
    (λ f. cond_both (arc_room m && vertex_room m (length run)) (Ok (island m p run)) (Err NoRoom) (Kept m 1 0) (λ _. made (ltb-true p m.polygons k) f) (λ _. refused m 1 0 NoRoom s))
    (λ _. refused m 1 0 UnfitRun s))
    (λ _. refused m 1 0 NoSuchElement s)
  where
    long : length (island m p run).sides ≡ length m.sides + 2
    long = length-append m.sides _

    made : p < m.polygons → closed_run run ≡ true → Kept m 1 0 (Ok (island m p run))
    made k f = record {
      stands = lawful_at (m.nodes + 1) (m.polygons + 1) refl refl (sym long) (island_lawful m.sides m.vertices run m.nodes m.polygons p s k f);
      moves = omega (arith, long, ap (λ (j : ℕ). length (rings (next_of (island m p run).sides) j)) long, island_rings m.sides m.vertices run m.nodes m.polygons p s k f);
    }

pub lift_kept : (m : State) (a : ℕ) → Stands m → Kept m 0 1 (lift_outcome m a)
lift_kept m a s =
    cond_both (ltb a (arc_count m)) _ (Err NoSuchElement) (Kept m 0 1)
    (λ k.
    cond_both (closed_alone m.sides a) _ (Err ArcNotClosedAlone) (Kept m 0 1)
    (λ f. cond_both (ring_left m.sides a) (Ok (lifted m a)) (Err PolygonLosesLastRing) (Kept m 0 1) (λ l. made (ltb-true a (arc_count m) k) f l) (λ _. refused m 0 1 PolygonLosesLastRing s))
    (λ _. refused m 0 1 ArcNotClosedAlone s))
    (λ _. refused m 0 1 NoSuchElement s)
  where
    z : ℕ
    z = length m.sides / 2 - 1

    made : a < arc_count m → closed_alone m.sides a ≡ true → ring_left m.sides a ≡ true → Kept m 0 1 (Ok (lifted m a))
    made k f l =
        let two : length m.sides ≡ suc (suc (z + z)) = omega (arith, s.paired) in
        let L = lawful_at {us = m.sides} {vs = m.vertices} m.nodes m.polygons refl refl two s in
        let long : length (lifted m a).sides ≡ z + z = lifted_long m.sides m.nodes m.polygons z a two (omega arith) in
        let some = node_low (next_of m.sides) (node_of m.sides) (length m.sides) m.nodes s.in_turns s.rings_close s.one_turn 0 (omega arith) in
        let r = lift_rings m.sides m.vertices m.nodes m.polygons z a two (omega arith) L f l in
        let x = ap (λ (j : ℕ). length (rings (next_of m.sides) j)) two in
        let y = ap (λ (j : ℕ). length (rings (next_of (lifted m a).sides) j)) long in
        record {
          stands = lawful_at (m.nodes - 1) (lifted m a).polygons refl refl (sym long) (lift_lawful m.sides m.vertices m.nodes m.polygons z a two (omega arith) L f l);
          moves = omega (arith, two, long, r, x, y, some);
        }
