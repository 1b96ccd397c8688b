-- A split, a division and a dissolve leave the law and the sum.
use Rattle.std.proofs.Common.{◌≡◌, ℕ, suc, ◌+◌, ◌-◌, ◌/◌, ◌<◌, true, false, ◌&&◌, ltb, ◌⊎◌, List, length, get_or, Ok, Err, sym, refl, ap, ◌∙◌, subst, inl, inr, arith}
use Rattle.std.proofs.lemmas.Bool.{ltb-true, cond_both, and_parts}
use Rattle.std.proofs.lemmas.List.{length-map}
use Rattle.refusal.specs.declared.Refusal.TheVariants.{NoSuchElement, UnfitRun, NoRoom, NotInsideArc, SidesInTwoRings, RunEndsElsewhere, SidesShareRing, RingsAlone}
use Rattle.rings.specs.Circles.{rings, meets}
use Rattle.rings.proofs.SplitRings.{some_before}
use Rattle.rings.proofs.TwoRings.{came_before}
use Rattle.topology.specs.declared.side.Side.{Side}
use Rattle.topology.specs.declared.vertex.Vertex.{Vertex}
use Rattle.topology.specs.declared.arc_side.ArcSide.{ArcSide}
use Rattle.topology.specs.declared.arc_side.ArcSide.TheVariants.{Unturned, Turned}
use Rattle.topology.specs.Rows.{no_vertex, next_of, polygon_of, row_of, same_place, start_of}
use Rattle.topology.specs.States.{State}
use Rattle.topology.specs.Questions.{arc_count, rings_of}
use Rattle.topology.specs.Kept.{Stands}
use Rattle.topology.specs.Islands.{arc_room, vertex_room}
use Rattle.topology.specs.Splits.{inside, split, split_outcome}
use Rattle.topology.specs.Divisions.{linked, unturned_polygon, turned_polygon, fit_run, leads, divided, divide_outcome}
use Rattle.topology.specs.Lawfuls.{Lawful}
use Rattle.topology.specs.Lifts.{lifted}
use Rattle.topology.specs.Dissolves.{freed, share_ring, both_alone, set_free, dissolve_outcome}
use Rattle.topology.proofs.Assembling.{lawful_at}
use Rattle.topology.proofs.LiftLaw.{lifted_long}
use Rattle.topology.proofs.FreedLaw.{freed_long}
use Rattle.topology.proofs.DissolveLaw.{dissolve_lawful, dissolve_rings}
use Rattle.topology.proofs.Settled.{Kept, refused}
use Rattle.topology.proofs.SplitLaw.{split_lawful, rings_after, long_after}
use Rattle.topology.proofs.DivideLaw.{long', next', rings_more, divide_lawful}

pub split_kept : (m : State) (a k : ℕ) → Stands m → Kept m 0 0 (split_outcome m a k)
split_kept m a k s =
    cond_both (ltb a (arc_count m)) _ (Err NoSuchElement) (Kept m 0 0)
    (λ h.
    cond_both (inside m.sides a k) _ (Err NotInsideArc) (Kept m 0 0)
    (λ i. cond_both (arc_room m && vertex_room m 1) (Ok (split m a k)) (Err NoRoom) (Kept m 0 0) (λ _. made (ltb-true a (arc_count m) h) i) (λ _. refused m 0 0 NoRoom s))
    (λ _. refused m 0 0 NotInsideArc s))
    (λ _. refused m 0 0 NoSuchElement s)
  where
    made : a < arc_count m → inside m.sides a k ≡ true → Kept m 0 0 (Ok (split m a k))
    made h i =
        let us = m.sides in
        let both : a + a + 1 < length us = omega (arith, h, s.paired) in
        let (x, y) = and_parts (ltb 0 k) (ltb k (row_of us (a + a + 1) - row_of us (a + a))) i in
        let k0 = ltb-true 0 k x in
        let kl = ltb-true k (row_of us (a + a + 1) - row_of us (a + a)) y in
        let (p, lp, e) = some_before (next_of us) (length us) s.in_rings (a + a + 1) both in
        let long = long_after us m.vertices m.nodes m.polygons a k p s both lp e k0 (omega (arith, kl)) in
        let r = rings_after us m.vertices m.nodes m.polygons a k p s both lp e k0 (omega (arith, kl)) in
        let c : length (rings_of (split m a k)) ≡ length (rings_of m) = ap length r ∙ length-map (rings_of m) _ in
        record {
          stands = lawful_at (m.nodes + 1) m.polygons refl refl (sym long) (split_lawful us m.vertices m.nodes m.polygons a k p s both lp e k0 (omega (arith, kl)));
          moves = omega (arith, long, c);
        }

named_apart : (a : ArcSide) (new old : ℕ) → ((unturned_polygon a new old ≡ new) × (turned_polygon a new old ≡ old)) ⊎ ((unturned_polygon a new old ≡ old) × (turned_polygon a new old ≡ new))
named_apart Unturned new old = inl (refl, refl)
named_apart Turned new old = inr (refl, refl)

pub divide_kept : (m : State) (first second : ℕ) (run : List Vertex) (named : ArcSide) → Stands m → Kept m 0 0 (divide_outcome m first second run named)
divide_kept m first second run named s =
    cond_both (ltb first (length us) && ltb second (length us)) _ (Err NoSuchElement) (Kept m 0 0)
    (λ h.
    cond_both (meets (next_of us) (length us) first second) _ (Err SidesInTwoRings) (Kept m 0 0)
    (λ share.
    cond_both (fit_run run) _ (Err UnfitRun) (Kept m 0 0)
    (λ fit.
    cond_both (leads m first second run) _ (Err RunEndsElsewhere) (Kept m 0 0)
    (λ led.
    cond_both (arc_room m && vertex_room m (length run)) (Ok (divided m first second run named)) (Err NoRoom) (Kept m 0 0) (λ _. made h share fit led) (λ _. refused m 0 0 NoRoom s))
    (λ _. refused m 0 0 RunEndsElsewhere s))
    (λ _. refused m 0 0 UnfitRun s))
    (λ _. refused m 0 0 SidesInTwoRings s))
    (λ _. refused m 0 0 NoSuchElement s)
  where
    us : List Side
    us = m.sides

    vs : List Vertex
    vs = m.vertices

    made : (ltb first (length us) && ltb second (length us)) ≡ true → meets (next_of us) (length us) first second ≡ true → fit_run run ≡ true → leads m first second run ≡ true → Kept m 0 0 (Ok (divided m first second run named))
    made h share fit led =
        let (x, y) = and_parts (ltb first (length us)) (ltb second (length us)) h in
        let lf = ltb-true first (length us) x in
        let ls = ltb-true second (length us) y in
        let (p, lp, ep) = came_before (next_of us) (length us) first s.in_rings lf in
        let (q, lq, eq) = came_before (next_of us) (length us) second s.in_rings ls in
        let pu = unturned_polygon named m.polygons (polygon_of us first) in
        let pt = turned_polygon named m.polygons (polygon_of us first) in
        let (a, b) = and_parts (same_place (get_or run 0 no_vertex) (start_of us vs first)) (same_place (get_or run (length run - 1) no_vertex) (start_of us vs second)) led in
        let long = long' us vs run m.nodes m.polygons first second p q pu pt s lf ls lp lq ep eq share in
        let n = next' us vs run m.nodes m.polygons first second p q pu pt s lf ls lp lq ep eq share in
        let r = rings_more us vs run m.nodes m.polygons first second p q pu pt s lf ls lp lq ep eq share in
        let c = ap (λ (g : ℕ → ℕ). length (rings g (length (divided m first second run named).sides))) n in
        let d = ap (λ (k : ℕ). length (rings (next_of (linked us first second (length vs) (length vs + (length run - 1)))) k)) long in
        record {
          stands = lawful_at m.nodes (m.polygons + 1) refl refl (sym long) (divide_lawful us vs run m.nodes m.polygons first second p q pu pt s lf ls lp lq ep eq share (named_apart named m.polygons (polygon_of us first)) fit a b);
          moves = omega (arith, long, c, d, r);
        }

pub dissolve_kept : (m : State) (a : ℕ) → Stands m → Kept m 0 0 (dissolve_outcome m a)
dissolve_kept m a s =
    cond_both (ltb a (arc_count m)) _ (Err NoSuchElement) (Kept m 0 0)
    (λ h.
    cond_both (share_ring m.sides a) (Err SidesShareRing) _ (Kept m 0 0) (λ _. refused m 0 0 SidesShareRing s)
    (λ apart.
    cond_both (both_alone m.sides a) (Err RingsAlone) (Ok (lifted (set_free m a) a)) (Kept m 0 0) (λ _. refused m 0 0 RingsAlone s) (λ some. made (ltb-true a (arc_count m) h) apart some)))
    (λ _. refused m 0 0 NoSuchElement s)
  where
    z : ℕ
    z = length m.sides / 2 - 1

    made : a < arc_count m → share_ring m.sides a ≡ false → both_alone m.sides a ≡ false → Kept m 0 0 (Ok (lifted (set_free m a) a))
    made h apart some =
        let us = m.sides in
        let vs = m.vertices in
        let two : length us ≡ suc (suc (z + z)) = omega (arith, s.paired) in
        let here : a < suc z = omega arith in
        let L = lawful_at {us = us} {vs = vs} m.nodes m.polygons refl refl two s in
        let long₁ = freed_long us vs m.nodes m.polygons z a two here L apart some in
        let long : length (lifted (set_free m a) a).sides ≡ z + z = lifted_long (freed us m.nodes a) (m.nodes + 1) m.polygons z a long₁ here in
        let same : m.nodes + 1 - 1 ≡ m.nodes = omega arith in
        let r = dissolve_rings us vs m.nodes m.polygons z a two here L apart some in
        let x = ap (λ (j : ℕ). length (rings (next_of us) j)) two in
        let y = ap (λ (j : ℕ). length (rings (next_of (lifted (set_free m a) a).sides) j)) long in
        let law = dissolve_lawful us vs m.nodes m.polygons z a two here L apart some in
        record {
          stands =
              subst (λ (k : ℕ). Lawful (lifted (set_free m a) a).sides vs (length (lifted (set_free m a) a).sides) k (lifted (set_free m a) a).polygons) (sym same)
              (lawful_at m.nodes (lifted (set_free m a) a).polygons refl refl (sym long) law);
          moves = omega (arith, two, long, r, x, y, same);
        }
