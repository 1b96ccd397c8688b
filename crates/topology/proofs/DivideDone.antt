-- A map in which a ring is divided.
use Rattle.std.proofs.Common.{◌≡◌, ℕ, suc, ◌+◌, ◌-◌, ◌/◌, ◌<◌, ◌≤◌, true, false, ◌&&◌, ltb, ◌⊎◌, List, ◌++◌, length, get_or, take, drop, Ok, Err, sym, refl, ap, ◌∙◌, subst, inl, inr, add-one, arith, [], ◌∷◌, cond, eqb}
use Rattle.std.proofs.lemmas.Bool.{and_parts, and_from, lt-ltb, cond-true}
use Rattle.std.proofs.lemmas.List.{length-take-le, get_or-take}
use Rattle.refusal.specs.declared.Refusal.TheVariants.{NoSuchElement, SidesInTwoRings, UnfitRun, RunEndsElsewhere, NoRoom}
use Rattle.rings.specs.Circles.{one_if, walk, ring, rings, meets}
use Rattle.rings.specs.Law.{turn}
use Rattle.rings.specs.LetIn.{let_in, divide_after}
use Rattle.rings.specs.Law.{Ringed}
use Rattle.rings.proofs.TwoRings.{came_before}
use Rattle.topology.specs.declared.side.Side.{Side}
use Rattle.topology.specs.declared.vertex.Vertex.{Vertex}
use Rattle.topology.specs.declared.table.Table.{Table}
use Rattle.topology.specs.declared.map.Map.{Map}
use Rattle.topology.specs.declared.arc_side.ArcSide.{ArcSide}
use Rattle.topology.specs.declared.arc_side.ArcSide.TheVariants.{Unturned, Turned}
use Rattle.topology.specs.Rows.{no_side, no_vertex, next_of, polygon_of, start_of, same_place}
use Rattle.topology.specs.States.{State, state_of}
use Rattle.topology.specs.MapLaw.{InRings}
use Rattle.topology.specs.Tables.{Holds, Grown}
use Rattle.topology.specs.Lawfuls.{Lawful}
use Rattle.topology.specs.Questions.{Rises}
use Rattle.topology.specs.Islands.{arc_room, vertex_room}
use Rattle.topology.specs.Divisions.{ring_told, linked, unturned_polygon, turned_polygon, divided_sides, fit_run, leads, divided, divide_outcome, RingDivided}
use Rattle.topology.proofs.Growth.{held_used, grown_used}
use Rattle.topology.proofs.Assembling.{lawful_at, lawful_of, state_from, room_told}
use Rattle.topology.proofs.RingTold.{told_long, told_else}
use Rattle.topology.proofs.DivideLaw.{linked_long, linked_rings, next', long', rings_more, two_apart, in_just_one, other_rings, unturned_list, turned_list, turn_list, divide_lawful, at_unturned, at_turned, at_other}

-- ---- tables

held_rings : (w t : Table Side) (xs : List Side) → Holds w t xs → Ringed (next_of xs) (length xs) → InRings (take t.used t.rows.now) t.used
held_rings w t xs h r = subst (λ (k : ℕ). Ringed (next_of (take t.used t.rows.now)) k) (sym (held_used w t xs h)) (subst (λ (ys : List Side). Ringed (next_of ys) (length xs)) (sym h.rows) r)

pub told_rings : (xs : List Side) (s p : ℕ) → Ringed (next_of xs) (length xs) → Ringed (next_of (ring_told xs s p)) (length (ring_told xs s p))
told_rings xs s p r =
    subst (λ (k : ℕ). Ringed (next_of (ring_told xs s p)) k) (sym (told_long xs s p)) (subst (λ (h : ℕ → ℕ). Ringed h (length xs)) (sym (told_else xs s p (λ r. r.next) (λ r. refl))) r)

told_onto : (w t u : Table Side) (xs : List Side) (s p : ℕ) → Holds w t xs → Holds t u (ring_told (take t.used t.rows.now) s p) → Holds w u (ring_told xs s p)
told_onto w t u xs s p h k =
    let e = ap (λ (ys : List Side). ring_told ys s p) h.rows in
    let same : u.used ≡ t.used = held_used t u (ring_told (take t.used t.rows.now) s p) k ∙ (ap length e ∙ (told_long xs s p ∙ sym (held_used w t xs h))) in
    record {
      rows = k.rows ∙ e;
      rest = k.rest ∙ (ap (λ (j : ℕ). drop j t.rows.now) same ∙ (h.rest ∙ ap (λ (j : ℕ). drop j w.rows.now) (sym same)));
      long = k.long ∙ h.long;
      lent = k.lent ∙ h.lent;
    }

-- ---- the state after a division

-- a division that a map takes
pub record Division : Type 0 where
  pub m : Map
  pub first : ℕ
  pub second : ℕ
  pub run : List Vertex
  pub named : ArcSide
  pub first_in : first < length (state_of m).sides
  pub second_in : second < length (state_of m).sides
  pub share : meets (next_of (state_of m).sides) (length (state_of m).sides) first second ≡ true
  pub fit : fit_run run ≡ true
  pub led : leads (state_of m) first second run ≡ true
  pub room : (arc_room (state_of m) && vertex_room (state_of m) (length run)) ≡ true

module _ (d : Division) where
  open d use {m, first, second, run, named, first_in, second_in, share, fit, led, room}

  abbrev us : List Side
  us = (state_of m).sides

  abbrev vs : List Vertex
  vs = (state_of m).vertices

  abbrev f : ℕ → ℕ
  f = next_of us

  abbrev n : ℕ
  n = length us

  L : Lawful us vs n m.nodes m.polygons
  L = lawful_of m

  abbrev old : ℕ
  old = polygon_of us first

  abbrev pu : ℕ
  pu = unturned_polygon named m.polygons old

  abbrev pt : ℕ
  pt = turned_polygon named m.polygons old

  abbrev xs : List Side
  xs = linked us first second (length vs) (length vs + (length run - 1))

  abbrev pub us' : List Side
  us' = divided_sides us first second (length vs) (length vs + (length run - 1)) named m.polygons

  p : (p : ℕ) × (p < n) × (f p ≡ first)
  p = came_before f n first L.in_rings first_in

  q : (q : ℕ) × (q < n) × (f q ≡ second)
  q = came_before f n second L.in_rings second_in

  which : ((pu ≡ m.polygons) × (pt ≡ old)) ⊎ ((pu ≡ old) × (pt ≡ m.polygons))
  which = by named
    where
      by : (a : ArcSide) → ((unturned_polygon a m.polygons old ≡ m.polygons) × (turned_polygon a m.polygons old ≡ old)) ⊎ ((unturned_polygon a m.polygons old ≡ old) × (turned_polygon a m.polygons old ≡ m.polygons))
      by Unturned = inl (refl, refl)
      by Turned = inr (refl, refl)

  linked_ringed : Ringed (next_of xs) (length xs)
  linked_ringed =
      subst (Ringed (next_of xs)) (sym (linked_long us first second (length vs) (length vs + (length run - 1))))
      (linked_rings us vs run m.nodes m.polygons first second p.0 q.0 pu pt L first_in second_in p.1 q.1 p.2 q.2 share)

  linked_used : length xs ≡ n + 2
  linked_used = linked_long us first second (length vs) (length vs + (length run - 1))

  vertices_long : length vs ≡ m.vertices.used
  vertices_long = length-take-le m.vertices.used m.vertices.rows.now m.vertices.fits

  sides_long : n ≡ m.sides.used
  sides_long = length-take-le m.sides.used m.sides.rows.now m.sides.fits

  -- the tables as the code makes them, one after the other
  abbrev code_links : List Side
  code_links = linked us first second m.vertices.used (m.vertices.used + (length run - 1))

  abbrev code_old : ℕ
  code_old = (get_or m.sides.rows.now first no_side).polygon

  same_old : code_old ≡ old
  same_old = ap (λ (r : Side). r.polygon) (sym (get_or-take m.sides.used m.sides.rows.now first no_side (omega (arith, sides_long, first_in))))

  linked_held : (t : Table Side) → Holds m.sides t code_links → Holds m.sides t xs
  linked_held t h = subst (λ (k : ℕ). Holds m.sides t (linked us first second k (k + (length run - 1)))) (sym vertices_long) h

  first_held : (t u : Table Side) (v : ℕ) → v ≡ unturned_polygon named m.polygons code_old → Holds m.sides t code_links →
      Holds t u (ring_told (take t.used t.rows.now) m.sides.used v) → Holds m.sides u (ring_told xs n pu)
  first_held t u v e h k =
      subst (λ (j : ℕ). Holds m.sides u (ring_told xs j pu)) (sym sides_long)
      (subst (λ (w : ℕ). Holds m.sides u (ring_told xs m.sides.used w)) (e ∙ ap (unturned_polygon named m.polygons) same_old)
      (told_onto m.sides t u xs m.sides.used v (linked_held t h) k))

  second_held : (u w : Table Side) (v : ℕ) → v ≡ turned_polygon named m.polygons code_old → Holds m.sides u (ring_told xs n pu) →
      Holds u w (ring_told (take u.used u.rows.now) (m.sides.used + 1) v) → Holds m.sides w us'
  second_held u w v e h k =
      subst (λ (j : ℕ). Holds m.sides w (ring_told (ring_told xs n pu) (j + 1) pt)) (sym sides_long)
      (subst (λ (z : ℕ). Holds m.sides w (ring_told (ring_told xs n pu) (m.sides.used + 1) z)) (e ∙ ap (turned_polygon named m.polygons) same_old)
      (told_onto m.sides u w (ring_told xs n pu) (m.sides.used + 1) v h k))

  pub both_held : (t u w : Table Side) (x y : ℕ) → x ≡ unturned_polygon named m.polygons code_old → y ≡ turned_polygon named m.polygons code_old →
      Holds m.sides t code_links → Holds t u (ring_told (take t.used t.rows.now) m.sides.used x) → Holds u w (ring_told (take u.used u.rows.now) (m.sides.used + 1) y) → Holds m.sides w us'
  both_held t u w x y a b h k l = second_held u w y b (first_held t u x a h k) l

  -- what such a table of so many rows asks of the walks
  walkable : (t : Table Side) (ys : List Side) → Holds m.sides t ys → length ys ≡ n + 2 → Ringed (next_of ys) (length ys) →
      InRings (take t.used t.rows.now) t.used × (m.sides.used + 1 < t.used)
  walkable t ys h e r = (held_rings m.sides t ys h r, omega (arith, held_used m.sides t ys h, e, sides_long))

  pub first_walk : (t : Table Side) → Holds m.sides t code_links → InRings (take t.used t.rows.now) t.used × (m.sides.used + 1 < t.used)
  first_walk t h = walkable t xs (linked_held t h) linked_used linked_ringed

  pub second_walk : (t u : Table Side) (v : ℕ) → v ≡ unturned_polygon named m.polygons code_old → Holds m.sides t code_links →
      Holds t u (ring_told (take t.used t.rows.now) m.sides.used v) → InRings (take u.used u.rows.now) u.used × (m.sides.used + 1 < u.used)
  second_walk t u v e h k = walkable u (ring_told xs n pu) (first_held t u v e h k) (told_long xs n pu ∙ linked_used) (told_rings xs n pu linked_ringed)

  same_next : next_of us' ≡ next_of xs
  same_next = next' us vs run m.nodes m.polygons first second p.0 q.0 pu pt L first_in second_in p.1 q.1 p.2 q.2 share

  so_long : length us' ≡ n + 2
  so_long = long' us vs run m.nodes m.polygons first second p.0 q.0 pu pt L first_in second_in p.1 q.1 p.2 q.2 share

  -- from the linked sides to those that are told
  moved : (P : (ℕ → ℕ) → ℕ → ℕ → Type 0) → P (next_of xs) (n + 2) (suc n) → P (next_of us') (length us') (n + 1)
  moved P h =
      subst (λ (z : ℕ → ℕ). P z (length us') (n + 1)) (sym same_next)
      (subst (λ (k : ℕ). P (next_of xs) k (n + 1)) (sym so_long) (subst (P (next_of xs) (n + 2)) (sym (add-one n)) h))

  pub divide_rings : RingDivided (state_of m) (divided (state_of m) first second run named) first second named
  divide_rings = record {
    one_more =
        moved (λ z k t. length (rings z k) ≡ length (rings f n) + 1)
        (rings_more us vs run m.nodes m.polygons first second p.0 q.0 pu pt L first_in second_in p.1 q.1 p.2 q.2 share ∙ sym (add-one (length (rings f n))));
    apart =
        moved (λ z k t. meets z k n t ≡ false)
        (two_apart us vs run m.nodes m.polygons first second p.0 q.0 pu pt L first_in second_in p.1 q.1 p.2 q.2 share);
    just_one = λ j l.
        moved (λ z k t. one_if (meets z k n j) + one_if (meets z k t j) ≡ one_if (meets f n first j))
        (in_just_one us vs run m.nodes m.polygons first second p.0 q.0 pu pt L first_in second_in p.1 q.1 p.2 q.2 share j l);
    others_stay = λ j l h.
        moved (λ z k t. ring z k j ≡ ring f n j)
        (other_rings us vs run m.nodes m.polygons first second p.0 q.0 pu pt L first_in second_in p.1 q.1 p.2 q.2 share j l h);
    unturned_ring =
        moved (λ z k t. ring z k n ≡ n ∷ second ∷ walk f n first second)
        (unturned_list us vs run m.nodes m.polygons first second p.0 q.0 pu pt L first_in second_in p.1 q.1 p.2 q.2 share);
    turned_ring =
        moved (λ z k t. ring z k (suc n) ≡ suc n ∷ cond (eqb first second) [] (first ∷ walk f n second first))
        (turned_list us vs run m.nodes m.polygons first second p.0 q.0 pu pt L first_in second_in p.1 q.1 p.2 q.2 share);
    turns = λ j l.
        moved (λ z k t. ring (turn z) k j ≡ let_in (divide_after (turn f) n first second) (ring (turn f) n j))
        (turn_list us vs run m.nodes m.polygons first second p.0 q.0 pu pt L first_in second_in p.1 q.1 p.2 q.2 share j l);
    one_more_polygon = refl;
    unturned_under = at_unturned us vs run m.nodes m.polygons first second p.0 q.0 pu pt L first_in second_in p.1 q.1 p.2 q.2 share;
    turned_under = at_turned us vs run m.nodes m.polygons first second p.0 q.0 pu pt L first_in second_in p.1 q.1 p.2 q.2 share;
    others_under = λ j l h. at_other us vs run m.nodes m.polygons first second p.0 q.0 pu pt L first_in second_in p.1 q.1 p.2 q.2 share j l h;
  }

  pub divide_sum : Rises 0 (state_of m) (divided (state_of m) first second run named)
  divide_sum =
      let a : length us' / 2 ≡ (n + 2) / 2 = ap (λ (k : ℕ). k / 2) so_long in
      omega (arith, divide_rings.one_more, a)

  divided_law : Lawful us' (vs ++ run) (n + 2) m.nodes (m.polygons + 1)
  divided_law =
      let (a, b) = and_parts (same_place (get_or run 0 no_vertex) (start_of us vs first)) (same_place (get_or run (length run - 1) no_vertex) (start_of us vs second)) led in
      divide_lawful us vs run m.nodes m.polygons first second p.0 q.0 pu pt L first_in second_in p.1 q.1 p.2 q.2 share which fit a b

  module _ (s : Table Side) (v : Table Vertex) (hs : Holds m.sides s us') (gv : Grown m.vertices v run) where
    used_are : s.used ≡ n + 2
    used_are = held_used m.sides s us' hs ∙ so_long

    -- the rows in use are few enough
    pub divide_few : (s.used ≤ 32768) × (v.used ≤ 1048576)
    divide_few = (omega (arith, used_are, (room_told m (length run) room).1), omega (arith, grown_used m.vertices v run gv, vertices_long, (room_told m (length run) room).3))

    pub divide_law : Lawful (take s.used s.rows.now) (take v.used v.rows.now) s.used m.nodes (m.polygons + 1)
    divide_law = lawful_at m.nodes (m.polygons + 1) (sym hs.rows) (sym gv.rows) (sym used_are) divided_law

    pub divide_state : state_from m.hand s v m.nodes (m.polygons + 1) ≡ divided (state_of m) first second run named
    divide_state =
        ap (λ (x : List Side). of x (take v.used v.rows.now) (length s.rows.now) (length v.rows.now)) hs.rows
        ∙ (ap (λ (x : List Vertex). of us' x (length s.rows.now) (length v.rows.now)) gv.rows
        ∙ (ap (λ (k : ℕ). of us' (vs ++ run) k (length v.rows.now)) hs.long ∙ ap (of us' (vs ++ run) (length m.sides.rows.now)) gv.long))
      where
        of : List Side → List Vertex → ℕ → ℕ → State
        of x y j k = record { hand = m.hand; sides = x; vertices = y; nodes = m.nodes; polygons = m.polygons + 1; side_rows = j; vertex_rows = k }

    pub divide_agrees : Ok (state_from m.hand s v m.nodes (m.polygons + 1)) ≡ divide_outcome (state_of m) first second run named
    divide_agrees =
        ap Ok divide_state
        ∙ sym (cond-true (ltb first n && ltb second n) _ (Err NoSuchElement) (and_from (ltb first n) (ltb second n) (lt-ltb first n first_in) (lt-ltb second n second_in))
        ∙ (cond-true (meets f n first second) _ (Err SidesInTwoRings) share
        ∙ (cond-true (fit_run run) _ (Err UnfitRun) fit
        ∙ (cond-true (leads (state_of m) first second run) _ (Err RunEndsElsewhere) led
        ∙ cond-true (arc_room (state_of m) && vertex_room (state_of m) (length run)) (Ok (divided (state_of m) first second run named)) (Err NoRoom) room))))
