-- What holds after any list of calls.
use Rattle.std.specs.Prelude.{◌≡◌, ℕ, ◌+◌, ◌<◌, true, List, [], ◌∷◌, length}
use Rattle.rings.specs.Circles.{meets}
use Rattle.rings.specs.Law.{opp}
use Rattle.topology.specs.declared.vertex.Vertex.{Vertex}
use Rattle.topology.specs.Rows.{next_of, node_of, polygon_of}
use Rattle.topology.specs.States.{State}
use Rattle.topology.specs.Questions.{RingsListed, TurnMeets}
use Rattle.topology.specs.Kept.{Stands, taken, Moves}
use Rattle.topology.specs.Islands.{island_outcome}
use Rattle.topology.specs.Lifts.{lift_outcome}
use Rattle.calls.specs.declared.call.Call.{Call}
use Rattle.calls.specs.declared.call.Call.TheVariants.{Island, Lift}
use Rattle.history.specs.Runs.{World, after, replayed}

pub record InOrder (m : State) : Type 0 where
  -- every side stands in exactly one ring, once; each ring starts at its lowest side, and they rise by it
  pub rings_listed : RingsListed m
  -- a ring stands under the one polygon of its sides
  pub one_polygon : (s t : ℕ) → s < length m.sides → t < length m.sides → meets (next_of m.sides) (length m.sides) s t ≡ true → polygon_of m.sides s ≡ polygon_of m.sides t
  -- every ring closes: a side ends, where its opposite begins, at the node where its next begins
  pub rings_close : (s : ℕ) → s < length m.sides → node_of m.sides (next_of m.sides s) ≡ node_of m.sides (opp s)
  -- the turn about each node, from whichever side it sets out, meets every side that begins there
  pub turns_meet : (s : ℕ) → s < length m.sides → TurnMeets m s

-- 1 where the call is an island that is taken; likewise a lift
abbrev pub islands_by : World → Call (List Vertex) → ℕ
islands_by w (Island p run) = taken (island_outcome w.state p run)
islands_by w _ = 0

abbrev pub lifts_by : World → Call (List Vertex) → ℕ
lifts_by w (Lift a) = taken (lift_outcome w.state a)
lifts_by w _ = 0

-- how many islands and lifts of a list of calls are taken
abbrev pub islands : World → List (Call (List Vertex)) → ℕ
islands w [] = 0
islands w (c ∷ cs) = islands_by w c + islands (after w c) cs

abbrev pub lifts : World → List (Call (List Vertex)) → ℕ
lifts w [] = 0
lifts w (c ∷ cs) = lifts_by w c + lifts (after w c) cs

-- the map is in order, and nodes + rings - arcs has risen by twice the islands taken and fallen by twice the lifts taken
abbrev pub Lasts : List (Call (List Vertex)) → State → List ℕ → State → Type 0
Lasts calls was text is = InOrder is × Moves (islands (record { state = was; text = text }) calls) (lifts (record { state = was; text = text }) calls) was is

-- so it is after every list of calls, taken or refused, from every state that keeps the law
abbrev pub HistoryLaw : Type 0
HistoryLaw = (w : World) (calls : List (Call (List Vertex))) → Stands w.state → Stands (replayed w calls).state × Lasts calls w.state w.text (replayed w calls).state
