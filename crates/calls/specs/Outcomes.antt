-- What each call answers and makes of a map, for every map and every argument.
use Rattle.std.specs.Prelude.{◌≡◌, ℕ, cond, List, length, drop, Ok, Err, Result, nat_lt}
use Rattle.std.specs.Result.{result_map_both}
use Rattle.refusal.specs.declared.Refusal.{Refusal}
use Rattle.refusal.specs.declared.Refusal.TheVariants.{NoSuchElement}
use Rattle.topology.specs.declared.map.Map.{Map}
use Rattle.topology.specs.declared.vertex.Vertex.{Vertex}
use Rattle.topology.specs.Rows.{next_of, node_of, polygon_of}
use Rattle.topology.specs.States.{State, state_of}
use Rattle.topology.specs.Questions.{arc_count, rings_of, ring_at, vertex_count, vertex_at}
use Rattle.topology.specs.Islands.{island_outcome}
use Rattle.topology.specs.Lifts.{lift_outcome}
use Rattle.topology.specs.Splits.{split_outcome}
use Rattle.topology.specs.Divisions.{divide_outcome}
use Rattle.topology.specs.Dissolves.{dissolve_outcome}
use Rattle.topology.specs.Joins.{join_outcome}
use Rattle.listing.specs.Texts.{listing, text_outcome, text_leaves}
use Rattle.calls.specs.declared.call.Call.{Call}
use Rattle.calls.specs.declared.call.Call.TheVariants.{Island, Lift, Split, Divide, Dissolve, Join, List as Listing, Counts, Ring, Side, Arc, Vertex as VertexOf}
use Rattle.calls.specs.declared.answer.Answer.{Answer}
use Rattle.calls.specs.declared.answer.Answer.TheVariants.{Done, Listed, Counts as Counted, Ring as RingIs, Side as SideIs, Arc as ArcHas, Vertex as VertexIs}

-- the same call, with what f makes of its run
abbrev pub with_run : {R S : Type 0} → (R → S) → Call R → Call S
with_run f (Island p run) = Island p (f run)
with_run f (Lift a) = Lift a
with_run f (Split a k) = Split a k
with_run f (Divide s t run named) = Divide s t (f run) named
with_run f (Dissolve a) = Dissolve a
with_run f (Join v) = Join v
with_run f Listing = Listing
with_run f Counts = Counts
with_run f (Ring k) = Ring k
with_run f (Side s) = Side s
with_run f (Arc a) = Arc a
with_run f (VertexOf a k) = VertexOf a k

-- what a call leaves: its answer, the state of the map and the text
pub record Outcome : Type 0 where
  pub answer : Result Answer Refusal
  pub state : State
  pub text : List ℕ

-- an edit: the new state, or a refusal and the old one
abbrev pub edit : State → List ℕ → Result State Refusal → Outcome
edit m text (Ok n) = record { answer = Ok Done; state = n; text = text }
edit m text (Err e) = record { answer = Err e; state = m; text = text }

-- the answer made of what was found, or the refusal
abbrev pub told : {X : Type 0} → (X → Answer) → Result X Refusal → Result Answer Refusal
told f r = result_map_both f (λ e. e) r

-- a question leaves the state and the text
abbrev pub ask : State → List ℕ → Result Answer Refusal → Outcome
ask m text a = record { answer = a; state = m; text = text }

abbrev pub side_answer : State → ℕ → Result Answer Refusal
side_answer m s =
    cond (nat_lt s (length m.sides))
    (Ok (SideIs (polygon_of m.sides s) (next_of m.sides s) (node_of m.sides s)))
    (Err NoSuchElement)

abbrev pub counts : State → Answer
counts m = Counted (arc_count m) m.nodes m.polygons (length (rings_of m))

-- what a call on a map with this state leaves, beside this text
abbrev pub outcome : Call (List Vertex) → State → List ℕ → Outcome
outcome (Island p run) m text = edit m text (island_outcome m p run)
outcome (Lift a) m text = edit m text (lift_outcome m a)
outcome (Split a k) m text = edit m text (split_outcome m a k)
outcome (Divide s t run named) m text = edit m text (divide_outcome m s t run named)
outcome (Dissolve a) m text = edit m text (dissolve_outcome m a)
outcome (Join v) m text = edit m text (join_outcome m v)
outcome Listing m text = record { answer = told (λ n. Listed n) (text_outcome (listing m) (length text)); state = m; text = text_leaves (listing m) text }
outcome Counts m text = ask m text (Ok (counts m))
outcome (Ring k) m text = ask m text (told (λ p. RingIs p.0 p.1) (ring_at m k))
outcome (Side s) m text = ask m text (side_answer m s)
outcome (Arc a) m text = ask m text (told (λ n. ArcHas n) (vertex_count m a))
outcome (VertexOf a k) m text = ask m text (told (λ v. VertexIs v) (vertex_at m a k))

-- an edit that is done leaves the free rows of both tables; a refusal or a question leaves the whole map as it was
abbrev pub Keeps : Map → Map → Result Answer Refusal → Type 0
Keeps was is (Ok Done) =
    (drop is.sides.used is.sides.rows.now ≡ drop is.sides.used was.sides.rows.now)
    × (drop is.vertices.used is.vertices.rows.now ≡ drop is.vertices.used was.vertices.rows.now)
Keeps was is _ = is ≡ was

-- a call was played: it left what its outcome says, and the map lies in the same tables
pub record Played (call : Call (List Vertex)) (was is : Map) (before after : List ℕ) (a : Result Answer Refusal) : Type 0 where
  pub agrees : record { answer = a; state = state_of is; text = after } ≡ outcome call (state_of was) before
  pub keeps : Keeps was is a
  pub sides_lent : is.sides.rows.ghost_name ≡ was.sides.rows.ghost_name
  pub vertices_lent : is.vertices.rows.ghost_name ≡ was.vertices.rows.ghost_name
