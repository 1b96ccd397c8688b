-- What an edit makes of a map.
use Rattle.std.specs.Prelude.{◌≡◌, drop, Ok, Err, Result}
use Rattle.refusal.specs.declared.Refusal.{Refusal}
use Rattle.topology.specs.declared.map.Map.{Map}
use Rattle.topology.specs.States.{State, state_of}

-- what a call answered, with the state that it left
abbrev pub answered : {X : Type 0} → Result X Refusal → State → Result State Refusal
answered (Ok x) m = Ok m
answered (Err e) m = Err e

-- a refusal leaves the map and both tables as they were; an edit that is taken leaves the free rows
abbrev pub Keeps : {X : Type 0} → Map → Map → Result X Refusal → Type 0
Keeps was is (Ok x) =
    (drop is.sides.used is.sides.rows.now ≡ drop is.sides.used was.sides.rows.now)
    × (drop is.vertices.used is.vertices.rows.now ≡ drop is.vertices.used was.vertices.rows.now)
Keeps was is (Err e) = is ≡ was

-- the call answers as its outcome says, and the map lies in the same tables
pub record Edited {X : Type 0} (f : State → Result State Refusal) (was is : Map) (r : Result X Refusal) : Type 0 where
  pub agrees : answered r (state_of is) ≡ f (state_of was)
  pub keeps : Keeps was is r
  pub sides_lent : is.sides.rows.ghost_name ≡ was.sides.rows.ghost_name
  pub vertices_lent : is.vertices.rows.ghost_name ≡ was.vertices.rows.ghost_name

-- the call was taken, and did as its outcome says
abbrev pub Done : (State → Result State Refusal) → Map → Map → Type 0
Done f was is = Edited {X = Unit {0}} f was is (Ok tt)
