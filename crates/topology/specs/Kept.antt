-- What an outcome leaves of the law and of the sum, for a state by itself.
use Rattle.std.specs.Prelude.{◌≡◌, ℕ, ◌+◌, ◌*◌, length, Ok, Err, Result}
use Rattle.refusal.specs.declared.Refusal.{Refusal}
use Rattle.topology.specs.States.{State}
use Rattle.topology.specs.Lawfuls.{Lawful}
use Rattle.topology.specs.Questions.{arc_count, rings_of}

-- the state keeps the law of maps
abbrev pub Stands : State → Type 0
Stands m = Lawful m.sides m.vertices (length m.sides) m.nodes m.polygons

-- the state that an outcome leaves: a refusal leaves the old one
abbrev pub settled : State → Result State Refusal → State
settled m (Ok n) = n
settled m (Err e) = m

-- 1 where the edit was taken
abbrev pub taken : Result State Refusal → ℕ
taken (Ok n) = 1
taken (Err e) = 0

-- nodes + rings - arcs rises by twice the one number and falls by twice the other; said without a difference, since the sum may fall below zero
abbrev pub Moves : ℕ → ℕ → State → State → Type 0
Moves up down was is = is.nodes + length (rings_of is) + arc_count was + 2 * down ≡ was.nodes + length (rings_of was) + arc_count is + 2 * up
