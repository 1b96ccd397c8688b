-- What a list of calls does, one call after the other.
use Rattle.std.specs.Prelude.{◌≡◌, ℕ, ◌<◌, ◌≤◌, List, [], ◌∷◌, ◌++◌, length, drop, Ok, Err, Result, max}
use Rattle.refusal.specs.declared.Refusal.{Refusal}
use Rattle.refusal.specs.declared.Refusal.TheVariants.{DoesNotFit}
use Rattle.topology.specs.declared.map.Map.{Map}
use Rattle.topology.specs.declared.vertex.Vertex.{Vertex}
use Rattle.topology.specs.States.{State, state_of}
use Rattle.calls.specs.declared.call.Call.{Call}
use Rattle.calls.specs.declared.answer.Answer.{Answer}
use Rattle.calls.specs.Outcomes.{outcome, Played}

-- what calls find and leave: the state of the map, and the text of the last listing with what stood there before
pub record World : Type 0 where
  pub state : State
  pub text : List ℕ

-- a map, and the text beside it
abbrev pub world : Map → List ℕ → World
world m text = record { state = state_of m; text = text }

-- what a call leaves
abbrev pub after : World → Call (List Vertex) → World
after w c = record { state = (outcome c w.state w.text).state; text = (outcome c w.state w.text).text }

-- what it answers
abbrev pub reply : World → Call (List Vertex) → Result Answer Refusal
reply w c = (outcome c w.state w.text).answer

-- what a list of calls leaves, each finding what the one before it left
abbrev pub replayed : World → List (Call (List Vertex)) → World
replayed w [] = w
replayed w (c ∷ cs) = replayed (after w c) cs

-- the answers to them
abbrev pub answers : World → List (Call (List Vertex)) → List (Result Answer Refusal)
answers w [] = []
answers w (c ∷ cs) = reply w c ∷ answers (after w c) cs

-- the most rows that are in use at any time of a list of calls, of sides or of vertices
abbrev pub most : (State → ℕ) → World → List (Call (List Vertex)) → ℕ
most rows w [] = rows w.state
most rows w (c ∷ cs) = max (rows w.state) (most rows (after w c) cs)

abbrev pub sides_used : State → ℕ
sides_used m = length m.sides

abbrev pub vertices_used : State → ℕ
vertices_used m = length m.vertices

-- rows that were never in use stay as they were
pub record FreeRows (most_sides most_vertices : ℕ) (was is : Map) : Type 0 where
  pub free_sides : (k : ℕ) → most_sides ≤ k → drop k is.sides.rows.now ≡ drop k was.sides.rows.now
  pub free_vertices : (k : ℕ) → most_vertices ≤ k → drop k is.vertices.rows.now ≡ drop k was.vertices.rows.now

-- each call was played on what the one before it left
abbrev pub PlayedEach : List (Call (List Vertex)) → Map → Map → List ℕ → List ℕ → List (Result Answer Refusal) → Type 0
PlayedEach [] was is before text [] = (is ≡ was) × (text ≡ before)
PlayedEach [] was is before text (a ∷ more) = ⊥
PlayedEach (c ∷ cs) was is before text [] = ⊥
PlayedEach (c ∷ cs) was is before text (a ∷ more) = (m : Map) × (left : List ℕ) × Played c was m before left a × PlayedEach cs m is left text more

-- the calls were played, or there was no room for the answers and all is as it was
abbrev pub Runs : List (Call (List Vertex)) → Map → Map → List ℕ → List ℕ → List (Result Answer Refusal) → List (Result Answer Refusal) → Result (Unit {0}) Refusal → Type 0
Runs calls was is before text told tell (Ok x) =
    (length calls ≤ length told)
    × (world is text ≡ replayed (world was before) calls)
    × (tell ≡ answers (world was before) calls ++ drop (length calls) told)
    × FreeRows (most sides_used (world was before) calls) (most vertices_used (world was before) calls) was is
Runs calls was is before text told tell (Err e) = (e ≡ DoesNotFit) × (length told < length calls) × (is ≡ was) × (text ≡ before) × (tell ≡ told)

-- .. and the map lies in the same tables
pub record Replayed (calls : List (Call (List Vertex))) (was is : Map) (before text : List ℕ) (told tell : List (Result Answer Refusal)) (r : Result (Unit {0}) Refusal) : Type 0 where
  pub runs : Runs calls was is before text told tell r
  pub sides_lent : is.sides.rows.ghost_name ≡ was.sides.rows.ghost_name
  pub vertices_lent : is.vertices.rows.ghost_name ≡ was.vertices.rows.ghost_name
