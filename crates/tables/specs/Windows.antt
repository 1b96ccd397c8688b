-- Which records meet a window.
use Rattle.std.specs.Prelude.{◌≡◌, ℕ, zero, suc, ◌+◌, ◌<◌, ◌≤◌, Bool, true, false, cond, ◌&&◌, Some, None, Ok, Err, Option, Result}
use Rattle.refusal.specs.declared.Refusal.{Refusal}
use Rattle.boxes.specs.declared.edges.Edges.{Edges}
use Rattle.boxes.specs.declared.bounds.Bounds.{Bounds}
use Rattle.boxes.specs.Boxes.{fair_edges, edges_of, meets, Share}

-- a box that was answered, by its bounds
abbrev pub told : Result Bounds Refusal → Result Edges Refusal
told (Ok b) = Ok (edges_of b)
told (Err e) = Err e

-- a record meets a window when it has a box, finite and in order, and the two share a place
abbrev pub Meeting : Result Edges Refusal → Edges → Type 0
Meeting (Ok e) w = (fair_edges e ≡ true) × Share e w
Meeting (Err r) w = ⊥

-- the test for it
abbrev pub met : Result Edges Refusal → Edges → Bool
met (Ok e) w = fair_edges e && meets e w
met (Err r) w = false

-- The lowest record from k on, of so many, whose box meets the window; or none.
abbrev pub Lowest : (ℕ → Result Edges Refusal) → ℕ → ℕ → Edges → Option ℕ → Type 0
Lowest boxes count k w None = (i : ℕ) → i < count → k ≤ i → Meeting (boxes i) w → ⊥
Lowest boxes count k w (Some f) = (k ≤ f) × (f < count) × Meeting (boxes f) w × ((i : ℕ) → i < f → k ≤ i → Meeting (boxes i) w → ⊥)

-- how many of the first n are wanted
abbrev pub tally : (ℕ → Bool) → ℕ → ℕ
tally wanted zero = 0
tally wanted (suc k) = tally wanted k + cond (wanted k) 1 0
