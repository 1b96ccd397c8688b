-- Runs of a list: what stands from a place on, and what a write over it leaves.
use Rattle.std.specs.Prelude.{ℕ, ◌+◌, List, ◌++◌, length, take, drop}

-- the n elements of xs from a place on
abbrev pub run : {X : Type 0} → List X → ℕ → ℕ → List X
run xs at n = take n (drop at xs)

-- xs with ws written over what stood from a place on
abbrev pub overwrite : {X : Type 0} → List X → ℕ → List X → List X
overwrite xs at ws = take at xs ++ (ws ++ drop (at + length ws) xs)
