-- What is read of words that say a call.
use Rattle.std.proofs.Common.{◌≡◌, ℕ, List, [], Some, None, Option, Vec, option_map, vec_items, refl, arith}
use Rattle.std.specs.declared.alloc.Global.{Global}
use Rattle.topology.specs.declared.vertex.Vertex.{Vertex}
use Rattle.calls.specs.declared.call.Call.{Call}
use Rattle.calls.specs.Outcomes.{with_run}
use Rattle.call_lines.specs.declared.expected.Expected.{Expected}
use Rattle.call_lines.specs.declared.expected.Expected.TheVariants.{AnyCall, IslandCall, SplitCall, DivideCall, ListCall, CountsCall, VertexCall}
use Rattle.call_lines.specs.Spoken.{none, one, two, and_run, runless_call, call_of, Run, RunOf, Same, SaysCall}

pub no_run : Run [] []
no_run = record { long = refl; each = λ k l. absurd (omega arith) }

-- the same arguments make the same call
made : {A : Type 0} (f : A → Call (List (List ℕ))) (g : A → Call (Vec Vertex Global)) → ((a : A) → Same (f a) (with_run vec_items (g a))) → (o : Option A) → SaysCall (option_map f o) (option_map g o)
made f g s None = refl
made f g s (Some a) = (f a, refl, s a)

-- a call without a run
pub runless_says : (verb : Expected) (ws : List (List ℕ)) → (verb ≡ IslandCall → ⊥) → (verb ≡ DivideCall → ⊥) → SaysCall (call_of verb ws) (runless_call verb ws)
runless_says AnyCall ws n m = refl
runless_says IslandCall ws n m = absurd (n refl)
runless_says DivideCall ws n m = absurd (m refl)
runless_says ListCall ws n m = made _ _ (λ _. record { call = refl; run = no_run }) (none ws)
runless_says CountsCall ws n m = made _ _ (λ _. record { call = refl; run = no_run }) (none ws)
runless_says SplitCall ws n m = made _ _ (λ a. record { call = refl; run = no_run }) (two ws)
runless_says VertexCall ws n m = made _ _ (λ a. record { call = refl; run = no_run }) (two ws)
runless_says _ ws n m = made _ _ (λ a. record { call = refl; run = no_run }) (one ws)

-- what stands before a run, and the run that words write
pub run_says : {A : Type 0} (f : A → List (List ℕ) → Call (List (List ℕ))) (g : A → Vec Vertex Global → Call (Vec Vertex Global)) → ((a : A) (ws : List (List ℕ)) (run : Vec Vertex Global) → Run ws (vec_items run) → Same (f a ws) (with_run vec_items (g a run)))
    → (head : Option A) (a : A) (ws vs : List (List ℕ)) (o : Option (Vec Vertex Global)) (r : Option (Call (Vec Vertex Global))) → head ≡ Some a → vs ≡ ws → RunOf vs o → r ≡ option_map (g a) o → SaysCall (option_map (λ p. f p.0 p.1) (and_run head ws)) r
run_says f g s head a ws vs None r e q h m = rw (e, ← q, h, m) refl
run_says f g s head a ws vs (Some run) r e q h m = rw (e, ← q, h.0, m) (f a vs, refl, s a vs run h.1)
