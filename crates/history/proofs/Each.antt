-- Calls played one after the other, and one more.
use Rattle.std.proofs.Common.{◌≡◌, ℕ, ◌+◌, ◌<◌, List, [], ◌∷◌, ◌++◌, length, get_or, take, set, Result, sym, refl, ap, ◌∙◌, subst, arith}
use Rattle.std.proofs.lemmas.List.{take-set, take_more}
use Rattle.refusal.specs.declared.Refusal.{Refusal}
use Rattle.topology.specs.declared.map.Map.{Map}
use Rattle.topology.specs.declared.vertex.Vertex.{Vertex}
use Rattle.calls.specs.declared.call.Call.{Call}
use Rattle.calls.specs.declared.answer.Answer.{Answer}
use Rattle.calls.specs.Outcomes.{Played}
use Rattle.history.specs.Runs.{PlayedEach}

pub one_more : (cs : List (Call (List Vertex))) (more : List (Result Answer Refusal)) (c : Call (List Vertex)) (a : Result Answer Refusal) (was mid is : Map) (before left text : List ℕ) →
    PlayedEach cs was mid before left more → Played c mid is left text a → PlayedEach (cs ++ c ∷ []) was is before text (more ++ a ∷ [])
one_more [] [] c a was mid is before left text e p =
    (is, text, subst (λ (m : Map). Played c m is before text a) e.0 (subst (λ (t : List ℕ). Played c mid is t text a) e.1 p), (refl, refl))
one_more [] (b ∷ more) c a was mid is before left text e p = absurd e
one_more (d ∷ cs) [] c a was mid is before left text e p = absurd e
one_more (d ∷ cs) (b ∷ more) c a was mid is before left text (m, t, q, r) p = (m, t, q, one_more cs more c a m mid is t left text r p)
