-- One turn of a loop over calls, and its end, over what is left to do.
use Rattle.std.proofs.Common.{◌≡◌, ℕ, ◌+◌, ◌<◌, ◌≤◌, List, [], ◌∷◌, ◌++◌, length, get_or, take, drop, set, Result, arith}
use Rattle.std.proofs.lemmas.List.{at_drop_more, at_drop_all, take_more_set, drop-set-lt, drop-drop, append_assoc, append-nil, take-append-drop}
use Rattle.refusal.specs.declared.Refusal.{Refusal}
use Rattle.topology.specs.declared.vertex.Vertex.{Vertex}
use Rattle.calls.specs.declared.call.Call.{Call}
use Rattle.calls.specs.declared.answer.Answer.{Answer}
use Rattle.history.specs.Runs.{World, after, reply, replayed, answers}

-- where the loop stands: v is the start, w now, out the answers now and was at the start
abbrev pub Goes : World → World → List (Call (List Vertex)) → ℕ → List (Result Answer Refusal) → List (Result Answer Refusal) → Type 0
Goes v w cs i out was = (replayed w (drop i cs) ≡ replayed v cs) × (take i out ++ answers w (drop i cs) ≡ answers v cs) × (drop i out ≡ drop i was)

pub turn : (v w w' : World) (cs : List (Call (List Vertex))) (i : ℕ) (c : Call (List Vertex)) (out was : List (Result Answer Refusal)) (a : Result Answer Refusal) → i < length cs → i < length out → c ≡ get_or cs i c →
    w' ≡ after w c → a ≡ reply w c → Goes v w cs i out was → Goes v w' cs (i + 1) (set out i a) was
turn v w w' cs i c out was a h l here e q (f, g, k) =
    let m : replayed w (drop i cs) ≡ replayed (after w (get_or cs i c)) (drop (i + 1) cs) = at_drop_more (replayed w) cs i c h in
    let n : answers w (drop i cs) ≡ reply w (get_or cs i c) ∷ answers (after w (get_or cs i c)) (drop (i + 1) cs) = at_drop_more (answers w) cs i c h in
    let t = take_more_set out i a l in
    let p : (take i out ++ a ∷ []) ++ answers w' (drop (i + 1) cs) ≡ take i out ++ (a ∷ answers w' (drop (i + 1) cs)) = append_assoc (take i out) (a ∷ []) (answers w' (drop (i + 1) cs)) in
    let o : drop (i + 1) (set out i a) ≡ drop (i + 1) out = drop-set-lt (i + 1) out i a (omega arith) in
    let b : drop 1 (drop i out) ≡ drop (i + 1) out = drop-drop 1 i out in
    let d : drop 1 (drop i was) ≡ drop (i + 1) was = drop-drop 1 i was in
    (cc, cc, cc)

pub end : (v w : World) (cs : List (Call (List Vertex))) (i : ℕ) (out was : List (Result Answer Refusal)) → i ≡ length cs →
    Goes v w cs i out was → (w ≡ replayed v cs) × (out ≡ answers v cs ++ drop (length cs) was)
end v w cs i out was h (f, g, k) =
    let le : length cs ≤ i = omega arith in
    let m : replayed w (drop i cs) ≡ w = at_drop_all (replayed w) cs i le in
    let n : answers w (drop i cs) ≡ [] = at_drop_all (answers w) cs i le in
    let p = append-nil (take i out) in
    let o = take-append-drop i out in
    (cc, cc)
