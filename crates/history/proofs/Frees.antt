-- Rows that were never in use stay as they were.
use Rattle.std.proofs.Common.{◌≡◌, ℕ, ◌+◌, ◌-◌, ◌<◌, ◌≤◌, List, [], ◌∷◌, length, get_or, drop, Ok, Result, sym, refl, ap, ◌∙◌, arith, max}
use Rattle.std.proofs.lemmas.List.{at_drop_more, drop-drop, length-take-le}
use Rattle.refusal.specs.declared.Refusal.{Refusal}
use Rattle.topology.specs.declared.map.Map.{Map}
use Rattle.topology.specs.declared.vertex.Vertex.{Vertex}
use Rattle.topology.specs.States.{State, state_of}
use Rattle.calls.specs.declared.call.Call.{Call}
use Rattle.calls.specs.declared.answer.Answer.{Answer}
use Rattle.calls.specs.declared.answer.Answer.TheVariants.{Done}
use Rattle.calls.specs.Outcomes.{Keeps}
use Rattle.history.specs.Runs.{World, after, most, sides_used, vertices_used, FreeRows}

-- the most is no less than what is in use at first, nor than the most of what is left
pub most_first : (rows : State → ℕ) (w : World) (cs : List (Call (List Vertex))) → rows w.state ≤ most rows w cs
most_first rows w [] = omega arith
most_first rows w (c ∷ cs) = omega arith

pub most_next : (rows : State → ℕ) (w : World) (cs : List (Call (List Vertex))) (i : ℕ) (d : Call (List Vertex)) → i < length cs → most rows (after w (get_or cs i d)) (drop (i + 1) cs) ≤ most rows w (drop i cs)
most_next rows w cs i d h =
    let e : most rows w (drop i cs) ≡ max (rows w.state) (most rows (after w (get_or cs i d)) (drop (i + 1) cs)) = at_drop_more (most rows w) cs i d h in omega arith

further : {X : Type 0} (xs ys : List X) (n k : ℕ) → n ≤ k → drop n xs ≡ drop n ys → drop k xs ≡ drop k ys
further xs ys n k l e =
    let s : n + (k - n) ≡ k = omega arith in
    ap (λ (j : ℕ). drop j xs) (sym s) ∙ (sym (drop-drop (k - n) n xs) ∙ (ap (drop (k - n)) e ∙ (drop-drop (k - n) n ys ∙ ap (λ (j : ℕ). drop j ys) s)))

same_free : (was is : Map) (i j : ℕ) → is ≡ was → FreeRows i j was is
same_free was is i j e = record { free_sides = λ k l. ap (λ (m : Map). drop k m.sides.rows.now) e; free_vertices = λ k l. ap (λ (m : Map). drop k m.vertices.rows.now) e }

-- one call leaves the rows past those that it leaves in use
call_free : (was is : Map) (a : Result Answer Refusal) → Keeps was is a → FreeRows (sides_used (state_of is)) (vertices_used (state_of is)) was is
call_free was is (Ok Done) k =
    let s = length-take-le is.sides.used is.sides.rows.now is.sides.fits in
    let v = length-take-le is.vertices.used is.vertices.rows.now is.vertices.fits in
    record {
      free_sides = λ j l. further is.sides.rows.now was.sides.rows.now is.sides.used j (omega (arith, s, l)) k.0;
      free_vertices = λ j l. further is.vertices.rows.now was.vertices.rows.now is.vertices.used j (omega (arith, v, l)) k.1;
    }
call_free was is _ k = same_free was is _ _ k

-- where a loop over calls stands: what is left to do has no more rows in use than the whole, and rows past the most of the whole are free
pub record Frees (v w : World) (cs : List (Call (List Vertex))) (i : ℕ) (was is : Map) : Type 0 where
  pub few_sides : most sides_used w (drop i cs) ≤ most sides_used v cs
  pub few_vertices : most vertices_used w (drop i cs) ≤ most vertices_used v cs
  pub free : FreeRows (most sides_used v cs) (most vertices_used v cs) was is

pub frees_none : (v : World) (cs : List (Call (List Vertex))) (was : Map) → Frees v v cs 0 was was
frees_none v cs was = record { few_sides = omega arith; few_vertices = omega arith; free = same_free was was _ _ refl }

pub frees_turn : (v w w' : World) (cs : List (Call (List Vertex))) (i : ℕ) (d : Call (List Vertex)) (was mid is : Map) (a : Result Answer Refusal) → i < length cs → d ≡ get_or cs i d → w' ≡ after w d → w'.state ≡ state_of is →
    Keeps mid is a → Frees v w cs i was mid → Frees v w' cs (i + 1) was is
frees_turn v w w' cs i d was mid is a h here e q k f =
    let c = call_free mid is a k in
    let t = e ∙ ap (after w) here in
    let ns = most_next sides_used w cs i d h in
    let nv = most_next vertices_used w cs i d h in
    let es = ap (λ (u : World). most sides_used u (drop (i + 1) cs)) t in
    let ev = ap (λ (u : World). most vertices_used u (drop (i + 1) cs)) t in
    let us = most_first sides_used w' (drop (i + 1) cs) in
    let uv = most_first vertices_used w' (drop (i + 1) cs) in
    let qs = ap sides_used q in
    let qv = ap vertices_used q in
    record {
      few_sides = omega (arith, ns, es, f.few_sides);
      few_vertices = omega (arith, nv, ev, f.few_vertices);
      free = record {
        free_sides = λ j l. c.free_sides j (omega (arith, us, qs, ns, es, f.few_sides, l)) ∙ f.free.free_sides j l;
        free_vertices = λ j l. c.free_vertices j (omega (arith, uv, qv, nv, ev, f.few_vertices, l)) ∙ f.free.free_vertices j l;
      };
    }
