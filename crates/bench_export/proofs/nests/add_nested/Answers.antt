use Rattle.std.proofs.Common.{◌≡◌, ℕ, ◌+◌, ◌≤◌, List, Err, Result, ap, ◌∙◌, arith}
use Rattle.std.proofs.lemmas.Result.{err_from_is_err_and}
use Rattle.refusal.specs.declared.Refusal.{Refusal}
use Rattle.topology.specs.declared.vertex.Vertex.{Vertex}
use Rattle.topology.specs.States.{state_of}
use Rattle.topology.specs.Edited.{answered}
use Rattle.topology.specs.Islands.{island_outcome}
use Rattle.bench_export.specs.Nestings.{nested}
use Rattle.bench_export.proofs.Nesting.{nested_more, nested_refused}
use Rattle.bench_export.proofs.nests.add_nested.Goals as goal

pub returns-in_err-island : goal.returns-in_err-island
returns-in_err-island c =
    let m = state_of c.args.map.now in
    let s = state_of c.loop-k.map in
    let k = c.loop-k.k in
    let l : k + 1 ≤ c.args.islands = omega arith in
    let (e, p, q) = err_from_is_err_and c.from_residual.result c.from_residual.ensures.1 in
    let a = c.in_err-island.ensures.edited.agrees ∙ ap (λ (vs : List Vertex). island_outcome s k vs) c.around.ensures ∙ nested_more m s k c.loop-k.invariant in
    ap (λ (r : Result (Unit {0}) Refusal). answered r (state_of c.island.new.self)) p
    ∙ ap (λ (x : Refusal). Err x) q ∙ nested_refused m c.in_err-island.field-0.0 c.args.islands (k + 1) l a

pub loop-k-preserved : goal.loop-k-preserved
loop-k-preserved c =
    let m = state_of c.args.map.now in
    let s = state_of c.loop-k.map in
    let k = c.loop-k.k in
    c.in_ok-island.ensures.edited.agrees ∙ ap (λ (vs : List Vertex). island_outcome s k vs) c.around.ensures ∙ nested_more m s k c.loop-k.invariant

pub returns : goal.returns
returns c =
    let e : c.loop-k.k ≡ c.args.islands = omega arith in
    c.loop-k.invariant ∙ ap (λ (j : ℕ). nested j (state_of c.args.map.now)) e
