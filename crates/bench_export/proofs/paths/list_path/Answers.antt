use Rattle.std.proofs.Common.{◌≡◌, ℕ, length, List, Result, ap, refl, ◌∙◌}
use Rattle.std.proofs.lemmas.Result.{err_from_is_err_and}
use Rattle.refusal.specs.declared.Refusal.{Refusal}
use Rattle.topology.specs.States.{State, state_of, blank}
use Rattle.topology.specs.declared.hand.Hand.TheVariants.{Right}
use Rattle.bench_export.specs.declared.sheets.Place.{Place}
use Rattle.bench_export.specs.Nestings.{size_or_refused, listed_size, listed_leaves}
use Rattle.bench_export.specs.Paths.{path_outcome, path}
use Rattle.bench_export.proofs.paths.list_path.Goals as goal

is_path : (ps : List Place) (cs : List ℕ) (r : Result State Refusal) (k : ℕ) (m : State) → r ≡ path_outcome k ps cs m → k ≡ 32768 → m ≡ blank Right 32768 65536 → r ≡ path ps cs
is_path ps cs r k m e a b = e ∙ ap (λ (j : ℕ). path_outcome j ps cs m) a ∙ ap (path_outcome 32768 ps cs) b

pub returns-in_err-make_path-clause-size : goal.returns-in_err-make_path-clause-size
returns-in_err-make_path-clause-size c =
    let (e, p, q) = err_from_is_err_and c.from_residual.result c.from_residual.ensures.1 in
    let a = is_path c.args.places.now c.args.cuts.now _ _ (state_of c.start-map.result) c.in_err-make_path.ensures refl c.start-map.ensures.state in
    ap size_or_refused p ∙ ap (listed_size (length c.args.out.now)) a

pub returns-in_err-make_path-clause-leaves : goal.returns-in_err-make_path-clause-leaves
returns-in_err-make_path-clause-leaves c =
    let a = is_path c.args.places.now c.args.cuts.now _ _ (state_of c.start-map.result) c.in_err-make_path.ensures refl c.start-map.ensures.state in
    ap (listed_leaves c.args.out.now) a
