use Rattle.std.proofs.Common.{refl, rules}
use Rattle.calls.specs.declared.call.Call.TheVariants.{Divide}
use Rattle.call_lines.proofs.Saying.{run_says}
use Rattle.call_lines.proofs.reading.read_division.Goals as goal

pub returns : goal.returns
returns c =
    run_says (λ a run. Divide a.0 a.1 run a.2) (λ a run. Divide a.0 a.1 run a.2) (λ a ws run h. record { call = refl; run = h }) _ (c.in-Some.first, c.in-Some.second, c.in-Some.named) _ _ c.in_ok-read_run.field-0 c.map.result (search rules) c.after.ensures c.in_ok-read_run.ensures (search rules)
