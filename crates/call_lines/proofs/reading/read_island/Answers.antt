use Rattle.std.proofs.Common.{refl, rules}
use Rattle.calls.specs.declared.call.Call.TheVariants.{Island}
use Rattle.call_lines.proofs.Saying.{run_says}
use Rattle.call_lines.proofs.reading.read_island.Goals as goal

pub returns : goal.returns
returns c =
    run_says Island Island (λ a ws run h. record { call = refl; run = h }) _ c.in-Some.polygon _ _ c.in_ok-read_run.field-0 c.map.result (search rules) c.after.ensures c.in_ok-read_run.ensures (search rules)
