use Rattle.call_lines.proofs.Saying.{runless_says}
use Rattle.call_lines.proofs.reading.read_call.Goals as goal

pub returns-in_default : goal.returns-in_default
returns-in_default c = rw c.runless_call.ensures (runless_says c.args.verb _ c.in_default.not-IslandCall c.in_default.not-DivideCall)
