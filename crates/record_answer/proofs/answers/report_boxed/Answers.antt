use Rattle.std.proofs.Common.{rules}
use Rattle.record_answer.proofs.answers.report_boxed.Goals as goal

pub returns-in-Some : goal.returns-in-Some
returns-in-Some g c = rw c.in-Some.is (search rules)
