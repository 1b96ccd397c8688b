-- What is said where a request has no report.
use Rattle.std.specs.Prelude.{ℕ, List, codes}
use Rattle.refusal.specs.Numbers.{refusal_text}
use Rattle.record_answer.specs.declared.unanswered.Unanswered.{Unanswered}
use Rattle.record_answer.specs.declared.unanswered.Unanswered.TheVariants.{NoMemory, Refused, NoBoxes}

abbrev pub unanswered_text : Unanswered → List ℕ
unanswered_text NoMemory = codes "no memory for the report"
unanswered_text (Refused e) = refusal_text e
unanswered_text NoBoxes = codes "nodes have no boxes, so a NOD file cannot be searched by window"
