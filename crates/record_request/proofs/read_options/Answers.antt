use Rattle.std.proofs.Common.{rules}
use Rattle.record_request.proofs.read_options.Goals as goal
use Rattle.record_request.proofs.Steps.{window_joined, window_fault, fewer}

pub returns-in_err-window_option-in-text-2 : goal.returns-in_err-window_option-in-text-2
returns-in_err-window_option-in-text-2 c = let fault = c.loop-word.invariant _ (window_fault c.loop-word.given _ _ _ c.in-Some.ensures.cases.0 _ c.as_str.ensures.value c.in-text-2.is c.if-is_none-2.ensures _ c.in_err-window_option-in-text-2.ensures) in search rules

pub loop-word-smaller : goal.loop-word-smaller
loop-word-smaller c = fewer 4 c.loop-word.rest.now c.in-Some.values.now c.after-rest-in-text-2.result.now c.after-rest-in-text-2.ensures c.in-Some.ensures.cases.1

pub loop-word-preserved : goal.loop-word-preserved
loop-word-preserved c = λ r h. c.loop-word.invariant r (window_joined c.loop-word.given _ _ _ c.in-Some.ensures.cases.0 _ c.as_str.ensures.value c.in-text-2.is c.if-is_none-2.ensures _ c.after-rest-in-text-2.result.now r c.in_ok-window_option-in-text-2.ensures c.after-rest-in-text-2.ensures h)
