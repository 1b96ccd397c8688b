use Rattle.std.proofs.Common.{sym, ◌∙◌, arith}
use Rattle.decimals.proofs.digits_after.Goals as goal
use Rattle.decimals.proofs.DigitValues.{over_at}

pub returns-then-m-ge-LIMIT-clause-value : goal.returns-then-m-ge-LIMIT-clause-value
returns-then-m-ge-LIMIT-clause-value c = sym (c.loop-c.invariant.0 ∙ over_at c.loop-c.m c.as_bytes-c-items.result.now c.loop-c.c-index c.loop-c-test.true c.if-not-is_ascii_digit.ensures.cases (omega arith))
