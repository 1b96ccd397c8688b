use Rattle.std.proofs.Common.{rules, ◌∙◌}
use Rattle.decimals.proofs.is_plain.Goals as goal
use Rattle.decimals.proofs.DigitValues.{plain_steps}

pub returns-then-is_short : goal.returns-then-is_short
returns-then-is_short c =
    c.is_some.ensures ∙ plain_steps c.args.text.now c.parts.result.0.now c.parts.result.1.now c.digits_after.result c.and_then.result _ c.parts.ensures.before c.parts.ensures.after c.if-is_short.ensures c.digits_after.ensures.value (λ n h. search rules) c.and_then.ensures
