use Rattle.std.proofs.Common.{length, min, ap, ◌∙◌}
use Rattle.std.specs.Slice.Iter.{chunks_rest}
use Rattle.journal_settings.proofs.OptionLaws.{goes_on}
use Rattle.journal_settings.proofs.reading.options.Goals as goal

pub loop-pair-preserved : goal.loop-pair-preserved
loop-pair-preserved c =
    let (size, chunk) = c.in-Some.ensures.steps in
    let rest = chunks_rest c.loop-pair.pair-iterator in
    let two = chunk.1 ∙ ap (λ n. min n (length rest)) c.loop-pair.invariant.1 in (
      goes_on c.loop-pair.given c.in_ok-given.given c.text_at.result.now c.text_at-in-loop-pair.result.now rest c.in-Some.pair.now (chunks_rest c.next.new.self) c.in_ok-given.ensures c.text_at.ensures c.text_at-in-loop-pair.ensures chunk.0 two chunk.2 ∙ c.loop-pair.invariant.0,
      size ∙ c.loop-pair.invariant.1,
    )
