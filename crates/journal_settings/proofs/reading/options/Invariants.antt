use Rattle.std.proofs.Common.{◌≡◌}
use Rattle.std.specs.Slice.Iter.{chunks_rest, chunks_size}
use Rattle.line_words.specs.LineWords.{texts}
use Rattle.journal_settings.specs.Settings.{options, nothing}
use Rattle.journal_settings.proofs.reading.options.Given as goal

abbrev pub invariant-loop-pair : goal.invariant-loop-pair
invariant-loop-pair l = (options l.given (texts (chunks_rest l.pair-iterator)) ≡ options nothing (texts l.words)) × (chunks_size l.pair-iterator ≡ 2)
