use Rattle.std.proofs.Common.{◌≡◌, map, filter, vec_items}
use Rattle.line_words.specs.LineWords.{texts, is_word}
use Rattle.line_words.proofs.splitting.split_words.Given as goal

abbrev pub invariant-loop-piece : goal.invariant-loop-piece
invariant-loop-piece l = texts (vec_items l.words) ≡ filter is_word (map (λ x. x.now) l.yielded)
