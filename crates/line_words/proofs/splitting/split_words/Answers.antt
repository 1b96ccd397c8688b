use Rattle.std.proofs.Common.{◌≡◌, ap, ◌∙◌, filter, vec_items, lit<, arith}
use Rattle.std.proofs.lemmas.Iterator.Consumers.{YieldsList-at, YieldsList-end}
use Rattle.std.proofs.lemmas.Iterator.Splits.{YieldsList-from_str_split}
use Rattle.line_words.specs.LineWords.{texts, is_word, words_of}
use Rattle.line_words.proofs.splitting.split_words.Goals as goal

pub returns : goal.returns
returns c =
    let road = YieldsList-from_str_split 32 c.args.line.now (lit< tt) c.split-piece-items.ensures.text c.split-piece-items.ensures.has_more c.split-piece-items.ensures.pattern in
    let all : texts (vec_items c.loop-piece.words) ≡ words_of c.args.line.now = c.loop-piece.invariant ∙ ap (filter is_word) (YieldsList-end (YieldsList-at c.into_iter-piece-iterator.ensures.into_iter_gives road) c.loop-piece.yielded _ c.loop-piece.yielded_by _ _ c.in-None.is c.next.ensures.steps).0 in
    grind arith
