use Rattle.line_words.proofs.WordLaws.{rest_is}
use Rattle.line_words.proofs.texts.after.Goals as goal

pub returns : goal.returns
returns c = rest_is _ c.args.words.now c.args.n c.get.result c.unwrap_or_default.result c.get.ensures.lookup.0 c.unwrap_or_default.ensures (λ _ e. e)
