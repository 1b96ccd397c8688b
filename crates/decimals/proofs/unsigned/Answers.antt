use Rattle.std.proofs.Common.{refl}
use Rattle.decimals.proofs.unsigned.Goals as goal
use Rattle.decimals.proofs.Cuts.{unsigned}

pub returns : goal.returns
returns c = rw c.unwrap_or.ensures (unsigned c.args.text.now c.strip_prefix.result c.args.text c.strip_prefix.ensures.cases refl)
