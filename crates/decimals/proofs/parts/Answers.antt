use Rattle.std.proofs.Common.{refl}
use Rattle.decimals.proofs.parts.Goals as goal
use Rattle.decimals.proofs.Cuts.{parted}

pub returns : goal.returns
returns c = let p = parted c.args.text.now c.split_once.result _ c.split_once.ensures.cases refl refl in rw c.unwrap_or.ensures (record { before = p.0; after = p.1 })
