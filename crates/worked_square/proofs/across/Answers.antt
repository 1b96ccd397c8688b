use Rattle.worked_square.proofs.Working.{nought_is, ten_is}
use Rattle.worked_square.proofs.across.Goals as goal

pub returns : goal.returns
returns c = rw (nought_is, ten_is)
