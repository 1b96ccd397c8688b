use Rattle.bench_export.proofs.Nesting.{nought_is, one_is}
use Rattle.bench_export.proofs.nests.around.Goals as goal

pub returns : goal.returns
returns c = rw (nought_is, one_is)
