use Rattle.std.proofs.Common.{ap, ◌∙◌}
use Rattle.rings.specs.Law.{opp}
use Rattle.rings.proofs.Opposites.{xor_opp}
use Rattle.rings.proofs.Split.{opp_opp}
use Rattle.rings.proofs.opposite.Goals as goal

pub returns : goal.returns
returns c = record { value = xor_opp c.args.side; back = ap opp (xor_opp c.args.side) ∙ opp_opp c.args.side }
