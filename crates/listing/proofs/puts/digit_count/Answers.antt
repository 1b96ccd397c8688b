use Rattle.std.proofs.Common.{rules, arith}
use Rattle.listing.proofs.Putting.{counted}
use Rattle.listing.proofs.puts.digit_count.Goals as goal

pub returns : goal.returns
returns c = let e = c.checked_ilog10.ensures in counted c.args.n c.map_or.result _ c.checked_ilog10.result (omega arith) e.none e.power_le e.next_power_gt (λ k h. search rules) c.map_or.ensures
