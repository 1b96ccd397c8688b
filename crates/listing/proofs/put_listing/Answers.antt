use Rattle.std.proofs.Common.{refl, rules, arith}
use Rattle.listing.proofs.Listing.{listed}
use Rattle.listing.proofs.put_listing.Goals as goal

pub returns-clause-count : goal.returns-clause-count
returns-clause-count c = let (p, _) = listed refl c.put_head.ensures c.put_rings.ensures in omega (arith, p.next)

pub returns-clause-after : goal.returns-clause-after
returns-clause-after c = let (p, s) = listed refl c.put_head.ensures c.put_rings.ensures in search rules
