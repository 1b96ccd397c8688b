use Rattle.std.proofs.Common.{arith}
use Rattle.topology.specs.States.{state_of}
use Rattle.listing.specs.Texts.{listing}
use Rattle.listing.proofs.Fitting.{fits_leaves}
use Rattle.listing.proofs.list.Goals as goal

pub returns-clause-leaves : goal.returns-clause-leaves
returns-clause-leaves c = let put = c.put_listing.ensures in fits_leaves c.args.out.now (listing (state_of c.args.map.now)) _ (omega arith) c.put_listing-2.ensures.after
