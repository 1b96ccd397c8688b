use Rattle.listing.proofs.Putting.{puts_then}
use Rattle.listing.proofs.puts.Lister.put_count.Goals as goal

pub returns : goal.returns
returns c = puts_then c.put_bytes.ensures c.put_number.ensures
