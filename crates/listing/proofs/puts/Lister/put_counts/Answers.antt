use Rattle.listing.proofs.Putting.{puts_then}
use Rattle.listing.proofs.puts.Lister.put_counts.Goals as goal

pub returns : goal.returns
returns c = puts_then c.put_count.ensures (puts_then c.put_count-2.ensures (puts_then c.put_count-3.ensures (puts_then c.put_count-4.ensures c.put_byte.ensures)))
