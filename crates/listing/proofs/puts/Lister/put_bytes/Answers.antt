use Rattle.std.proofs.Common.{sym, arith}
use Rattle.std.proofs.lemmas.List.{take_more}
use Rattle.listing.proofs.Putting.{puts_then, puts_same}
use Rattle.listing.proofs.puts.Lister.put_bytes.Goals as goal

pub loop-byte-preserved : goal.loop-byte-preserved
loop-byte-preserved c = puts_same (sym (take_more c.args.bytes.now c.loop-byte.byte-index 0 (omega arith))) (puts_then c.loop-byte.invariant c.put_byte.ensures)
