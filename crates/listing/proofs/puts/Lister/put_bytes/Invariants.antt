use Rattle.std.proofs.Common.{take}
use Rattle.listing.specs.Puts.{Puts}
use Rattle.listing.proofs.puts.Lister.put_bytes.Given as goal

abbrev pub invariant-loop-byte : goal.invariant-loop-byte
invariant-loop-byte l = Puts l.initial.self l.self (take l.byte-index l.bytes)
