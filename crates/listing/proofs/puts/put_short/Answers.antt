use Rattle.std.proofs.Common.{sym, arith}
use Rattle.std.proofs.lemmas.Fmt.{decimal_digit}
use Rattle.listing.proofs.Putting.{puts_at_same, two_digits}
use Rattle.listing.proofs.puts.put_short.Goals as goal

pub returns-then-n-lt10 : goal.returns-then-n-lt10
returns-then-n-lt10 c = puts_at_same (sym (decimal_digit c.args.n (omega arith))) c.put_byte.ensures

pub returns : goal.returns
returns c = puts_at_same (sym (two_digits c.args.n (omega arith) (omega (arith, c.requires)))) c.put_two.ensures
