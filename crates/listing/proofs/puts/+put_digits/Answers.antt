use Rattle.std.proofs.Common.{sym, arith}
use Rattle.listing.proofs.Putting.{puts_at_then, puts_at_same, last_two, last_four}
use Rattle.listing.proofs.puts.+put_digits.Goals as goal

pub returns-then-n-lt10000 : goal.returns-then-n-lt10000
returns-then-n-lt10000 t c = puts_at_same (sym (last_two c.args.n (omega arith) (omega arith))) (puts_at_then c.put_short-last.ensures c.put_two.ensures)

pub returns-then-n-lt1000000 : goal.returns-then-n-lt1000000
returns-then-n-lt1000000 t c =
    puts_at_same (sym (last_four c.args.n (omega arith) (omega arith))) (puts_at_then c.put_short-last-then-n-lt1000000.ensures c.put_four.ensures)

pub put_digits-last-requires : goal.put_digits-last-requires
put_digits-last-requires t c = omega arith

pub returns : goal.returns
returns t c = puts_at_same (sym (last_four c.args.n (omega arith) (omega arith))) (puts_at_then c.put_digits-last.ensures c.put_four-2.ensures)
