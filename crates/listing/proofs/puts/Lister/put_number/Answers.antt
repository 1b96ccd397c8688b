use Rattle.std.proofs.Common.{decimal, refl, arith}
use Rattle.listing.proofs.Putting.{put_past}
use Rattle.listing.proofs.puts.Lister.put_number.Goals as goal

pub returns-else-self : goal.returns-else-self
returns-else-self c =
    let w = c.args.self.now in
    record { put = λ h. record { next = omega (arith, h, c.digit_count.ensures, c.saturating_add-self.ensures); after = put_past w.out.now w.at (decimal c.args.n) c.if-self.false }; same = refl; map = refl }
