use Rattle.std.proofs.Common.{◌≡◌, ◌/◌, ◌%◌, cond, eqb, [], ◌∷◌, ◌++◌, codes, decimal, refl, ap, arith}
use Rattle.std.proofs.lemmas.Bool.{eq-eqb, ne_eqb}
use Rattle.std.proofs.lemmas.Fmt.{length-decimal-le}
use Rattle.listing.specs.Texts.{side_text}
use Rattle.listing.proofs.Putting.{puts_at_then, puts_at_same, put_past, length_side}
use Rattle.listing.proofs.puts.Lister.put_side.Goals as goal
use Rattle.listing.proofs.puts.Lister.put_side.Goals.{then-side-eq0, else-side-eq0}

pub overflow_add-digit_count : goal.overflow_add-digit_count
overflow_add-digit_count c = omega (arith, c.digit_count.ensures, length-decimal-le 20 (c.args.side / 2) (omega arith) (omega arith) (omega arith))

pub returns-after-side-eq0 : goal.returns-after-side-eq0
returns-after-side-eq0 c =
    let s = c.args.side in
    let sign : c.if-side-eq0.put_byte ∷ [] ≡ cond (eqb (s % 2) 0) (codes "+") (codes "-") =
    elim c.if-side-eq0.branch [
      | then-side-eq0 w ↦ rw (w.put_byte-is, eq-eqb (s % 2) 0 w.if-side-eq0.true) refl
      | else-side-eq0 w ↦ rw (w.put_byte-is, ne_eqb (s % 2) 0 w.if-side-eq0.false) refl
    ] in
    record {
      put = puts_at_same (ap (λ t. codes " " ++ (decimal (s / 2) ++ t)) sign) (puts_at_then c.put_byte-number.ensures (puts_at_then c.put_digits-sign.ensures c.put_byte-self.ensures));
      same = refl;
      map = refl;
    }

pub returns-else-self : goal.returns-else-self
returns-else-self c =
    let w = c.args.self.now in
    let l = length_side c.args.side in
    record { put = λ h. record { next = omega (arith, h, l, c.digit_count.ensures, c.saturating_add-self.ensures); after = put_past w.out.now w.at (side_text c.args.side) c.if-self.false }; same = refl; map = refl }
