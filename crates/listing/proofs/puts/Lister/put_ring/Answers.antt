use Rattle.std.proofs.Common.{ℕ, ◌++◌, length, codes, decimal, ap, ◌∙◌, rules}
use Rattle.rings.specs.Circles.{ring}
use Rattle.topology.specs.Rows.{next_of}
use Rattle.topology.specs.States.{state_of}
use Rattle.listing.specs.Puts.{ring_at}
use Rattle.listing.specs.Texts.{sides_text}
use Rattle.listing.proofs.Putting.{puts_then, puts_same}
use Rattle.listing.proofs.puts.Lister.put_ring.Goals as goal

pub returns : goal.returns
returns c =
    let text = sides_text (ring_at c.args.self.now c.args.start) in
    let sides =
    puts_same (ap (λ m. sides_text (ring (next_of (state_of m.now).sides) (length (state_of m.now).sides) c.args.start)) (c.put_byte.ensures.map ∙ c.put_number.ensures.map))
    c.put_sides.ensures in
    puts_same (ap (λ (p : ℕ). decimal p ++ (codes ":" ++ (text ++ codes "\n"))) (search rules))
    (puts_then c.put_number.ensures (puts_then c.put_byte.ensures (puts_then sides c.put_byte-2.ensures)))
