-- A listing put line after line.
use Rattle.std.proofs.Common.{◌≡◌, ℕ, ◌+◌, true, false, ap, arith}
use Rattle.topology.specs.Rows.{tells}
use Rattle.topology.specs.States.{state_of}
use Rattle.topology.specs.Questions.{rings_of}
use Rattle.listing.specs.declared.puts.Lister.{Lister}
use Rattle.listing.specs.Puts.{Put, Puts}
use Rattle.listing.specs.Texts.{head_line, ring_lines, listing}
use Rattle.listing.proofs.Putting.{puts_then, puts_same, puts_as}
use Rattle.listing.proofs.RingLines.{line_from, lines_below, lines_yes, lines_no}
use Rattle.listing.proofs.Sizes.{listing_short}

-- the line of the ring that side k starts, after those of the rings that begin lower
pub line_more : {was mid is other : Lister} (k : ℕ) → Puts was mid (lines_below (state_of was.map.now) k) → tells (state_of was.map.now).sides k ≡ true → Puts mid is (line_from (state_of mid.map.now) k) → other ≡ is → Puts was other (lines_below (state_of was.map.now) (k + 1))
line_more {was = was} k p t q e =
    puts_as e (puts_same (lines_yes (state_of was.map.now) k t) (puts_then p (puts_same (ap (λ m. line_from (state_of m.now) k) p.map) q)))

-- none, where side k starts no ring
pub line_none : {was is other : Lister} (k : ℕ) → Puts was is (lines_below (state_of was.map.now) k) → tells (state_of was.map.now).sides k ≡ false → other ≡ is → Puts was other (lines_below (state_of was.map.now) (k + 1))
line_none {was = was} k p t e = puts_as e (puts_same (lines_no (state_of was.map.now) k t) p)

-- the line of the counts and those of all rings, from the first byte of the buffer on
pub listed : {was head is : Lister} → was.at ≡ 0 → Puts was head (head_line (state_of was.map.now)) → Puts head is (ring_lines (state_of head.map.now) (rings_of (state_of head.map.now))) → Put was.out.now was.at (listing (state_of was.map.now)) is.out.now is.at × (is.out.ghost_name ≡ was.out.ghost_name)
listed {was = was} e p q =
    let whole = puts_then p (puts_same (ap (λ m. ring_lines (state_of m.now) (rings_of (state_of m.now))) p.map) q) in
    (whole.put (omega (arith, e, listing_short was.map.now)), whole.same)
