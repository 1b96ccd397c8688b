-- Parts of a file, told by place and length. Sums are exact.
use Rattle.std.specs.Prelude.{ℕ, ◌+◌, cond, List, length, Ok, Err, Result, nat_le}
use Rattle.refusal.specs.declared.Refusal.{Refusal}
use Rattle.refusal.specs.declared.Refusal.TheVariants.{PastEnd}

-- A part of n bytes at a place: 1 when it passes the end, an empty one too.
abbrev pub part_outcome : List ℕ → ℕ → ℕ → Result (ℕ × ℕ) Refusal
part_outcome bs at n = cond (nat_le (at + n) (length bs)) (Ok (at, n)) (Err PastEnd)
