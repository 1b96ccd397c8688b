-- Where a line ends.
use Rattle.std.specs.Prelude.{ℕ, ◌-◌, cond, ◌&&◌, List, length, take, ◌==◌, nat_lt, slice_index}

-- without the byte b at the end, where it stands there
abbrev pub without : ℕ → List ℕ → List ℕ
without b bs = cond (nat_lt 0 (length bs) && slice_index bs (length bs - 1) == b) (take (length bs - 1) bs) bs

-- a line feed, and a carriage return before it, end a line; the last line may have none
abbrev pub line_of : List ℕ → List ℕ
line_of bs = without 13 (without 10 bs)
