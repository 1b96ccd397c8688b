-- Single bits of the flag byte and of the VFG byte.
use Rattle.std.specs.Prelude.{ℕ, ◌+◌, ◌/◌, ◌%◌, ◌^◌, Bool, cond, ◌==◌}

-- bit k of a byte
abbrev pub bit : ℕ → ℕ → Bool
bit b k = b / 2 ^ k % 2 == 1

-- the VFG byte of an entry: bit 0 external edge, bit 1 end of ring, bit 2 turned
abbrev pub vfg_byte : Bool → Bool → Bool → ℕ
vfg_byte external last turned = cond external 1 0 + cond last 2 0 + cond turned 4 0
