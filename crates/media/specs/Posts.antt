-- What the calls of a medium answer, and what reads from bytes do, for all arguments. Sums are exact: numbers here have no largest.
use Rattle.std.specs.Prelude.{◌≡◌, ℕ, ◌+◌, ◌<◌, ◌≤◌, List, length, Ok, Err, Result}
use Rattle.refusal.specs.declared.Refusal.{Refusal}
use Rattle.refusal.specs.declared.Refusal.TheVariants.{PastEnd}
use Rattle.media.specs.Runs.{run, overwrite}

-- A read, of a medium that holds bs, of as many bytes as the buffer has: was and is are the buffer before and after.
-- It is refused exactly when the run passes the end, and then the buffer is as it was.
abbrev pub Read : {X : Type 0} → List ℕ → ℕ → List ℕ → List ℕ → Result X Refusal → Type 0
Read bs at was is (Ok x) = (at + length was ≤ length bs) × (is ≡ run bs at (length was))
Read bs at was is (Err e) = (length bs < at + length was) × (is ≡ was) × (e ≡ PastEnd)

-- A write of ws: was and is are the medium's bytes before and after.
-- It is refused exactly when the run passes the end, and then the bytes are as they were.
abbrev pub Written : {X : Type 0} → List ℕ → ℕ → List ℕ → List ℕ → Result X Refusal → Type 0
Written was at ws is (Ok x) = (at + length ws ≤ length was) × (is ≡ overwrite was at ws)
Written was at ws is (Err e) = (length was < at + length ws) × (is ≡ was) × (e ≡ PastEnd)

-- A field of n bytes at a place, which means v, is read: refused exactly when it passes the end.
abbrev pub Field : {X : Type 0} → List ℕ → ℕ → ℕ → X → Result X Refusal → Type 0
Field bs at n v (Ok x) = (at + n ≤ length bs) × (x ≡ v)
Field bs at n v (Err e) = (length bs < at + n) × (e ≡ PastEnd)
