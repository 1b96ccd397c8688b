-- The text of a report, byte for byte.
use Rattle.std.specs.Prelude.{◌≡◌, ℕ, zero, suc, ◌<◌, ◌≤◌, Bool, true, false, cond, List, [], ◌++◌, Some, None, Option}
use Rattle.kinds.specs.declared.kind.Kind.{Kind}
use Rattle.layout.specs.declared.version.Version.{Version}
use Rattle.tables.specs.Windows.{tally}
use Rattle.record_lines.specs.Texts.{head_text, foot_text}

-- the lines of the first n records, of those that are wanted
abbrev pub lines : (ℕ → Bool) → (ℕ → List ℕ) → ℕ → List ℕ
lines wanted text zero = []
lines wanted text (suc k) = lines wanted text k ++ cond (wanted k) (text k) []

-- the whole report on a table of so many records
abbrev pub report_text : Kind → Version → ℕ → (ℕ → Bool) → (ℕ → List ℕ) → List ℕ
report_text kind version count wanted text = head_text kind version count ++ (lines wanted text count ++ foot_text (tally wanted count))

abbrev pub every : ℕ → Bool
every k = true

-- a record from k on, of so many; or none
abbrev pub Later : ℕ → ℕ → Option ℕ → Type 0
Later count k None = Unit {0}
Later count k (Some f) = (k ≤ f) × (f < count)

-- the lowest record from k on, of so many, that is wanted; or none
abbrev pub Next : (ℕ → Bool) → ℕ → ℕ → Option ℕ → Type 0
Next wanted count k None = (i : ℕ) → i < count → k ≤ i → wanted i ≡ false
Next wanted count k (Some f) = (k ≤ f) × (f < count) × (wanted f ≡ true) × ((i : ℕ) → i < f → k ≤ i → wanted i ≡ false)
