-- The lines of a report, byte for byte.
use Rattle.std.specs.Prelude.{ℕ, List, ◌++◌, Ok, Err, codes, decimal, Result}
use Rattle.refusal.specs.declared.Refusal.{Refusal}
use Rattle.refusal.specs.Numbers.{refusal_text}
use Rattle.kinds.specs.declared.kind.Kind.{Kind}
use Rattle.kinds.specs.Letters.{kind_text}
use Rattle.layout.specs.declared.version.Version.{Version}
use Rattle.layout.specs.Versions.{version_text}

-- a place and a length, or the refusal
abbrev pub extent_text : Result (ℕ × ℕ) Refusal → List ℕ
extent_text (Ok (place, n)) = decimal place ++ (codes " " ++ decimal n)
extent_text (Err e) = refusal_text e

-- a line: the number of a record, where the record lies, and where its list does
abbrev pub line_of : ℕ → List ℕ → List ℕ → List ℕ
line_of k place list = decimal k ++ (codes " record " ++ (place ++ (codes " list " ++ (list ++ codes "\n"))))

-- the line of record k
abbrev pub line : (ℕ → Result (ℕ × ℕ) Refusal) → (ℕ → Result (ℕ × ℕ) Refusal) → ℕ → List ℕ
line places lists k = line_of k (extent_text (places k)) (extent_text (lists k))

abbrev pub head_text : Kind → Version → ℕ → List ℕ
head_text kind version count = kind_text kind ++ (codes " " ++ (version_text version ++ (codes " records " ++ (decimal count ++ codes "\n"))))

abbrev pub foot_text : ℕ → List ℕ
foot_text n = codes "found " ++ (decimal n ++ codes "\n")
