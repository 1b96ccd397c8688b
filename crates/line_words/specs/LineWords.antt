-- Words, and the words of a line, by their bytes.
use Rattle.std.specs.Prelude.{ℕ, Bool, List, [], length, map, filter, string_bytes, String, ◌==◌, not, slice_index_or}
use Rattle.std.specs.List.{slice_split}

abbrev pub texts : {Z : Type 0} → List (String Z) → List (List ℕ)
texts ws = map string_bytes ws

-- the word at a place, and an empty one where there is none
abbrev pub word : List (List ℕ) → ℕ → List ℕ
word ws k = slice_index_or ws k []

abbrev pub is_word : List ℕ → Bool
is_word w = not (length w == 0)

-- the words of a line: what stands between spaces, where it is not empty
abbrev pub words_of : List ℕ → List (List ℕ)
words_of line = filter is_word (slice_split (λ b. b == 32) line)
