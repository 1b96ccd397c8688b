-- Page lists, and what the pages of one hold.
use Rattle.std.specs.Prelude.{◌≡◌, ℕ, ◌*◌, ◌/◌, ◌%◌, ◌<◌, ◌≤◌, ◌⊎◌, List, [], map, length, slice_index, slice_index_or, slice_set}
use Rattle.std.specs.List.{range_with_len}
use Rattle.refusal.specs.declared.Refusal.{Refusal}
use Rattle.refusal.specs.declared.Refusal.TheVariants.{NoSuchPage, PageTwice}

-- of the first n page numbers each is at most 127
abbrev pub Below : List ℕ → ℕ → Type 0
Below ps n = (i : ℕ) → i < n → slice_index ps i < 128

-- and none stands there twice
abbrev pub Apart : List ℕ → ℕ → Type 0
Apart ps n = (i j : ℕ) → (i < n) × (j < n) × (slice_index ps i ≡ slice_index ps j) → i ≡ j

-- byte a of the first listed pages: byte a mod 512 of the page at place a div 512 of the list
abbrev pub byte_at : List (List ℕ) → List ℕ → ℕ → ℕ
byte_at pages ps a = slice_index (slice_index_or pages (slice_index ps (a / 512)) []) (a % 512)

-- the pages with b stored as byte at of a page
abbrev pub stored : List (List ℕ) → ℕ → ℕ → ℕ → List (List ℕ)
stored pages page at b = slice_set pages page (slice_set (slice_index_or pages page []) at b)

-- what the first n listed pages hold, one after the other
abbrev pub content : List (List ℕ) → List ℕ → ℕ → List ℕ
content pages ps n = map (byte_at pages ps) (range_with_len 0 (512 * n))

-- some number of the list is above 127
abbrev pub Above : List ℕ → Type 0
Above ps = (i : ℕ) × (i < length ps) × (128 ≤ slice_index ps i)

-- some number stands at two places of the list
abbrev pub Twice : List ℕ → Type 0
Twice ps = (i : ℕ) × (j : ℕ) × (i < j) × (j < length ps) × (slice_index ps i ≡ slice_index ps j)

-- Why a list of page numbers is refused: every number is judged for 2 before any is for 3.
abbrev pub Unfit : List ℕ → Refusal → Type 0
Unfit ps e = ((e ≡ NoSuchPage) × Above ps) ⊎ ((e ≡ PageTwice) × Below ps (length ps) × Twice ps)
