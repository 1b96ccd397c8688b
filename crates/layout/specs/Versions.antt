-- The versions: their texts, and how many bytes a number has in each.
use Rattle.std.specs.Prelude.{ℕ, cond, ◌||◌, List, Some, None, Option, ◌==◌, codes}
use Rattle.kinds.specs.Letters.{three}
use Rattle.layout.specs.declared.version.Version.{Version}
use Rattle.layout.specs.declared.version.Version.TheVariants.{V11, V20}

abbrev pub width : Version → ℕ
width V11 = 4
width V20 = 8

abbrev pub version_text : Version → List ℕ
version_text V11 = codes "1.1"
version_text V20 = codes "2.0"

-- ' 1.1' or ' 2.0'; the space may be a '0'
abbrev pub version_of : ℕ → ℕ → ℕ → ℕ → Option Version
version_of a b c d =
    cond (a == 32 || a == 48)
    (cond (three b c d 49 46 49) (Some V11) (cond (three b c d 50 46 48) (Some V20) None))
    None
