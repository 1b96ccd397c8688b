-- The header of a file, and when it is refused.
use Rattle.std.specs.Prelude.{ℕ, ◌+◌, cond, List, length, Some, None, Ok, Err, Option, Result, nat_le, slice_index}
use Rattle.refusal.specs.declared.Refusal.{Refusal}
use Rattle.refusal.specs.declared.Refusal.TheVariants.{PastEnd, OtherKind, OtherVersion}
use Rattle.layout.specs.declared.version.Version.{Version}
use Rattle.kinds.specs.declared.kind.Kind.{Kind}
use Rattle.headers.specs.declared.header.Header.{Header}
use Rattle.editions.specs.Numbers.{number_at}
use Rattle.boxes.specs.Boxes.{edges_at}
use Rattle.kinds.specs.Sizes.{header_size}
use Rattle.kinds.specs.Letters.{kind_of, same_kind}
use Rattle.layout.specs.Versions.{width, version_of}

-- the version that the bytes say
abbrev pub version_said : List ℕ → Option Version
version_said bs = version_of (slice_index bs 3) (slice_index bs 4) (slice_index bs 5) (slice_index bs 6)

-- the kind that they say
abbrev pub kind_said : List ℕ → Option Kind
kind_said bs = kind_of (slice_index bs 0) (slice_index bs 1) (slice_index bs 2)

-- how many bytes the header has: 56 where the version is 2.0, else 48
abbrev pub header_bytes : Option Version → ℕ
header_bytes None = 48
header_bytes (Some v) = header_size (width v)

-- the kind said, where it is the one wanted
abbrev pub kind_agreed : Option Kind → Option Kind → Option Kind
kind_agreed None said = None
kind_agreed (Some wanted) None = None
kind_agreed (Some wanted) (Some k) = cond (same_kind wanted k) (Some k) None

-- the header itself
abbrev pub header_at : List ℕ → Kind → Version → Header
header_at bs k v = record {
  kind = k;
  version = v;
  flags = record { byte = slice_index bs 7 };
  edges = edges_at bs 8;
  count = number_at (width v) bs 40;
  reserved = slice_index bs (40 + width v);
}

abbrev by_version : List ℕ → Kind → Option Version → Result Header Refusal
by_version bs k None = Err OtherVersion
by_version bs k (Some v) = Ok (header_at bs k v)

abbrev by_kind : List ℕ → Option Kind → Result Header Refusal
by_kind bs None = Err OtherKind
by_kind bs (Some k) = by_version bs k (version_said bs)

-- What reading a header answers: 1 when it passes the end, then 4 for another kind than the one wanted, then 5 for another version.
abbrev pub header_outcome : List ℕ → Option Kind → Result Header Refusal
header_outcome bs wanted = cond (nat_le (header_bytes (version_said bs)) (length bs)) (by_kind bs (kind_agreed wanted (kind_said bs))) (Err PastEnd)
