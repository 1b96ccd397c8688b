pub mod SameKind
