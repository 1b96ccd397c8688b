-- Tables without gaps.
use Rattle.std.specs.Prelude.{◌≡◌, List, ◌++◌, length, take, drop}
use Rattle.topology.specs.declared.table.Table.{Table}

-- a table comes to have these rows in use; the free rows beyond them, and where the table lies, stay
pub record Holds {T : Type 0} (was is : Table T) (xs : List T) : Type 0 where
  pub rows : take is.used is.rows.now ≡ xs
  pub rest : drop is.used is.rows.now ≡ drop is.used was.rows.now
  pub long : length is.rows.now ≡ length was.rows.now
  pub lent : is.rows.ghost_name ≡ was.rows.ghost_name

-- rows are added after those in use
abbrev pub Grown : {T : Type 0} → Table T → Table T → List T → Type 0
Grown was is xs = Holds was is (take was.used was.rows.now ++ xs)
