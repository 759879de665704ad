-- The rows of the two lists, the oldest first.
use Rattle.std.specs.Prelude.{ℕ, List}
use Rattle.tables.specs.declared.exclude.ExcludeList.{ExcludeList}
use Rattle.tables.specs.declared.kept.KeptTable.{KeptTable}
use Rattle.tables.specs.Excluded.{points_in}
use Rattle.tables.specs.Kept.{Kept, entries_in}

-- the entries of a kept table
abbrev pub kept_rows : KeptTable → List Kept
kept_rows t = entries_in t.rows

-- the access points on an exclude list
abbrev pub excluded_rows : ExcludeList → List (List ℕ)
excluded_rows l = points_in l.rows
