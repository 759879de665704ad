-- What a list of rows in an array holds.
use Rattle.std.specs.Prelude.{ℕ, List, take}
use Rattle.tables.specs.declared.rows.Rows.{Rows}

-- the rows, the oldest first
abbrev pub held : {R : Type 0} {N : ℕ} → Rows R N → List R
held r = take r.len r.places
