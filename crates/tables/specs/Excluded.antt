-- What an exclude list holds.
use Rattle.std.specs.Prelude.{ℕ, List, map}
use Rattle.values.specs.Values.{point}
use Rattle.values.specs.declared.access_point.AccessPoint.{AccessPoint}
use Rattle.tables.specs.declared.rows.Rows.{Rows}
use Rattle.tables.specs.Held.{held}

-- the access points in its rows
abbrev pub points_in : Rows AccessPoint 16 → List (List ℕ)
points_in r = map point (held r)
