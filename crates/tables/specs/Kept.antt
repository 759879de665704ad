-- What entries of the kept table mean.
use Rattle.std.specs.Prelude.{ℕ, List, map}
use Rattle.values.specs.Values.{coded, point}
use Rattle.tables.specs.declared.entry.Entry.{Entry}
use Rattle.tables.specs.declared.rows.Rows.{Rows}
use Rattle.tables.specs.Held.{held}

-- an entry in octets: the access point, and the gateway, controller and port that are kept for it
pub record Kept : Type 0 where
  pub key : List ℕ
  pub gateway : List ℕ
  pub controller : List ℕ
  pub port : ℕ

-- what an entry says
abbrev pub entered : Entry → Kept
entered e = record { key = point e.key; gateway = coded e.gateway; controller = coded e.controller; port = e.port }

-- the keys of entries
abbrev pub keys : List Kept → List (List ℕ)
keys = map (λ k. k.key)

-- what the rows of a kept table say
abbrev pub entries_in : Rows Entry 16 → List Kept
entries_in r = map entered (held r)
