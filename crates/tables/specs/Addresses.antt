-- The addresses on a list.
use Rattle.std.specs.Prelude.{ℕ, Bool, List}
use Rattle.values.specs.Values.{coded}
use Rattle.values.specs.declared.address.Address.{Address}
use Rattle.tables.specs.Held.{held}
use Rattle.tables.specs.Keyed.{has}
use Rattle.tables.specs.declared.addresses.AddressList.{AddressList}

abbrev pub listed : AddressList → List Address
listed l = held l.rows

-- whether an address, by its code, is on a list
abbrev pub is_listed : AddressList → List ℕ → Bool
is_listed l a = has coded a (listed l)
