-- Which addresses answer, by their codes.
use Rattle.std.specs.Prelude.{Bool, not, List, ℕ}
use Rattle.tables.specs.Addresses.{is_listed}
use Rattle.tables.specs.declared.addresses.AddressList.{AddressList}

abbrev pub is_unlisted : AddressList → List ℕ → Bool
is_unlisted l a = not (is_listed l a)
