-- Two access points are equal where their octets are, and two addresses where their forms and octets are.
use Rattle.std.proofs.Common.{◌≡◌, Decides, rules}
use Rattle.values.specs.declared.access_point.AccessPoint.{AccessPoint}
use Rattle.values.specs.declared.address.Address.{Address}
use Rattle.values.specs.contracts.access_point.AccessPointPartialEq.TheImpl as point_eq
use Rattle.values.specs.contracts.address.AddressPartialEq.TheImpl as address_eq
use Rattle.values.specs.Values.{coded, point}

pub Decides-point : (a b : AccessPoint) → Decides ((point_eq.ghosts).eq a b) (point a ≡ point b)
Decides-point a b = search rules

pub Decides-coded : (a b : Address) → Decides ((address_eq.ghosts).eq a b) (coded a ≡ coded b)
Decides-coded a b = search rules
