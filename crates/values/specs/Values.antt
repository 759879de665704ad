-- What the values of the protocol are made of.
use Rattle.std.specs.Prelude.{ℕ, List, ◌∷◌}
use Rattle.values.specs.declared.access_point.AccessPoint.{AccessPoint}
use Rattle.values.specs.declared.octets.Octets.{Octets}
use Rattle.values.specs.declared.address.Address.{Address}
use Rattle.values.specs.declared.address.Address.TheVariants.{V4, V6, Named}
use Rattle.values.specs.Octets.{octets_of}

-- the six octets of an access point
abbrev pub point : AccessPoint → List ℕ
point p = p.octets

-- the octets of a name
abbrev pub spelled : Octets 3 64 → List ℕ
spelled n = octets_of n

-- an address by its form and its octets: two addresses are the same where these are.
-- For an IP address this is also the value of its element; no IP value begins with 0
abbrev pub coded : Address → List ℕ
coded (V4 o) = 33 ∷ o
coded (V6 o) = 87 ∷ o
coded (Named n) = 0 ∷ spelled n
