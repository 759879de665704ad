-- Octets within bounds.
use Rattle.std.specs.Prelude.{ℕ, List, take}
use Rattle.values.specs.declared.octets.Octets.{Octets}

-- the octets of a mobile identity, a name or the like
abbrev pub octets_of : {least most : ℕ} → Octets least most → List ℕ
octets_of o = take o.len o.octets
