-- The way to a controller as a carrier means it: addresses by their codes.
use Rattle.std.specs.Prelude.{ℕ, Bool, List, Some, None, Option}
use Rattle.values.specs.Values.{coded}
use Rattle.carrier.specs.Carried.{Carried, Link}
use Rattle.carrier.specs.declared.connection.Connection.{Connection}
use Rattle.carrier.specs.declared.path.Path.{Path}
use Rattle.carrier.specs.declared.path.Path.TheVariants.{Down, Tunnel, Connected}

abbrev pub linked : Connection → Link
linked c = record { controller = coded c.controller; port = c.port }

-- the gateway of the tunnel
abbrev pub gateway_of : Path → Option (List ℕ)
gateway_of Down = None
gateway_of (Tunnel g) = Some (coded g)
gateway_of (Connected g c) = Some (coded g)

-- the connection
abbrev pub link_of : Path → Option Link
link_of Down = None
link_of (Tunnel g) = None
link_of (Connected g c) = Some (linked c)

-- a carrier by its path, the messages that wait, its places, and which addresses answer
abbrev pub carrying : Path → List (List ℕ) → ℕ → (List ℕ → Bool) → Carried
carrying p q n a = record { tunnel = gateway_of p; connection = link_of p; waiting = q; places = n; answers = a }
