-- A way to a controller, whatever stood before.
use Rattle.std.specs.Prelude.{◌≡◌, ℕ, Bool, true, false, ◌||◌, List, is_ok, Some, None, Err, Result}
use Rattle.carrier.specs.Carried.{Carried, Link, stands, dropped}
use Rattle.carrier.specs.declared.acts.Missed.{Missed}
use Rattle.carrier.specs.declared.acts.Missed.TheVariants.{Gateway, Controller}

-- a tunnel to the gateway can be had: it stands already, or the gateway answers
abbrev pub has_way : Carried → List ℕ → Bool
has_way c g = stands c g || c.answers g

-- a tunnel to the gateway, and no connection; nothing else changed
abbrev pub tunnelled_to : Carried → List ℕ → Carried
tunnelled_to c g =
    record { tunnel = Some g; connection = None; waiting = c.waiting; places = c.places; answers = c.answers }

-- a tunnel to the gateway and a connection to the controller; nothing else changed
abbrev pub connected_to : Carried → List ℕ → Link → Carried
connected_to c g l =
    record { tunnel = Some g; connection = Some l; waiting = c.waiting; places = c.places; answers = c.answers }

-- where a try to connect ends
pub data Connects (c : Carried) (g : List ℕ) (l : Link) (r : Result Unit Missed) (d : Carried) : Type 0 where
  connected : has_way c g ≡ true → c.answers l.controller ≡ true → is_ok r ≡ true → d ≡ connected_to c g l → Connects c g l r d
  no_connection : has_way c g ≡ true → c.answers l.controller ≡ false → r ≡ Err Controller → d ≡ tunnelled_to c g → Connects c g l r d
  no_tunnel : has_way c g ≡ false → r ≡ Err Gateway → d ≡ dropped c → Connects c g l r d
