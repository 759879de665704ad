-- What a carrier means, what each act asks and what it changes.
use Rattle.std.specs.Prelude.{◌≡◌, ℕ, ◌<◌, ◌≤◌, Bool, true, false, not, ◌&&◌, List, [], ◌∷◌, ◌++◌, length, drop, is_some, Some, None, Option, Result, MatchResult, nat_le, nat_lt, slice_index_or}
use Rattle.std.specs.Str.{bytes_eq}
use Rattle.layout.specs.Faults.{Refuses}
use Rattle.layout.specs.declared.fault.Fault.{Fault}
use Rattle.values.specs.Bounds.{Between}
use Rattle.carrier.specs.declared.undone.Undone.{Undone}
use Rattle.carrier.specs.declared.undone.Undone.TheVariants.{Tunnelled, NoTunnel, Connected, NoConnection, NoAnswer, NoPlace, Size}

-- where a connection goes: the controller's address, as its code, and the port
pub record Link : Type 0 where
  pub controller : List ℕ
  pub port : ℕ

-- the gateway of the tunnel or none; the connection or none; the messages that wait, first to last;
-- how many may wait at once; which addresses answer
pub record Carried : Type 0 where
  pub tunnel : Option (List ℕ)
  pub connection : Option Link
  pub waiting : List (List ℕ)
  pub places : ℕ
  pub answers : List ℕ → Bool

-- what holds of every carrier
pub record Kept (c : Carried) : Type 0 where
  pub tunnelled : is_some c.connection ≡ true → is_some c.tunnel ≡ true
  pub some_place : 1 ≤ c.places
  pub in_place : length c.waiting ≤ c.places
  pub sized : (i : ℕ) → i < length c.waiting → Between 4 512 (length (slice_index_or c.waiting i []))

-- a carrier of n places in which nothing stands and nothing waits
abbrev pub fresh : ℕ → (List ℕ → Bool) → Carried
fresh n a = record { tunnel = None; connection = None; waiting = []; places = n; answers = a }

-- whether one more message may wait
abbrev pub room : Carried → Bool
room c = nat_lt (length c.waiting) c.places

-- whether the tunnel stands, and to this gateway
abbrev to_gateway : Option (List ℕ) → List ℕ → Bool
to_gateway None g = false
to_gateway (Some t) g = bytes_eq t g

abbrev pub stands : Carried → List ℕ → Bool
stands c g = to_gateway c.tunnel g

-- whether octets are few and many enough for a message
abbrev pub sendable : List ℕ → Bool
sendable m = nat_le 4 (length m) && nat_le (length m) 512

-- when each act succeeds
abbrev pub raises : Carried → List ℕ → Bool
raises c g = not (is_some c.tunnel) && c.answers g

abbrev pub opens : Carried → Link → Bool
opens c l = is_some c.tunnel && (not (is_some c.connection) && c.answers l.controller)

abbrev pub sends : Carried → List ℕ → Bool
sends c m = is_some c.connection && (room c && sendable m)

-- why an act that does not succeed is not done: by the tunnel and the connection that stand, and by whether one more may wait
abbrev pub why_not_raised : Option (List ℕ) → Undone
why_not_raised (Some t) = Tunnelled
why_not_raised None = NoAnswer

abbrev pub why_not_opened : Option (List ℕ) → Option Link → Undone
why_not_opened None l = NoTunnel
why_not_opened (Some t) (Some l) = Connected
why_not_opened (Some t) None = NoAnswer

-- octets are not put behind those that wait, by whether there is room for them
abbrev pub why_not_put : Bool → Undone
why_not_put false = NoPlace
why_not_put true = Size

abbrev pub why_not_sent : Option Link → Bool → Undone
why_not_sent None r = NoConnection
why_not_sent (Some l) r = why_not_put r

-- what each act changes
abbrev pub raised : Carried → List ℕ → Carried
raised c g =
    record { tunnel = Some g; connection = c.connection; waiting = c.waiting; places = c.places; answers = c.answers }

abbrev pub opened : Carried → Link → Carried
opened c l =
    record { tunnel = c.tunnel; connection = Some l; waiting = c.waiting; places = c.places; answers = c.answers }

abbrev pub sent : Carried → List ℕ → Carried
sent c m =
    record { tunnel = c.tunnel; connection = c.connection; waiting = c.waiting ++ m ∷ []; places = c.places; answers = c.answers }

abbrev pub closed : Carried → Carried
closed c =
    record { tunnel = c.tunnel; connection = None; waiting = c.waiting; places = c.places; answers = c.answers }

abbrev pub dropped : Carried → Carried
dropped c =
    record { tunnel = None; connection = None; waiting = c.waiting; places = c.places; answers = c.answers }

-- the first message that waits, or no octets where none does; and those behind it
abbrev pub first : List (List ℕ) → List ℕ
first [] = []
first (m ∷ ms) = m

abbrev pub others : List (List ℕ) → List (List ℕ)
others [] = []
others (m ∷ ms) = ms

abbrev pub taken : Carried → Carried
taken c =
    record { tunnel = c.tunnel; connection = c.connection; waiting = others c.waiting; places = c.places; answers = c.answers }

-- memory with a message at its front; the rest of the memory stays
abbrev pub written : List ℕ → List ℕ → List ℕ
written m memory = m ++ drop (length m) memory

-- a take, with the memory before and after: the first message goes to its front and its length is the answer;
-- memory under 512 octets is refused, and nothing changes
abbrev pub Takes : Carried → List ℕ → Result ℕ Fault → Carried → List ℕ → Type 0
Takes c m r d n =
    MatchResult r (λ k. (512 ≤ length m) × (k ≡ length (first c.waiting)) × (d ≡ taken c) × (n ≡ written (first c.waiting) m))
    (λ f. (length m < 512) × Refuses 6 0 0 f × (d ≡ c) × (n ≡ m))
