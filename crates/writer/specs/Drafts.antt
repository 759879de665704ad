-- Messages in memory, open and closed.
use Rattle.std.specs.Prelude.{◌≡◌, ℕ, ◌-◌, ◌/◌, ◌%◌, ◌<◌, ◌≤◌, false, List, length, take, is_some, slice_index, slice_set}
use Rattle.layout.specs.Elements.{walk, fault_in}
use Rattle.layout.specs.Layout.{apart_fault}
use Rattle.message.specs.Types.{discriminator_of}

-- n octets that memory m can hold of a message
abbrev pub Held : List ℕ → ℕ → Type 0
Held m n = (512 ≤ length m) × (4 ≤ n) × (n ≤ 512)

-- whole elements stand behind the header
abbrev pub Whole : List ℕ → Type 0
Whole m = is_some (fault_in (walk m 4)) ≡ false

-- an open message of n octets in memory m
abbrev pub Sound : List ℕ → ℕ → Type 0
Sound m n = Held m n × (slice_index m 2 < 2) × Whole (take n m)

-- a closed message of n octets in memory m: it can be taken apart
abbrev pub Sendable : List ℕ → ℕ → Type 0
Sendable m n = Held m n × (is_some (apart_fault (take n m)) ≡ false)

-- memory in which a message of a type is opened: octets 2 and 3
abbrev pub headed : List ℕ → ℕ → List ℕ
headed m t = slice_set (slice_set m 2 (discriminator_of t)) 3 t

-- memory in which a message of n octets is closed: the length indicator, which does not count itself
abbrev pub indicated : List ℕ → ℕ → List ℕ
indicated m n = slice_set (slice_set m 0 ((n - 2) / 256)) 1 ((n - 2) % 256)
