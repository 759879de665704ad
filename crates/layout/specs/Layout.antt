-- The layout of a message: two octets of length, the discriminator, the type, and then elements.
use Rattle.std.specs.Prelude.{ℕ, ◌+◌, ◌*◌, ◌/◌, ◌%◌, cond, List, ◌∷◌, length, Some, None, Option, ◌==◌, nat_lt, slice_index}
use Rattle.layout.specs.declared.fault.Fault.{Fault}
use Rattle.layout.specs.declared.fault.Fault.TheVariants.{Size, Indicator, Discriminator}
use Rattle.layout.specs.Elements.{walk, fault_in}

-- the length indicator
abbrev pub indicator : List ℕ → ℕ
indicator m = slice_index m 0 * 256 + slice_index m 1

-- the length indicator, which counts the octets behind it and not itself, and those octets
abbrev pub counted : List ℕ → List ℕ
counted xs = (length xs / 256) ∷ (length xs % 256) ∷ xs

-- one check after another: the first fault counts
abbrev pub then_check : Option Fault → Option Fault → Option Fault
then_check None g = g
then_check (Some f) g = Some f

-- the size, then the length indicator, which counts the octets after it
abbrev pub size_fault : List ℕ → Option Fault
size_fault m =
    cond (nat_lt (length m) 4) (Some Size) (cond (nat_lt 512 (length m)) (Some Size)
    (cond (indicator m + 2 == length m) None (Some Indicator)))

-- octet 2: skip indicator 0 and one of two discriminators
abbrev pub discriminator_fault : List ℕ → Option Fault
discriminator_fault m = cond (nat_lt (slice_index m 2) 2) None (Some Discriminator)

abbrev pub header_fault : List ℕ → Option Fault
header_fault m = then_check (size_fault m) (discriminator_fault m)

-- the first fault in taking a message apart
abbrev pub apart_fault : List ℕ → Option Fault
apart_fault m = then_check (header_fault m) (fault_in (walk m 4))
