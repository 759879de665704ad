-- Octets as hexadecimal text.
use Rattle.std.specs.Prelude.{ℕ, ◌+◌, ◌-◌, ◌*◌, Bool, cond, ◌&&◌, ◌||◌, List, [], ◌∷◌, ◌++◌, Some, None, Option, ◌==◌, nat_le}

-- a character from `low` to `high`
abbrev within : ℕ → ℕ → ℕ → Bool
within low high b = nat_le low b && nat_le b high

-- the value of a hexadecimal digit: 0 to 9, A to F, a to f
abbrev pub digit_value : ℕ → Option ℕ
digit_value b =
    cond (within 48 57 b) (Some (b - 48))
    (cond (within 65 70 b) (Some (b - 65 + 10))
    (cond (within 97 102 b) (Some (b - 97 + 10)) None))

-- a high digit and a low one, where both are digits
abbrev both : Option ℕ → Option ℕ → Option ℕ
both None l = None
both (Some h) None = None
both (Some h) (Some l) = Some (h * 16 + l)

-- the octet that two digits make, the high one first
abbrev pub octet_value : ℕ → ℕ → Option ℕ
octet_value a b = both (digit_value a) (digit_value b)

-- a space or a tab
abbrev pub white : ℕ → Bool
white b = b == 32 || b == 9

-- octets that stand before others
abbrev pub before : List ℕ → Option (List ℕ) → Option (List ℕ)
before xs None = None
before xs (Some ys) = Some (xs ++ ys)

-- an octet and then others
abbrev pub then : Option ℕ → Option (List ℕ) → Option (List ℕ)
then None ys = None
then (Some x) ys = before (x ∷ []) ys

-- the octets that a line says, or None where it is no line of octets: a # (35) begins a comment, a carriage return (13)
-- may end the line, and white space stands between octets and not within one
abbrev pub octets_in : List ℕ → Option (List ℕ)
octets_in [] = Some []
octets_in (a ∷ []) = cond (a == 35 || a == 13 || white a) (Some []) None
octets_in (a ∷ b ∷ rest) =
    cond (a == 35) (Some [])
    (cond (white a) (octets_in (b ∷ rest))
    (then (octet_value a b) (octets_in rest)))
