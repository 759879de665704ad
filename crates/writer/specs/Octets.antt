-- Octets in a row.
use Rattle.std.specs.Prelude.{ℕ, ◌+◌, List, ◌++◌, length, take, drop}

-- xs written over the octets of m from `at` on; the rest of m stays
abbrev pub over : List ℕ → ℕ → List ℕ → List ℕ
over m at xs = take at m ++ (xs ++ drop (at + length xs) m)
