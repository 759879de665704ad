-- Octets written one after another.
use Rattle.std.proofs.Common.{◌≡◌, ℕ, ◌+◌, ◌≤◌, List, ◌++◌, length, arith, rules}
use Rattle.std.proofs.lemmas.List.{same_lists, places}
use Rattle.writer.specs.Octets.{over}

pub over-over : (m xs ys : List ℕ) (at : ℕ) → (at + length xs) + length ys ≤ length m → over (over m at xs) (at + length xs) ys ≡ over m at (xs ++ ys)
over-over m xs ys at h = same_lists _ _ (search (rules, places)) (λ k d l. grind (arith, places))
