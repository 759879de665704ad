-- Sizes.
use Rattle.std.specs.Prelude.{ℕ, ◌≤◌}

-- a number from `least` to `most`
abbrev pub Between : ℕ → ℕ → ℕ → Type 0
Between least most n = (least ≤ n) × (n ≤ most)
