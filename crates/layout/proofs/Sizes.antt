-- The length of a value as octets.
use Rattle.std.proofs.Common.{◌≡◌, ℕ, ◌+◌, ◌-◌, ◌*◌, ◌/◌, ◌%◌, ◌<◌, ◌≤◌, [], ◌∷◌, arith}
use lib.Arith.{digits_div, digits_mod}
use Rattle.std.proofs.lemmas.Bool.Decides.{nat_tests}
use Rattle.layout.specs.Elements.{size_octets}

pub size_small : (n : ℕ) → n < 128 → size_octets n ≡ n ∷ []
size_small n h = grind (arith, nat_tests)

pub size_large : (n : ℕ) → 128 ≤ n → size_octets n ≡ (128 + n / 256) ∷ (n % 256) ∷ []
size_large n h = grind (arith, nat_tests)

-- two octets, the top bit of the first set, that read as a length
pub size_wide : (a b : ℕ) → b < 256 → 128 ≤ a → 128 ≤ (a - 128) * 256 + b → size_octets ((a - 128) * 256 + b) ≡ a ∷ b ∷ []
size_wide a b l g h = grind (arith, size_large, digits_div, digits_mod)
