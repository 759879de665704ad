-- Memory that is written over.
use Rattle.std.proofs.Common.{◌≡◌, ℕ, ◌+◌, ◌/◌, ◌%◌, ◌≤◌, List, [], ◌∷◌, length, arith}
use Rattle.std.specs.Int.{w16, to_be_bytes}
use Rattle.layout.specs.Layout.{counted}
use Rattle.writer.specs.Octets.{over}
use Rattle.writer.proofs.Over.{over-over}

-- a message behind its length in two octets
pub message_stored : (a : ℕ) (msg m : List ℕ) → length msg ≤ 512 → a + 514 ≤ length m → over (over m a (to_be_bytes w16 (length msg))) (a + 2) msg ≡ over m a (counted msg)
message_stored a msg m s h =
    let high : length msg / 256 % 256 ≡ length msg / 256 = grind arith in
    rw high (over-over m (length msg / 256 ∷ length msg % 256 ∷ []) msg a (omega arith))
