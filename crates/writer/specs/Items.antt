-- Elements that are to be written.
use Rattle.std.specs.Prelude.{◌≡◌, ℕ, ◌+◌, ◌<◌, ◌≤◌, List, length, Result, MatchResult}
use Rattle.layout.specs.declared.fault.Fault.{Fault}
use Rattle.layout.specs.Elements.{element_octets}
use Rattle.layout.specs.Faults.{Refuses}
use Rattle.values.specs.Forms.{identifier}
use Rattle.writer.specs.declared.item.Item.{Item}
use Rattle.writer.specs.Octets.{over}

-- the octets of an element
abbrev pub octets_of : Item → List ℕ
octets_of i = element_octets (identifier i.element) i.value.now

-- what putting octets xs behind the n that are written leaves of the memory m and of n: they end within 512, or are refused
abbrev pub Puts : {X : Type 0} → List ℕ → ℕ → List ℕ → Result X Fault → List ℕ → ℕ → Type 0
Puts m n xs r m' n' =
    MatchResult r
    (λ _. (n + length xs ≤ 512) × (n' ≡ n + length xs) × (m' ≡ over m n xs))
    (λ f. Refuses 6 0 0 f × (512 < n + length xs) × (n' ≡ n) × (m' ≡ m))
