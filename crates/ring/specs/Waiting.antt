-- The messages in places of memory.
use Rattle.std.specs.Prelude.{ℕ, List}
use Rattle.ring.specs.Places.{queue}
use Rattle.ring.specs.declared.memory.Memory.{Ghosts}
use Rattle.ring.specs.declared.places.Places.{Places}

abbrev pub queued : {M : Type 0} {g : Ghosts M} → Places M g → List (List ℕ)
queued {M} {g} p = queue (g.octets p.memory) p.places p.head p.count
