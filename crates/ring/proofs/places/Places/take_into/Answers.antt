use Rattle.std.proofs.Common.{rules, arith}
use Rattle.ring.proofs.Rings.{first_filled, Sound-freed}
use Rattle.ring.proofs.places.Places.take_into.Goals as goal

pub load-len-requires-clause-filled : goal.load-len-requires-clause-filled
load-len-requires-clause-filled g c = rw c.octets.ensures.octets (first_filled _ _ _ _ c.args.self.now.sound (omega arith))

pub invariant_of-self-clause-sound : goal.invariant_of-self-clause-sound
invariant_of-self-clause-sound g c = Sound-freed _ _ _ _ c.args.self.now.sound (omega arith) _ (search rules)
