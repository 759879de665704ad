use Rattle.std.proofs.Common.{rules, arith}
use Rattle.ring.proofs.Rings.{Sound-put_alone, queues}
use Rattle.ring.proofs.places.Places.offer.Goals as goal

pub invariant_of-self-clause-sound : goal.invariant_of-self-clause-sound
invariant_of-self-clause-sound g c = rw c.store.ensures.octets (Sound-put_alone _ _ _ _ _ _ c.args.self.now.sound (grind (arith, queues)) (grind arith) (search rules))
