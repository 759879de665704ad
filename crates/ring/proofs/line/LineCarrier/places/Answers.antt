use Rattle.ring.specs.Keeps.{kept_carrying}
use Rattle.ring.proofs.line.LineCarrier.places.Goals as goal

pub returns-clause-kept : goal.returns-clause-kept
returns-clause-kept g c = kept_carrying _ _ _ _ _ _ _ c.args.self.now.places.sound c.args.self.now.sized
