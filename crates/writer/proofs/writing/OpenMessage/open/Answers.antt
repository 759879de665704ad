use Rattle.writer.proofs.Drafting.{opened_none, opened_octets, opened_sound}
use Rattle.writer.proofs.writing.OpenMessage.open.Goals as goal

pub invariant_of-result : goal.invariant_of-result
invariant_of-result c = record { sound = rw c.write_head.ensures (opened_sound c.args.memory.now c.args.type_octet c.requires) }

pub returns-clause-octets : goal.returns-clause-octets
returns-clause-octets c = rw c.write_head.ensures (opened_octets c.args.memory.now c.args.type_octet c.requires)

pub returns-clause-elements : goal.returns-clause-elements
returns-clause-elements c = rw c.write_head.ensures (opened_none c.args.memory.now c.args.type_octet c.requires)
