use Rattle.std.proofs.Common.{ap, arith}
use Rattle.layout.specs.Elements.{parts}
use Rattle.writer.proofs.Closing.{closed_sendable, closed_walk}
use Rattle.writer.proofs.writing.OpenMessage.close.Goals as goal

pub invariant_of-result : goal.invariant_of-result
invariant_of-result c = record { sendable = rw c.write_indicator.ensures (closed_sendable c.args.self.page.memory.now c.args.self.page.len c.args.self.sound) }

pub returns-clause-elements : goal.returns-clause-elements
returns-clause-elements c = rw c.write_indicator.ensures (ap parts (closed_walk c.args.self.page.memory.now c.args.self.page.len (omega arith)))
