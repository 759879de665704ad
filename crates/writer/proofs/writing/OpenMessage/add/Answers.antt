use Rattle.writer.proofs.Drafting.{left_sound, left_added}
use Rattle.writer.proofs.writing.OpenMessage.add.Goals as goal

pub invariant_of-self : goal.invariant_of-self
invariant_of-self c =
    record { sound = left_sound c.put.result _ c.args.value.now _ _ _ c.args.id _ c.in_ok-item.ensures.1 c.args.self.now.sound c.put.ensures.cases }

pub returns-clause-cases : goal.returns-clause-cases
returns-clause-cases c = left_added c.put.result c.args.self.now _ c.args.id c.args.value.now _ c.in_ok-item.ensures.1 c.in_ok-item.ensures.0 c.put.ensures.cases
