use Rattle.std.proofs.Common.{rules, arith}
use Rattle.layout.proofs.Steps.{walk_end, step_on, fewer_left}
use Rattle.layout.proofs.cursor.CursorIterator.next.Goals as goal
use Rattle.layout.proofs.cursor.CursorIterator.next.Goals.{in-Ok, in-Err}

pub returns-then-self-clause-steps : goal.returns-then-self-clause-steps
returns-then-self-clause-steps c = search (rules, walk_end)

pub returns-clause-steps : goal.returns-clause-steps
returns-clause-steps c =
    step_on c.args.self.now.message.now c.args.self.now.at c.match-step.self c.element-step.result (omega arith) c.element-step.ensures
    (elim c.match-step.branch [ in-Ok w ↦ rw w.in-Ok.is (omega (arith, w.self-is)) | in-Err w ↦ rw w.in-Err.is w.self-is ])

pub returns-clause-goes : goal.returns-clause-goes
returns-clause-goes c = let h = returns-clause-steps c in record { on = λ _. (tt, tt, fewer_left _ _ _ h); keeps = tt; rests = λ _. tt }
