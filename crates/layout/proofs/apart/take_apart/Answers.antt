use Rattle.std.proofs.Common.{arith}
use Rattle.layout.proofs.Whole.{whole}
use Rattle.layout.proofs.apart.take_apart.Goals as goal

pub returns-clause-again : goal.returns-clause-again
returns-clause-again c = whole c.args.message.now (λ i. omega (arith, c.type_inv.message i)) c.in_ok-check_header.ensures.1 c.in_ok-check_elements.ensures.0
