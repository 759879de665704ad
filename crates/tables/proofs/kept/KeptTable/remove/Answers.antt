use Rattle.tables.specs.Kept.{entered}
use Rattle.tables.proofs.Meanings.{out_means}
use Rattle.tables.proofs.kept.KeptTable.remove.Goals as goal

pub returns : goal.returns
returns c =
    let m = out_means entered (λ k. k.key) _ _ _ c.take_out.ensures c.args.self.now.distinct in record { rows = m.0; gone = m.1 }

pub invariant_of-self : goal.invariant_of-self
invariant_of-self c =
    record { distinct = (out_means entered (λ k. k.key) _ _ _ c.take_out.ensures c.args.self.now.distinct).2 }
