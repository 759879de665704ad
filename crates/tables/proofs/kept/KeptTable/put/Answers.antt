use Rattle.tables.specs.Held.{held}
use Rattle.tables.specs.Kept.{entered}
use Rattle.tables.proofs.Meanings.{put_means}
use Rattle.tables.proofs.kept.KeptTable.put.Goals as goal

pub returns : goal.returns
returns c = let m = put_means entered (λ k. k.key) (held c.args.self.now.rows) _ _ c.put.ensures in record { rows = m.0; there = m.1 }

pub invariant_of-self : goal.invariant_of-self
invariant_of-self c =
    record { distinct = (put_means entered (λ k. k.key) _ _ _ c.put.ensures).2 c.args.self.now.distinct }
