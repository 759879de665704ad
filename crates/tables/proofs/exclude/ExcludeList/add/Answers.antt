use Rattle.values.specs.Values.{point}
use Rattle.tables.specs.Held.{held}
use Rattle.tables.proofs.Meanings.{add_means}
use Rattle.tables.proofs.exclude.ExcludeList.add.Goals as goal

pub returns : goal.returns
returns c = let m = add_means point (held c.args.self.now.rows) _ _ c.add.ensures in record { rows = m.0; there = m.1 }

pub invariant_of-self : goal.invariant_of-self
invariant_of-self c = record { distinct = (add_means point _ _ _ c.add.ensures).2 c.args.self.now.distinct }
