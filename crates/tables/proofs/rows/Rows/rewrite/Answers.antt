use Rattle.std.proofs.Common.{rules}
use lib.Seq.{take-set-lt}
use Rattle.tables.proofs.rows.Rows.rewrite.Goals as goal

pub returns : goal.returns
returns g c = search (rules, take-set-lt)
