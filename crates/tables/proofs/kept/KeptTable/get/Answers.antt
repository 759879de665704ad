use Rattle.std.proofs.Common.{ap, ◌∙◌}
use Rattle.std.specs.Option.{option_map}
use Rattle.values.specs.Values.{point}
use Rattle.tables.specs.Held.{held}
use Rattle.tables.specs.Keyed.{has_key}
use Rattle.tables.specs.Kept.{entered}
use Rattle.tables.proofs.Images.{image_found}
use Rattle.tables.proofs.kept.KeptTable.get.Goals as goal

pub returns : goal.returns
returns c =
    ap (option_map entered) c.get.ensures ∙ image_found entered (has_key (λ k. k.key) (point c.args.key.now)) (held c.args.self.now.rows)
