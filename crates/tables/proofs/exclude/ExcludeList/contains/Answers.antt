use Rattle.std.proofs.Common.{is_some, ap, ◌∙◌}
use Rattle.values.specs.Values.{point}
use Rattle.tables.specs.Held.{held}
use Rattle.tables.proofs.Edits.{itself}
use Rattle.tables.proofs.Images.{image_place}
use Rattle.tables.proofs.exclude.ExcludeList.contains.Goals as goal

pub returns : goal.returns
returns c = c.has.ensures ∙ ap is_some (image_place point itself (point c.args.point.now) (held c.args.self.now.rows))
