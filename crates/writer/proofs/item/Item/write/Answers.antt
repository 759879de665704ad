use Rattle.std.proofs.Common.{◌≡◌, ◌∷◌, length, arith}
use Rattle.std.proofs.lemmas.Grind.{common_steps}
use Rattle.layout.specs.Elements.{size_octets}
use Rattle.values.specs.Forms.{identifier}
use Rattle.writer.proofs.Over.{over-over}
use Rattle.layout.proofs.Sizes.{size_small, size_large}
use Rattle.writer.proofs.item.Item.write.Goals as goal
use Rattle.writer.proofs.item.Item.write.Goals.{then-len-lt128, else-len-lt128}

pub returns : goal.returns
returns c =
    let v = c.args.self.now.value.now in
    let h = c.if-len-lt128.head.now in
    let e : h ≡ identifier c.args.self.now.element ∷ size_octets (length v) =
    elim c.if-len-lt128.branch [ then-len-lt128 w ↦ grind (arith, size_small) | else-len-lt128 w ↦ grind (arith, size_large) ] in
    grind (arith, common_steps, over-over)
