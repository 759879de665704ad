use Rattle.std.proofs.Common.{◌≡◌, length, vec_items}
use Rattle.text.specs.Hex.{octets_in, before}
use Rattle.text.proofs.read_line.Given as goal

-- what the line says is what is read, and then what the rest of it says
abbrev pub invariant-loop-rest : goal.invariant-loop-rest
invariant-loop-rest l = octets_in l.line ≡ before (vec_items l.octets) (octets_in l.rest)

abbrev pub decreases-loop-rest : goal.decreases-loop-rest
decreases-loop-rest l = length l.rest
