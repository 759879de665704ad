use Rattle.std.proofs.Common.{◌≡◌, ℕ, List, [], ◌∷◌, ◌++◌, Some, None, Option, refl, ap, append_assoc, arith}
use Rattle.std.proofs.lemmas.Grind.{common_steps}
use Rattle.text.specs.Hex.{before}
use Rattle.text.proofs.read_line.Goals as goal

-- one more octet is read
before_more : (xs : List ℕ) (x : ℕ) (ys : Option (List ℕ)) → before (xs ++ x ∷ []) ys ≡ before xs (before (x ∷ []) ys)
before_more xs x None = refl
before_more xs x (Some ys) = ap Some (append_assoc xs (x ∷ []) ys)

pub loop-rest-preserved-in_ok-push-in-len2-up : goal.loop-rest-preserved-in_ok-push-in-len2-up
loop-rest-preserved-in_ok-push-in-len2-up c = grind (arith, common_steps, before_more)
