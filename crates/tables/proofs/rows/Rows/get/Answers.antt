use Rattle.std.proofs.Common.{◌≡◌, ℕ, Bool, Some, None, Option, List, get_or, arith, rules}
use Rattle.std.specs.List.{find, position}
use Rattle.std.specs.Option.{MatchOption, IsSomeAnd}
use Rattle.std.proofs.lemmas.Bool.Decides.{nat_tests}
use Rattle.std.proofs.lemmas.List.Folds.{find_at}
use Rattle.std.proofs.lemmas.Option.{gets}
use Rattle.tables.specs.Held.{held}
use Rattle.tables.specs.Keyed.{has_key}
use Rattle.tables.proofs.rows.Rows.get.Goals as goal

-- the element at the first place is the first element
at_first : {X : Type 0} (p : X → Bool) (xs : List X) (o : Option ℕ) (r : Option X) → o ≡ position p xs → MatchOption o (r ≡ None) (λ i. IsSomeAnd r (λ x. x ≡ get_or xs i x)) → r ≡ find p xs
at_first p xs None r e m = grind (arith, nat_tests, gets, find_at p xs)
at_first p xs (Some i) None e m = absurd m
at_first p xs (Some i) (Some x) e m = grind (arith, nat_tests, gets, find_at p xs)

pub returns : goal.returns
returns g c = at_first (has_key g.R.Row.coded (g.R.Key.Key.code c.args.key.now)) (held c.args.self.now) c.find.result c.map.result c.find.ensures.is (search rules)
