use Rattle.std.proofs.Common.{rules, tests, refl, ◌==◌}
use Rattle.std.proofs.lemmas.Iterator.Search.{find_from_yields_List}
use Rattle.std.proofs.lemmas.Iterator.Consumers.{YieldsList-from_first}
use Rattle.layout.specs.Elements.{seen, rest}
use Rattle.layout.proofs.elements.Elements.find.Goals as goal

pub returns-clause-finds : goal.returns-clause-finds
returns-clause-finds c =
    let found = find_from_yields_List (λ p. p.id == c.args.id) c.find.new.self _ _ c.find.ensures.ran (YieldsList-from_first seen rest _ refl) (λ x b q k. search (rules, tests)) in
    search rules
