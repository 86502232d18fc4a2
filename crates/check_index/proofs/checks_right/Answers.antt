use native.Mathlib.Omega.{arith}
use mathlib.Core.Path.{refl, ◌∙◌}
use borrow.Author.Rules.{rules}
use borrow.Author.Tests.{tests}
use Rattle.std.proofs.lemmas.Iterator.{YieldsList-from_range}
use Rattle.std.proofs.lemmas.Iterator.Search.{all_from_yields_List}
use Rattle.rules.specs.Set.{check_right}
use Rattle.rules_laws.proofs.First.{all-hold}
use Rattle.check_index.proofs.checks_right.Goals as goal

pub returns : goal.returns
returns c =
    let ok = check_right c.args.index.now in
    all_from_yields_List ok _ _ _ c.all.ensures.ran (YieldsList-from_range 0 _ c.args.count refl (omega arith)) (λ x b q k. search (rules, tests))
    ∙ all-hold ok 0 c.args.count
