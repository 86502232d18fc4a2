use Rattle.std.proofs.Common.{◌∙◌, refl, eqb, rules, tests}
use Rattle.std.proofs.lemmas.Iterator.{YieldsList-from_range}
use Rattle.std.proofs.lemmas.Iterator.Search.{all_from_yields_List}
use Rattle.rules.specs.Set as Rules
use Rattle.rules_laws.proofs.First.{all-hold}
use Rattle.set_checks.proofs.rest_zero.Goals as goal

pub returns : goal.returns
returns c =
    all_from_yields_List (λ i. eqb (Rules.block_word c.args.set.now 0 i) 0) _ _ _ c.all.ensures.ran (YieldsList-from_range 2 63 61 (cc) refl) (λ x b q k. search (rules, tests))
    ∙ all-hold (λ i. eqb (Rules.block_word c.args.set.now 0 i) 0) 2 61
