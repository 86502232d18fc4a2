use Prim.Native.Nat.{◌*◌}
use native.Mathlib.Omega.{arith}
use mathlib.Core.Path.{refl, ◌∙◌}
use borrow.Author.Rules.{rules}
use borrow.Author.Tests.{tests}
use Rattle.std.proofs.lemmas.Iterator.{YieldsList-from_range}
use Rattle.std.proofs.lemmas.Iterator.Search.{all_from_yields_List}
use Rattle.rules.specs.Set.{set_of}
use Rattle.check_index.specs.Words.{word_right}
use Rattle.rules_laws.proofs.First.{all-hold}
use Rattle.check_index.proofs.words_right.Goals as goal

pub returns : goal.returns
returns c =
    let ok = word_right (set_of c.args.set.now.bytes.now) c.args.index.now in
    all_from_yields_List ok _ _ _ c.all.ensures.ran (YieldsList-from_range 0 _ (63 * c.args.count) refl (omega arith)) (λ x b q k. search (rules, tests))
    ∙ all-hold ok 0 (63 * c.args.count)
