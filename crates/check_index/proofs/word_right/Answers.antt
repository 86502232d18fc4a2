use native.Mathlib.Omega.{arith}
use mathlib.Core.Path.{sym, ap, ◌∙◌}
use lib.Dec.{eqb}
use Rattle.check_index.proofs.Laws.{list_at, list-behind}
use Rattle.check_index.proofs.word_right.Goals as goal

pub returns-then-v-entry_count : goal.returns-then-v-entry_count
returns-then-v-entry_count c =
    c.entry_right.ensures
    ∙ ap (eqb c.args.word) (sym (list_at _ _ c.args.set.now.opens.k_is c.args.v (omega (arith, c.if-v-entry_count.true, c.entry_count.ensures))))

pub returns : goal.returns
returns c =
    ap (eqb c.args.word) (sym (list-behind _ _ c.args.set.now.opens.k_is c.args.v (omega (arith, c.if-v-entry_count.false, c.entry_count.ensures))))
