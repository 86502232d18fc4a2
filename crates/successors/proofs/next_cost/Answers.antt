use mathlib.Core.Path.{sym, ◌∙◌}
use Rattle.kmer.proofs.Laws.{unknown-is}
use Rattle.successors.proofs.Laws.{four-made, none_made}
use Rattle.successors.proofs.next_cost.Goals as goal

pub returns-then-first-eq0 : goal.returns-then-first-eq0
returns-then-first-eq0 c =
    λ sol. sym (four-made _ _ c.args.head.shifts.k_low sol (sym (unknown-is c.add_nuc_to_end-first.ensures) ∙ c.if-first-eq0.true))

pub returns-else-first-eq0 : goal.returns-else-first-eq0
returns-else-first-eq0 c =
    λ sol. sym (none_made _ _ c.args.head.shifts.k_low sol (λ e. c.if-first-eq0.false (unknown-is c.add_nuc_to_end-first.ensures ∙ e)))
