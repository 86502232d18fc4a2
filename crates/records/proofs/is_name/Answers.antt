use mathlib.Core.Path.{refl, sym, ◌∙◌}
use Rattle.records.proofs.Laws.{name-first}
use Rattle.records.proofs.is_name.Goals as goal

pub returns : goal.returns
returns c = c.eq.ensures ∙ sym (name-first _ _ _ c.first.ensures.value refl)
