use mathlib.Core.Path.{ap, ◌∙◌}
use Prim.Native.Nat.{ℕ, ◌-◌}
use lib.ListN.{drop}
use Rattle.rules.specs.Set.{little}
use Rattle.few_keys.specs.Find.{key_in}
use Rattle.few_keys.proofs.key_at.Goals as goal

pub returns : goal.returns
unfolding key_in
returns c =
    let a = c.args in
    c.word_at.ensures ∙ ap (λ (at : ℕ). little 8 (drop (at - a.skip) a.part.now)) c.place.ensures
