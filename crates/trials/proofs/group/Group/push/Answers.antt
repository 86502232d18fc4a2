use Rattle.std.specs.Prelude.{◌<◌, ◌≡◌, length, take}
use Rattle.std.proofs.Common.{arith, ◌∙◌}
use Rattle.std.proofs.lemmas.List.{length-set, length-take-le}
use Rattle.trials.proofs.Blanks.{blanks-next}
use Rattle.trials.proofs.group.Group.push.Goals as goal

pub invariant_of-self : goal.invariant_of-self
invariant_of-self c =
    let g = c.self.inside in
    let i = c.self.invariant in
    let kept : length (take g.count g.mends) ≡ g.count = length-take-le _ _ (omega (arith, i.0, i.1)) in
    let few : g.count < 13 = rw (← kept, c.self.view_is) c.requires in
    (omega (arith, few), length-set g.mends _ _ ∙ i.1, blanks-next g.mends _ _ _ (omega arith) i.2)
