use Rattle.std.proofs.Common.{refl, sym, ◌∙◌}
use mathlib.Core.Bool.{true≢false}
use Rattle.edits.proofs.Judging.{done_of, some_left}
use Rattle.edits.specs.Joins.{is_done}
use Rattle.edits.proofs.joins.Goals.{in-Some-empty, in_default, in_default-2}
use Rattle.edits.proofs.joins.Goals as goal

pub returns-then-matches : goal.returns-then-matches
unfolding is_done
returns-then-matches c =
    elim c.match-matches.branch [
      | in-Some-empty w ↦ rw (done_of c.args.walk.left w.in-Some-empty.field-0 w.in-Some-empty.is (rw w.in-Some-empty.is at w.in-Some-empty.len_below)) refl
      | in_default w ↦ absurd (true≢false (sym c.if-matches.true ∙ w.matches-is))
      | in_default-2 w ↦ absurd (true≢false (sym c.if-matches.true ∙ w.matches-is))
    ]

pub returns-else-matches : goal.returns-else-matches
unfolding is_done
returns-else-matches c =
    elim c.match-matches.branch [
      | in-Some-empty w ↦ absurd (true≢false (sym w.matches-is ∙ c.if-matches.false))
      | in_default w ↦
          rw (c.if-matches.false, some_left c.args.walk.left w.in_default.field-0 w.in_default.is (rw w.in_default.is at w.in_default.len_at_least)) refl
      | in_default-2 w ↦ rw (c.if-matches.false, w.in_default.is) refl
    ]
