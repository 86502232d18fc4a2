use Prim.Native.Nat.{◌+◌}
use native.Mathlib.Omega.{arith}
use mathlib.Core.Path.{◌≡◌, refl, sym, ap, ◌∙◌}
use mathlib.Core.List.{List, [], ◌∷◌}
use lib.ListN.{length}
use Rattle.std.proofs.lemmas.Grind.{common_steps}
use Rattle.rules.specs.Refusal.{accepted}
use Rattle.rules.specs.Job.{Entry, entries_of, lines}
use Rattle.rules_needs.specs.Needs.{needed_for}
use Rattle.entries.specs.Entries.{entry_of}
use Rattle.input.specs.Input.{bytes_left, lines_left}
use Rattle.input.proofs.Batch.{line-size}
use Rattle.turn.specs.Turn.{offered}
use Rattle.needs.proofs.Lines.{sole-entry, begin, next, over}
use Rattle.needs.proofs.count_lines.Goals.{At-loop-line, In-Some}
use Rattle.needs.proofs.count_lines.Goals as goal

pub loop-line-init : goal.loop-line-init
loop-line-init c =
    let all = ap bytes_left c.into_iter-line-iterator.ensures.into_iter_gives ∙ c.lines-line-items.ensures in
    rw all (omega arith, refl, begin _ _ c.args.batch.now c.requires.1 c.default-done.result c.default-done.ensures)

-- What is left behind the line.
size : (c : In-Some) → length (bytes_left c.loop-line.line-iterator) ≡ length c.in-Some.line.now + (length (bytes_left c.next.new.self) + 1)
size c = line-size _ c.in-Some.line.now _ c.in-Some.ensures.steps.1

pub entry-entry-requires : goal.entry-entry-requires
entry-entry-requires c = omega (arith, c.requires.0.one)

-- A line is no longer than the batch.
pub count-counted-requires : goal.count-counted-requires
count-counted-requires c =
    omega (arith, c.requires.0.input, size (goal.at.count-counted-requires c).In-Some, c.loop-line.invariant.0)

-- The line is counted, and the next one is due.
pub loop-line-preserved : goal.loop-line-preserved
loop-line-preserved c =
    let i = c.loop-line.invariant in
    let s = size (goal.at.loop-line-preserved c).In-Some in (
      omega (arith, s, i.0),
      c.count-counted.auto.spare ∙ i.1,
      rw c.plus_line-done.ensures (next _ _ _ c.in-Some.line.now (lines_left c.next.new.self) _ _ _ _ (rw c.in-Some.ensures.steps.0 at i.2) s c.in-Ok.ensures),
    )

-- The job's one entry.
sole : (c : At-loop-line) → entries_of c.args.job.now.bytes.now ≡ entry_of c.entry-entry.result ∷ []
sole c = sole-entry c.args.job.now.bytes.now c.requires.0.one ∙ ap (λ (e : Entry). e ∷ []) (sym c.entry-entry.ensures)

pub returns : goal.returns
returns c =
    let a = c.args in
    let last = rw c.in-None.ensures.steps.0 at c.loop-line.invariant.2 in
    let done = over _ _ a.batch.now last in
    record {
      answer = ap accepted (done ∙ ap (λ (es : List Entry). needed_for (offered a.set.now) es (lines a.batch.now)) (sym (sole (goal.at.returns c).At-loop-line)));
      zeroed = grind (arith, common_steps);
    }
