use Prim.Native.Nat.{◌+◌}
use native.Mathlib.Omega.{arith}
use mathlib.Core.Path.{◌≡◌, sym, ◌∙◌}
use mathlib.Core.Bool.{true}
use mathlib.Core.List.{◌∷◌}
use lib.ListN.{length, drop, length-append}
use Rattle.std.proofs.Common.{rules, tests}
use Rattle.std.specs.List.{enumerate_from}
use Rattle.std.proofs.lemmas.Iterator.{YieldsList}
use Rattle.std.proofs.lemmas.Iterator.Consumers.{YieldsList-at, YieldsList-from_enumerate, YieldsList-turn, YieldsList-end}
use Rattle.std.proofs.lemmas.List.FromFn.{length-enumerate_from}
use Rattle.rules_make.specs.MakeSet.{text_lines, form_right}
use Rattle.kmer_text.proofs.Lines.{YieldsList-from_text, numbered-line}
use Rattle.judge_text.proofs.Judging.{judging-starts, judging-ends, judged-breaks, judged-falls, judged-kept, judged-passed, key_fits}
use Rattle.judge_text.proofs.judge.Goals.{At-loop-i, In-Some, Else-not-form_right}
use Rattle.judge_text.proofs.judge.Given as given
use Rattle.judge_text.proofs.judge.Goals as goal

pub loop-i-init : goal.loop-i-init
loop-i-init c = judging-starts _ _ _

-- The loop goes over the text's lines with their numbers.
road : (c : At-loop-i) → YieldsList (given.iterator-loop-i).next_gives (λ p. (p.0, p.1.now)) c.into_iter-i-iterator.result (enumerate_from 0 (text_lines c.args.text.now))
road c =
    YieldsList-at c.into_iter-i-iterator.ensures.into_iter_gives
    (YieldsList-from_enumerate (YieldsList-at c.enumerate-i-items.ensures.source
    (YieldsList-from_text _ c.args.text.now c.split_inclusive.ensures.rest c.split_inclusive.ensures.closure (λ b r q k. search (rules, tests)))) c.enumerate-i-items.ensures.count)

-- The line, of which as many came before as its number says.
here : (c : In-Some) → let i = length c.loop-i.yielded in
    (c.in-Some.i ≡ i) × (drop i (text_lines c.args.text.now) ≡ c.in-Some.line.now ∷ drop (i + 1) (text_lines c.args.text.now))
here c =
    numbered-line (text_lines c.args.text.now) (length c.loop-i.yielded) c.in-Some.i c.in-Some.line.now
    (YieldsList-turn (road (goal.at.In-Some c).At-loop-i) c.loop-i.yielded _ c.loop-i.yielded_by _ _ _ c.in-Some.is c.next.ensures.steps)

right : (c : Else-not-form_right) → form_right c.args.head.k c.in-Some.line.now ≡ true
right c = sym c.form_right.ensures ∙ c.if-not-form_right.false

pub returns-then-not-form_right : goal.returns-then-not-form_right
returns-then-not-form_right c =
    let h = here (goal.at.returns-then-not-form_right c).In-Some in
    rw h.0 (judged-breaks c.loop-i.invariant h.1 (sym c.form_right.ensures ∙ c.if-not-form_right.true))

pub returns-then-key-floor : goal.returns-then-key-floor
returns-then-key-floor c =
    let h = here (goal.at.returns-then-key-floor c).In-Some in
    rw h.0 (judged-falls c.loop-i.invariant h.1 (right (goal.at.returns-then-key-floor c).Else-not-form_right) (sym c.is_kept.ensures ∙ c.if-is_kept.true) c.line_key-key.ensures c.if-key-floor.true)

pub overflow_add-floor : goal.overflow_add-floor
overflow_add-floor c =
    let room = key_fits _ _ _ c.args.head.shifts.k_high c.line_key-key.ensures in
    record { fits = omega (arith, room) }

pub loop-i-preserved-then-is_kept : goal.loop-i-preserved-then-is_kept
loop-i-preserved-then-is_kept c =
    let h = here (goal.at.loop-i-preserved-then-is_kept c).In-Some in
    rw length-append
    (judged-kept c.loop-i.invariant h.1 (right (goal.at.loop-i-preserved-then-is_kept c).Else-not-form_right) (sym c.is_kept.ensures ∙ c.if-is_kept.true) c.line_key-key.ensures c.if-key-floor.false)

pub loop-i-preserved : goal.loop-i-preserved
loop-i-preserved c =
    let h = here (goal.at.loop-i-preserved c).In-Some in
    rw length-append
    (judged-passed c.loop-i.invariant h.1 (right (goal.at.loop-i-preserved c).Else-not-form_right) (sym c.is_kept.ensures ∙ c.if-is_kept.false))

pub returns : goal.returns
returns c =
    let over = YieldsList-end (road (goal.at.returns c).At-loop-i) c.loop-i.yielded _ c.loop-i.yielded_by _ _ c.in-None.is c.next.ensures.steps in
    judging-ends c.loop-i.invariant (over.1 ∙ length-enumerate_from 0 (text_lines c.args.text.now))
