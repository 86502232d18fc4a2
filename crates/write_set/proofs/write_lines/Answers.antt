use Prim.Native.Nat.{◌+◌, ◌<◌, min}
use native.Mathlib.Omega.{arith}
use mathlib.Core.Path.{◌≡◌, ap, ◌∙◌}
use mathlib.Core.Bool.{true}
use mathlib.Core.List.{◌∷◌}
use lib.ListN.{length, drop, length-append}
use Rattle.std.proofs.Common.{rules, tests}
use Rattle.std.proofs.lemmas.Iterator.{YieldsList}
use Rattle.std.proofs.lemmas.Iterator.Consumers.{YieldsList-at, YieldsList-turn, YieldsList-end}
use Rattle.rules_make.specs.MakeSet.{text_lines, form_right, kept, max_count, text_keys}
use Rattle.kmer_text.proofs.Lines.{YieldsList-from_text, this-line}
use Rattle.write_set.proofs.Writes.{writing-starts, writing-ends, kept_by, passed-by, line-formed, written-inside, written-kept, written-passed, key-room}
use Rattle.write_set.proofs.write_lines.Given as given
use Rattle.write_set.proofs.write_lines.Goals.{At-loop-line, In-Some, Then-least-count}
use Rattle.write_set.proofs.write_lines.Goals as goal

pub loop-line-init : goal.loop-line-init
loop-line-init c = writing-starts _ _ _ _ _ c.requires.0

-- The loop goes over the text's lines.
road : (c : At-loop-line) → YieldsList (given.iterator-loop-line).next_gives (λ x. x.now) c.into_iter-line-iterator.result (text_lines c.args.text.now)
road c =
    YieldsList-at c.into_iter-line-iterator.ensures.into_iter_gives
    (YieldsList-from_text _ c.args.text.now c.split_inclusive-line-items.ensures.rest c.split_inclusive-line-items.ensures.closure (λ b r q k. search (rules, tests)))

here : (c : In-Some) → let n = length c.loop-line.yielded in
    drop n (text_lines c.args.text.now) ≡ c.in-Some.line.now ∷ drop (n + 1) (text_lines c.args.text.now)
here c =
    this-line (text_lines c.args.text.now) (length c.loop-line.yielded) c.in-Some.line.now
    (YieldsList-turn (road (goal.at.In-Some c).At-loop-line) c.loop-line.yielded _ c.loop-line.yielded_by _ _ _ c.in-Some.is c.next.ensures.steps)

-- The line has the form.
right : (c : In-Some) → form_right c.args.head.k c.in-Some.line.now ≡ true
right c = line-formed c.loop-line.invariant (here c)

pub line_count-count-requires : goal.line_count-count-requires
line_count-count-requires c = (c.args.head.shifts.k_high, right (goal.at.line_count-count-requires c).In-Some)

pub line_key-key-requires : goal.line_key-key-requires
line_key-key-requires c = right (goal.at.line_key-key-requires c).In-Some

-- It is kept, and there is a key for it.
is-kept : (c : Then-least-count) → kept c.args.head.k c.args.least c.in-Some.line.now ≡ true
is-kept c = kept_by _ _ _ _ c.line_count-count.ensures c.if-least-count.true

inside : (c : Then-least-count) → c.loop-line.i < length (text_keys c.args.head.k c.args.least c.args.text.now)
inside c = written-inside c.loop-line.invariant (here (goal.at.Then-least-count c).In-Some) (is-kept c)

pub put-requires : goal.put-requires
put-requires c =
    key-room c.loop-line.i _ c.args.blocks.now c.loop-line.blocks (inside (goal.at.put-requires c).Then-least-count) c.requires.2 c.loop-line.invariant.written.same_length

pub bounds-counts-i : goal.bounds-counts-i
bounds-counts-i c =
    omega (arith, inside (goal.at.bounds-counts-i c).Then-least-count, c.requires.3, c.loop-line.invariant.counts_long)

pub loop-line-preserved-then-least-count : goal.loop-line-preserved-then-least-count
loop-line-preserved-then-least-count c =
    rw length-append
    (written-kept c.loop-line.invariant (here (goal.at.loop-line-preserved-then-least-count c).In-Some) (is-kept (goal.at.loop-line-preserved-then-least-count c).Then-least-count)
    c.line_key-key.ensures c.put.ensures (c.held.ensures ∙ ap (λ x. min x max_count) c.line_count-count.ensures) c.requires.3)

pub loop-line-preserved : goal.loop-line-preserved
loop-line-preserved c =
    rw length-append
    (written-passed c.loop-line.invariant (here (goal.at.loop-line-preserved c).In-Some) (passed-by _ _ _ _ c.line_count-count.ensures c.if-least-count.false))

pub returns : goal.returns
returns c =
    let over = YieldsList-end (road (goal.at.returns c).At-loop-line) c.loop-line.yielded _ c.loop-line.yielded_by _ _ c.in-None.is c.next.ensures.steps in
    writing-ends c.loop-line.invariant over.1
