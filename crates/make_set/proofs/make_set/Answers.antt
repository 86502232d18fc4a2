use native.Mathlib.Omega.{arith}
use mathlib.Core.Path.{◌≡◌, sym, subst}
use mathlib.Core.Option.{none}
use mathlib.Core.Bool.{true}
use lib.ListN.{length}
use borrow.Author.Tests.{ltb-false}
use Rattle.std.specs.Prelude.{Ok, Err}
use Rattle.std.proofs.lemmas.Result.{err_from_is_err_and}
use Rattle.rules.specs.Set.{k_right}
use Rattle.rules.specs.Blocks.{blocks_for}
use Rattle.rules_make.specs.MakeSet.{text_keys, text_check}
use Rattle.judge_text.specs.Judged.{JudgedAs}
use Rattle.make_set.proofs.Makes.{at-k, at-line, at-keys, at_none, made-refused, blocks-short, counts-short, made-both, k-right, k-even, k-large}
use Rattle.make_set.proofs.make_set.Goals.{After-div_ceil, Else-k-gt31, Else-n-gt-MAX_KEYS, In_ok-n, then-k-eq0-via-then-k-eq0, then-k-eq0-via-else-k-eq0+then-k-gt31, then-blocks-length-via-then-blocks-length, then-blocks-length-via-else-blocks-length+then-counts-n}
use Rattle.make_set.proofs.make_set.Goals as goal

pub returns-then-k-eq0 : goal.returns-then-k-eq0
returns-then-k-eq0 c =
    let a = c.args in
    elim c.then-k-eq0.branch [
      | then-k-eq0-via-then-k-eq0 w ↦ made-refused a.text.now a.k a.least _ _ _ (at-k a.text.now a.k a.least (k-even a.k w.if-k-eq0.true))
      | then-k-eq0-via-else-k-eq0+then-k-gt31 w ↦ made-refused a.text.now a.k a.least _ _ _ (at-k a.text.now a.k a.least (k-large a.k w.if-k-gt31.true))
    ]

right : (c : Else-k-gt31) → k_right c.args.k ≡ true
right c = k-right c.args.k (omega arith) (omega arith)

pub returns-in_err-n : goal.returns-in_err-n
returns-in_err-n c =
    let a = c.args in
    let p = err_from_is_err_and c.from_residual.result c.from_residual.ensures.1 in
    -- What the lines are judged, for the k that was given.
    let judged = subst (λ k. JudgedAs a.text.now k a.least (Err c.in_err-n.field-0.0)) c.header_of-head.ensures.1 c.in_err-n.ensures in
    rw (p.1, p.2) (made-refused a.text.now a.k a.least _ _ _ (at-line a.text.now a.k a.least _ (right (goal.at.returns-in_err-n c).Else-k-gt31) judged))

judged : (c : In_ok-n) → let a = c.args in JudgedAs a.text.now a.k a.least (Ok c.in_ok-n.n)
judged c =
    let a = c.args in
    subst (λ k. JudgedAs a.text.now k a.least (Ok c.in_ok-n.n)) c.header_of-head.ensures.1 c.in_ok-n.ensures

pub returns-then-n-gt-MAX_KEYS : goal.returns-then-n-gt-MAX_KEYS
returns-then-n-gt-MAX_KEYS c =
    let a = c.args in
    let j = judged (goal.at.returns-then-n-gt-MAX_KEYS c).In_ok-n in
    made-refused a.text.now a.k a.least _ _ _
    (at-keys a.text.now a.k a.least (right (goal.at.returns-then-n-gt-MAX_KEYS c).Else-k-gt31) j.0 (omega (arith, j.1, c.if-n-gt-MAX_KEYS.true)))

-- The checks of the text let pass.
passed : (c : Else-n-gt-MAX_KEYS) → let a = c.args in
    text_check a.text.now a.k a.least ≡ none
passed c =
    let a = c.args in
    let j = judged (goal.at.Else-n-gt-MAX_KEYS c).In_ok-n in
    at_none a.text.now a.k a.least (right (goal.at.Else-n-gt-MAX_KEYS c).Else-k-gt31) j.0 (omega (arith, j.1, c.if-n-gt-MAX_KEYS.false))

-- The blocks for the keys, as the rules count them.
blocks-for : (c : After-div_ceil) → c.div_ceil.result ≡ blocks_for c.in_ok-n.n
blocks-for c = omega (arith, c.div_ceil.ensures)

pub returns-then-blocks-length : goal.returns-then-blocks-length
returns-then-blocks-length c =
    let a = c.args in
    let passes = passed (goal.at.returns-then-blocks-length c).Else-n-gt-MAX_KEYS in
    let count = (judged (goal.at.returns-then-blocks-length c).In_ok-n).1 in
    let blocks_is = blocks-for (goal.at.returns-then-blocks-length c).After-div_ceil in
    elim c.then-blocks-length.branch [
      | then-blocks-length-via-then-blocks-length w ↦ blocks-short a.text.now a.k a.least _ _ _ passes count (omega (arith, blocks_is, w.if-blocks-length.true))
      | then-blocks-length-via-else-blocks-length+then-counts-n w ↦
          counts-short a.text.now a.k a.least _ _ _ passes count (omega (arith, blocks_is, w.if-blocks-length.false)) w.if-counts-n.true
    ]

pub write-requires : goal.write-requires
write-requires c =
    let a = c.args in
    let k_is = sym c.header_of-head.ensures.1 in (
      subst (λ k. text_check a.text.now k a.least ≡ none) k_is (passed (goal.at.write-requires c).Else-n-gt-MAX_KEYS),
      subst (λ k. c.in_ok-n.n ≡ length (text_keys k a.least a.text.now)) k_is (judged (goal.at.write-requires c).In_ok-n).1,
      omega (arith, blocks-for (goal.at.write-requires c).After-div_ceil, c.if-blocks-length.false),
      ltb-false _ _ c.if-counts-n.false-raw,
    )

pub returns : goal.returns
returns c =
    let a = c.args in
    let blocks_is = blocks-for (goal.at.returns c).After-div_ceil in
    made-both a.text.now a.k a.least a.blocks.now a.counts.now _ (passed (goal.at.returns c).Else-n-gt-MAX_KEYS) (judged (goal.at.returns c).In_ok-n).1 _ c.header_of-head.ensures.1
    _ (omega (arith, blocks_is)) _ _ (omega (arith, blocks_is, c.if-blocks-length.false)) (ltb-false _ _ c.if-counts-n.false-raw) c.write.ensures.0 c.write.ensures.1
