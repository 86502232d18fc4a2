use mathlib.Core.Path.{sym}
use borrow.Author.Tests.{leb-true}
use borrow.Author.Rules.{rules}
use Rattle.std.proofs.lemmas.Result.{err_from_is_err_and}
use Rattle.rules.specs.Refusal.{◌or_else◌, unless}
use Rattle.rules_laws.proofs.Opened.{passed, unless-passed}
use Rattle.input.proofs.Checks.{input-by-start}
use Rattle.input.proofs.check_input.Goals as goal

pub returns-in_err-checked : goal.returns-in_err-checked
unfolding ◌or_else◌
returns-in_err-checked c =
    let p = err_from_is_err_and c.from_residual.result c.from_residual.ensures.1 in
    (rw (p.1, p.2, input-by-start, ← c.in_err-checked.ensures.0), search rules)

pub buffers_right-requires : goal.buffers_right-requires
buffers_right-requires c = leb-true _ _ (unless-passed _ 1 (passed _ _ (sym c.in_ok-checked.ensures.0)).0)

pub returns-then-not-buffers_right : goal.returns-then-not-buffers_right
unfolding ◌or_else◌ unless
returns-then-not-buffers_right c =
    (rw (input-by-start, ← c.in_ok-checked.ensures.0, ← c.buffers_right.ensures, c.if-not-buffers_right.true), search rules)

pub returns : goal.returns
unfolding ◌or_else◌ unless
returns c =
    (rw (input-by-start, ← c.in_ok-checked.ensures.0, ← c.buffers_right.ensures, c.if-not-buffers_right.false), c.in_ok-checked.ensures.1)
