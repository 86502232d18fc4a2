use Prim.Native.Nat.{◌-◌, ◌≤◌}
use native.Mathlib.Omega.{arith}
use mathlib.Core.Path.{◌≡◌, sym, ◌∙◌}
use borrow.Author.Tests.{eq-eqb, ne_eqb, ltb-true}
use Rattle.rules.specs.Set.{set_of}
use Rattle.rules.specs.Index.{index_entry}
use Rattle.index.proofs.Laws.{entry-le}
use Rattle.check_index.proofs.entry_right.Goals.{else-entry-gt0-via-then-entry-gt0+else-not-is_below, else-entry-gt0-via-else-entry-gt0}
use Rattle.check_index.proofs.entry_right.Goals as goal

pub returns-then-set-entry : goal.returns-then-set-entry
returns-then-set-entry c =
    let s = c.args.set.now in
    sym (ne_eqb c.args.entry (index_entry (set_of s.bytes.now) c.args.v) (λ e. omega (arith, c.if-set-entry.true, s.opens.n_is, entry-le _ s.opens.right c.args.v)))

pub returns-then-entry-set : goal.returns-then-entry-set
returns-then-entry-set c =
    let s = c.args.set.now in
    let right = index_entry (set_of s.bytes.now) c.args.v in
    -- The key before it has first letters below v, if there is one: the right entry is no less.
    let no_less : c.args.entry ≤ right = elim c.else-entry-gt0.branch [
      | else-entry-gt0-via-then-entry-gt0+else-not-is_below w ↦ omega (
        arith,
        w.if-entry-gt0.true,
        ltb-true (c.args.entry - 1) right (sym w.is_below.ensures ∙ w.if-not-is_below.false),
      )
      | else-entry-gt0-via-else-entry-gt0 w ↦ omega (arith, w.if-entry-gt0.false)
    ] in
    let same : c.args.entry ≡ right = omega (arith, no_less, c.if-entry-set.true, s.opens.n_is, entry-le _ s.opens.right c.args.v) in
    eq-eqb _ _ c.if-entry-set.true ∙ sym (eq-eqb _ _ same)
