use mathlib.Core.Path.{◌≡◌, sym, ap, ◌∙◌}
use mathlib.Core.Bool.{Bool}
use mathlib.Core.Option.{none}
use mathlib.Core.Logic.{inl, inr}
use Rattle.std.proofs.lemmas.Result.{err_from_is_err_and}
use Rattle.rules.specs.Refusal.{◌or_else◌, unless}
use Rattle.rules.specs.Set.{set_of}
use Rattle.rules.specs.Index.{index_check}
use Rattle.rules.specs.Calls.{counts_check, offer_check}
use Rattle.set.proofs.Opened.{set-count}
use Rattle.offered.proofs.open.Goals.{After-check_counts, After-check_index, Else-not-check_index}
use Rattle.offered.proofs.open.Goals as goal

pub returns-in_err-opened : goal.returns-in_err-opened
returns-in_err-opened c =
    let p = err_from_is_err_and c.from_residual.result c.from_residual.ensures.1 in
    rw (p.1, p.2) (inl c.in_err-opened.ensures)

-- What 15 says of the call's set.
fifteen : (c : After-check_index) → (let a = c.args in unless c.check_index.result 15 ≡ index_check (set_of a.set.now) a.index.now)
fifteen c = rw c.in_ok-opened.ensures.1 at c.check_index.ensures

pub returns-then-not-check_index : goal.returns-then-not-check_index
unfolding unless offer_check ◌or_else◌
returns-then-not-check_index c =
    let wrong = sym (fifteen (goal.at.returns-then-not-check_index c).After-check_index) ∙ ap (λ (t : Bool). unless t 15) c.if-not-check_index.true in
    inr (c.in_ok-opened.ensures.0, rw wrong)

-- The index passes.
passes : (c : Else-not-check_index) → (let a = c.args in index_check (set_of a.set.now) a.index.now ≡ none)
unfolding unless
passes c =
    sym (fifteen (goal.at.Else-not-check_index c).After-check_index) ∙ ap (λ (t : Bool). unless t 15) c.if-not-check_index.false

-- What 16 says.
sixteen : (c : After-check_counts)
    → (let a = c.args in unless c.check_counts.result 16 ≡ counts_check (set_of a.set.now) a.counts.now)
sixteen c =
    let a = c.args in
    let o = c.in_ok-opened in
    c.check_counts.ensures (set_of a.set.now) (set-count a.set.now ∙ sym (rw o.ensures.1 at o.opened.opens.n_is))

pub returns-then-not-check_counts : goal.returns-then-not-check_counts
unfolding unless offer_check ◌or_else◌
returns-then-not-check_counts c =
    let wrong = sym (sixteen (goal.at.returns-then-not-check_counts c).After-check_counts) ∙ ap (λ (t : Bool). unless t 16) c.if-not-check_counts.true in
    inr (c.in_ok-opened.ensures.0, rw (passes (goal.at.returns-then-not-check_counts c).Else-not-check_index, wrong))

pub prepare-requires : goal.prepare-requires
prepare-requires c =
    rw c.in_ok-opened.ensures.1 (passes (goal.at.prepare-requires c).Else-not-check_index)

pub returns : goal.returns
unfolding unless offer_check ◌or_else◌
returns c =
    let pass = sym (sixteen (goal.at.returns c).After-check_counts) ∙ ap (λ (t : Bool). unless t 16) c.if-not-check_counts.false in
    record {
      opens = c.in_ok-opened.ensures.0;
      passes = rw (passes (goal.at.returns c).Else-not-check_index, pass);
      bytes_are = c.prepare.ensures.same.0 ∙ c.in_ok-opened.ensures.1;
      counts_are = c.prepare.ensures.counts;
    }
