use Prim.Native.Nat.{ℕ, ◌<◌, ◌≤◌}
use native.Mathlib.Omega.{arith}
use mathlib.Core.Path.{◌≡◌, ◌∙◌}
use borrow.Author.Rules.{rules}
use borrow.Author.Tests.{tests}
use Rattle.std.specs.Prelude.{Option, Some, None}
use Rattle.std.specs.Option.{MatchOption, unwrap_or}
use Rattle.std.proofs.lemmas.Iterator.{first_from_Range}
use Rattle.rules.specs.Set.{set_of}
use Rattle.rules.specs.Index.{index_entry}
use Rattle.index.proofs.Laws.{entry-le}
use Rattle.make_index.proofs.next_entry.Goals as goal

no_more : (e f : ℕ) → e ≤ f → (e < f → e < e) → f ≡ e
no_more e f l h = grind arith

-- The first number from i on that is not below e is e.
nearest : (i n e : ℕ) (r : Option ℕ) → i ≤ e → e ≤ n
    → MatchOption r ((j : ℕ) → i ≤ j → j < n → j < e) (λ f. (i ≤ f) × (f < n) × (e ≤ f) × ((j : ℕ) → i ≤ j → j < f → j < e)) → unwrap_or r n ≡ e
nearest i n e None l m h = no_more e n m (h e l)
nearest i n e (Some f) l m h = no_more e f h.2 (h.3 e l)

pub returns : goal.returns
returns c =
    let o = c.args.set.now.opens in
    let entry = index_entry (set_of c.args.set.now.bytes.now) c.args.v in
    c.unwrap_or.ensures
    ∙ nearest _ _ entry c.find.result c.skip_below-first.ensures (omega (arith, o.n_is, entry-le _ o.right c.args.v))
    (first_from_Range _ _ _ _ (λ i. entry ≤ i) (λ i. i < entry) c.find.ensures.ran (λ x q k. search (rules, tests)) (λ x q k. search (rules, tests)))
