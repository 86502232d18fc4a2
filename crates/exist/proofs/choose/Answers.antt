use Prim.Native.Nat.{ℕ, ◌≤◌, ◌<◌}
use native.Mathlib.Omega.{arith}
use mathlib.Core.Path.{◌≡◌, refl, sym, ap, ◌∙◌, subst}
use mathlib.Core.List.{map}
use lib.ListN.{length, get_or, length-map}
use borrow.Author.Rules.{rules}
use Rattle.std.proofs.lemmas.List.Elements.{All-get_or}
use Rattle.rules.specs.Counted.{Try}
use Rattle.rules.specs.Exist.{Mend}
use Rattle.rules.specs.Set.{set_of}
use Rattle.scenario.specs.declared.mend.Mend.{Mend as Kept}
use Rattle.scenario.specs.Scenario.{spelled_out}
use Rattle.trials.specs.Trials.{Placed}
use Rattle.trials.proofs.Scores.{next-is}
use Rattle.exist.proofs.Chosen.{one-is, chosen-one, asked-none, asked-yes, asked-no, choose_one, choose-found, choose-refused}
use Rattle.exist.proofs.choose.Goals.{Start, After-loop-mend, At-loop-mend, then-more, else-more}
use Rattle.exist.proofs.choose.Goals as goal

-- what is kept has its keys' places
placed : (c : Start) (i : ℕ) (m : Kept) → m ≡ get_or c.args.kept.now i m → i < length c.args.kept.now → Placed (set_of c.args.set.now.bytes.now) m
placed c i m is h =
    let P = Placed (set_of c.args.set.now.bytes.now) in
    subst P (sym is) (All-get_or P c.args.kept.now i m h c.requires.3)

mends : (c : Start) → length (map spelled_out c.args.kept.now) ≡ length c.args.kept.now
mends c = length-map c.args.kept.now spelled_out

many : (c : At-loop-mend) → length (map spelled_out c.args.kept.now) ≡ 1 → ⊥
many c e = c.if-kept-eq1.false (sym (mends (goal.at.At-loop-mend c).Start) ∙ e)

ended : (c : After-loop-mend) → length (map spelled_out c.args.kept.now) ≤ c.loop-mend.mend-index
ended c = rw (mends (goal.at.After-loop-mend c).Start) c.loop-mend-test.false

pub returns-then-kept-eq1 : goal.returns-then-kept-eq1
returns-then-kept-eq1 c =
    let m = c.index-kept-0.result in
    let e = choose_one _ _ _ _ _ _ (one-is c.args.kept.now m c.if-kept-eq1.true c.index-kept-0.is) in
    rw (c.given.ensures.0, c.given.ensures.1) (record {
      mend = (ap (λ (r : Try Mend). r.answer) e, placed (goal.at.returns-then-kept-eq1 c).Start 0 m c.index-kept-0.is (omega arith));
      lookups = ap (λ (r : Try Mend). r.lookups) e;
      few = search rules;
    })

pub loop-mend-init : goal.loop-mend-init
loop-mend-init c = (search rules, search rules, refl, asked-none _ _ _ _ _ _ _)

pub loop-mend-preserved : goal.loop-mend-preserved
loop-mend-preserved c =
    let i = c.loop-mend.invariant in
    let m = c.mend-item.result in
    let more = c.one_more-more in
    let here = next-is spelled_out c.args.kept.now refl c.loop-mend.mend-index m c.mend-item.is c.loop-mend-test.true in
    elim c.if-more.branch [
      | then-more w ↦ (
        omega (arith, w.remaining-is),
        omega (arith, more.ensures.few),
        rw w.chosen-is (placed (goal.at.loop-mend-preserved c).Start c.loop-mend.mend-index m c.mend-item.is c.loop-mend-test.true),
        rw (w.chosen-is, w.remaining-is) (asked-yes _ _ _ _ _ _ more.result i.3 here more.ensures.is w.if-more.true),
      )
      | else-more w ↦ (
        omega (arith, w.remaining-is),
        omega (arith, more.ensures.few),
        rw (w.chosen-is, w.remaining-is) i.2,
        rw (w.chosen-is, w.remaining-is) (asked-no _ _ _ _ _ _ more.result i.3 here more.ensures.is w.if-more.false),
      )
    ]

pub returns-then-remaining-eq1 : goal.returns-then-remaining-eq1
returns-then-remaining-eq1 c =
    let i = c.loop-mend.invariant in
    let one = c.if-remaining-eq1.true in
    let e = choose-found _ _ _ _ _ _ (many (goal.at.returns-then-remaining-eq1 c).At-loop-mend) i.3 (ended (goal.at.returns-then-remaining-eq1 c).After-loop-mend) one in
    record {
      mend = chosen-one _ _ c.loop-mend.chosen i.2 one (ap (λ (r : Try Mend). r.answer) e);
      lookups = ap (λ (r : Try Mend). r.lookups) e;
      few = omega (arith, c.requires.2);
    }

pub returns-else-remaining-eq1 : goal.returns-else-remaining-eq1
returns-else-remaining-eq1 c =
    let i = c.loop-mend.invariant in
    let e = choose-refused _ _ _ _ _ _ (many (goal.at.returns-else-remaining-eq1 c).At-loop-mend) i.3 (ended (goal.at.returns-else-remaining-eq1 c).After-loop-mend) c.if-remaining-eq1.false in
    record { mend = ap (λ (r : Try Mend). r.answer) e; lookups = ap (λ (r : Try Mend). r.lookups) e; few = omega (arith, c.requires.2) }
