use Prim.Native.Nat.{◌+◌, ◌-◌, ◌*◌, ◌≤◌}
use native.Mathlib.Omega.{arith}
use mathlib.Core.Path.{◌≡◌, subst}
use mathlib.Core.List.{List, [], ◌∷◌, map-append}
use lib.ListN.{length, take, drop, length-append, length-map}
use borrow.Author.Tests.{not-true, not-false}
use Rattle.std.specs.Prelude.{Some}
use Rattle.std.proofs.lemmas.List.Elements.{All-push}
use Rattle.rules.specs.Set.{set_of, solid}
use Rattle.rules.specs.Exist.{Scenario}
use Rattle.kmer.specs.Kmer.{kmer_of}
use Rattle.scenario.specs.Scenario.{spelled_out}
use Rattle.scenario.proofs.Trials.{asked-le, solid-one}
use Rattle.trials.specs.Trials.{EligibleIs, Placed}
use Rattle.trials.proofs.Picks.{gives-place}
use Rattle.trials.proofs.Scores.{run-on, run-bad, run-all, lent-length, tried-bad, tried-all, next-is, done-paid, done-refused, done-kept, done-answer, done-lookups}
use Rattle.trials.proofs.get_scenarii.Given.{Over}
use Rattle.trials.proofs.get_scenarii.Goals.{After-row-start, After-scenario-item, At-loop-base, Start}
use Rattle.trials.proofs.get_scenarii.Goals as goal

-- the scenarios by the rules
abbrev scs : (g : Over) → Start g → List Scenario
scs g c = let a = c.args in g.S.Scenario.scenarios a.set.now.head.k (solid (set_of a.set.now.bytes.now)) (kmer_of a.x) a.s.now

-- that of this turn
abbrev here : (g : Over) → After-scenario-item g → Scenario
here g c = let a = c.args in g.S.Scenario.scenario c.scenario-item.result a.set.now.head.k (solid (set_of a.set.now.bytes.now)) (kmer_of a.x) a.s.now

next : (g : Over) (c : After-scenario-item g)
    → drop c.scenarios.scenario-index (scs g (goal.at.After-scenario-item g c).Start)
    ≡ here g c ∷ drop (c.scenarios.scenario-index + 1) (scs g (goal.at.After-scenario-item g c).Start)
next g c =
    let a = c.args in
    let sol = solid (set_of a.set.now.bytes.now) in
    next-is (λ sc. g.S.Scenario.scenario sc a.set.now.head.k sol (kmer_of a.x) a.s.now) c.all-scenario-items.result.now
    {scs = scs g (goal.at.After-scenario-item g c).Start}
    (c.all-scenario-items.ensures.whole a.set.now.head.k sol (kmer_of a.x) a.s.now) c.scenarios.scenario-index c.scenario-item.result c.scenario-item.is c.scenarios-test.true

-- its trial left a k-mer to confirm
given : (g : Over) (c : After-row-start g)
    → EligibleIs c.args.set.now.head.k (set_of c.args.set.now.bytes.now) c.args.c c.args.s.now (here g (goal.at.After-row-start g c).After-scenario-item)
    c.eligible-candidate.result.lookups (Some (c.in-Some.first, c.in-Some.place))
given g c = subst (EligibleIs _ _ _ _ _ _) c.in-Some.is c.eligible-candidate.ensures.is

starts-at : (g : Over) (c : After-row-start g) → c.row-start.result.start ≡ (here g (goal.at.After-row-start g c).After-scenario-item).o
starts-at g c = (c.row-start.ensures _ _ _ _).start

-- all c bases are lent
lent : (g : Over) (c : After-row-start g)
    → length (take (c.row-start.result.start + c.args.c - c.row-start.result.start) (drop c.row-start.result.start c.args.s.now)) ≡ c.args.c
lent g c = lent-length _ _ (here g (goal.at.After-row-start g c).After-scenario-item) _ (starts-at g c) (given g c).2

-- a scenario asks at most 8 times before its bases, and then once for each
spent : (g : Over) (c : At-loop-base g) → c.loop-base.lookups ≤ c.scenarios.scenario-index * 263 + 8 + c.loop-base.base-index
spent g c = omega (arith, c.loop-base.invariant.1, c.eligible-candidate.ensures.few, c.scenarios.invariant.1)

pub scenarios-preserved-in_default : goal.scenarios-preserved-in_default
scenarios-preserved-in_default g c =
    let at = goal.at.scenarios-preserved-in_default g c in
    let i = c.scenarios.invariant in
    let few = c.eligible-candidate.ensures.few in
    let q = subst (EligibleIs _ _ _ _ (here g at.After-scenario-item) _) c.in_default.is c.eligible-candidate.ensures.is in
    (omega arith, omega arith, i.2, done-refused _ _ _ _ (scs g at.Start) i.3 (next g at.After-scenario-item) q)

pub overflow_add-lookups-in-loop-base : goal.overflow_add-lookups-in-loop-base
overflow_add-lookups-in-loop-base g c =
    let at = goal.at.overflow_add-lookups-in-loop-base g c in
    omega (arith, asked-le _ _ c.ask-asked.ensures, spent g at.At-loop-base, lent g at.After-row-start, c.loop-base-test.true, c.scenarios-test.true, c.all-scenario-items.ensures.few)

pub scenarios-preserved-then-not-asked : goal.scenarios-preserved-then-not-asked
scenarios-preserved-then-not-asked g c =
    let at = goal.at.scenarios-preserved-then-not-asked g c in
    let i = c.scenarios.invariant in
    let j = c.loop-base.invariant in
    let one = asked-le _ _ c.ask-asked.ensures in
    let w = given g at.After-row-start in
    let bad = run-bad _ _ _ _ j.2 c.loop-base-test.true c.add_base-kmer.ensures.is c.ask-asked.ensures (not-true _ c.if-not-asked.true) in
    let q = tried-bad _ _ _ _ (here g at.After-scenario-item) _ _ (starts-at g at.After-row-start) w.2 _ w.0 bad in (
      omega arith,
      omega (arith, one, spent g at.At-loop-base, lent g at.After-row-start, c.loop-base-test.true, c.requires.2),
      i.2,
      done-paid _ _ _ _ (scs g at.Start) (done-refused _ _ _ _ (scs g at.Start) i.3 (next g at.After-scenario-item) q) (omega (arith, j.1)),
    )

pub loop-base-preserved : goal.loop-base-preserved
loop-base-preserved g c =
    let i = c.loop-base.invariant in
    let found = not-false _ c.if-not-asked.false in
    let one = solid-one _ _ c.ask-asked.ensures found in (
      c.add_base-kmer.ensures.kmer,
      omega (arith, one, i.1),
      run-on _ _ _ _ i.2 c.loop-base-test.true c.add_base-kmer.ensures.is c.ask-asked.ensures found,
    )

pub scenarios-preserved : goal.scenarios-preserved
unfolding kmer_of
scenarios-preserved g c =
    let at = goal.at.scenarios-preserved g c in
    let i = c.scenarios.invariant in
    let j = c.loop-base.invariant in
    let m = c.correct.result in
    let w = given g at.After-row-start in
    let set = c.args.set.now in
    let gives = c.correct.ensures set.head.k (solid (set_of set.bytes.now)) c.args.s.now in
    let end = lent g at.After-row-start in
    let all = run-all _ _ _ _ j.2 (omega arith) in
    let q = tried-all _ _ _ _ (here g at.After-scenario-item) _ _ (starts-at g at.After-row-start) w.2 _ w.0 all in
    let n = length-append c.scenarios.kept (m ∷ []) in
    rw c.push.ensures (
      omega (arith, n),
      omega (arith, spent g at.At-loop-base, c.loop-base-test.false, c.requires.2),
      All-push (Placed (set_of set.bytes.now)) c.scenarios.kept m i.2 (gives-place _ m w.4 gives),
      rw (map-append spelled_out c.scenarios.kept (m ∷ []), gives.is)
          (done-paid _ _ _ _ (scs g at.Start) (done-kept _ _ _ _ (scs g at.Start) i.3 (next g at.After-scenario-item) q) (omega (arith, j.1))),
    )

pub returns : goal.returns
returns g c =
    let a = c.args in
    let i = c.scenarios.invariant in
    let all = c.all-scenario-items.ensures in
    let scs = scs g (goal.at.returns g c).Start in
    let end : length scs ≤ c.scenarios.scenario-index = rw (← all.whole _ _ _ _, length-map) c.scenarios-test.false in
    record {
      answer = done-answer _ _ _ _ scs i.3 end;
      many = omega (arith, all.few);
      lookups = done-lookups _ _ _ _ scs i.3 end;
      few = omega (arith, all.few);
      placed = i.2;
    }
