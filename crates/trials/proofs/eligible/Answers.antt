use Prim.Native.Nat.{◌+◌, ◌≤◌, ◌<◌}
use native.Mathlib.Omega.{arith}
use mathlib.Core.Path.{◌≡◌, sym, ap, ◌∙◌}
use mathlib.Core.Option.{some}
use lib.ListN.{length}
use Rattle.rules.specs.Set.{solid, set_of}
use Rattle.rules.specs.Scan.{ask}
use Rattle.rules.specs.Exist.{Scenario}
use Rattle.kmer.specs.Kmer.{kmer_of, IsKmer}
use Rattle.set.specs.Found.{index_of, is_key}
use Rattle.scenario.specs.Scenario.{trial_of}
use Rattle.scenario.proofs.Trials.{trial-refused, trial-given}
use Rattle.trials.proofs.Scores.{eligible-none, eligible-weak, eligible-unknown, eligible-short, eligible-on, looked-up}
use Rattle.trials.proofs.Picks.{not-eligible}
use Rattle.trials.proofs.eligible.Given.{Over}
use Rattle.trials.proofs.eligible.Goals.{Start, After-get, After-row-start, In-Some}
use Rattle.trials.proofs.eligible.Goals as goal

-- the scenario by the rules
abbrev sc : (g : Over) → Start g → Scenario
sc g c = let a = c.args in g.S.Scenario.scenario a.scenario a.set.now.head.k (solid (set_of a.set.now.bytes.now)) (kmer_of a.x) a.s.now

-- the trial gave a k-mer
given : (g : Over) (c : In-Some g)
    → (trial_of c.args.s.now (sc g (goal.at.In-Some g c).Start) ≡ record { answer = some (kmer_of c.in-Some.kmer); lookups = c.apply-trial.result.lookups })
    × IsKmer c.args.set.now.head.k c.in-Some.kmer
given g c = trial-given _ _ c.apply-trial.result _ c.apply-trial.ensures c.in-Some.is

-- it has no unknown letter, and was looked up
asked : (g : Over) (c : After-get g) → ask (solid (set_of c.args.set.now.bytes.now)) (kmer_of c.in-Some.kmer) ≡ record { answer = is_key c.get.result; lookups = 1 }
unfolding kmer_of
asked g c = looked-up _ _ (omega arith) c.get.result c.get.ensures

starts-at : (g : Over) (c : After-row-start g) → c.row-start.result.start ≡ (sc g (goal.at.After-row-start g c).Start).o
starts-at g c = (c.row-start.ensures _ _ _ _).start

pub returns-in_default : goal.returns-in_default
returns-in_default g c =
    let sc = sc g (goal.at.returns-in_default g c).Start in
    not-eligible _ c.refused.ensures
    (eligible-none _ _ _ _ c.requires.1 sc (trial-refused _ (trial_of c.args.s.now sc) c.apply-trial.result c.apply-trial.ensures c.in_default.is))
    (omega (arith, c.apply-trial.ensures.few))

pub returns-then-kmer-ne0 : goal.returns-then-kmer-ne0
unfolding kmer_of
returns-then-kmer-ne0 g c =
    let at = goal.at.returns-then-kmer-ne0 g c in
    not-eligible _ c.refused-then-kmer-ne0.ensures
    (eligible-unknown _ _ _ _ c.requires.1 (sc g at.Start) (given g at.In-Some).0 (λ e. omega arith))
    (omega (arith, c.apply-trial.ensures.few))

pub returns-in_default-get : goal.returns-in_default-get
returns-in_default-get g c =
    let at = goal.at.returns-in_default-get g c in
    not-eligible _ c.refused-in_default-get.ensures
    (eligible-weak _ _ _ _ c.requires.1 (sc g at.Start) (given g at.In-Some).0 (asked g at.After-get) (ap is_key c.in_default-get.is))
    (omega (arith, c.apply-trial.ensures.few))

pub returns-then-s-start : goal.returns-then-s-start
returns-then-s-start g c =
    let at = goal.at.returns-then-s-start g c in
    let sc = sc g at.Start in
    let short : length c.args.s.now < sc.o + c.args.c = rw (← starts-at g at.After-row-start) c.if-s-start.true in
    not-eligible _ c.refused-then-s-start.ensures
    (eligible-short _ _ _ _ c.requires.1 sc (given g at.In-Some).0 (asked g at.After-get) (ap is_key c.in-Some-get.is) short)
    (omega (arith, c.apply-trial.ensures.few))

pub returns : goal.returns
returns g c =
    let at = goal.at.returns g c in
    let sc = sc g at.Start in
    let long : sc.o + c.args.c ≤ length c.args.s.now = rw (← starts-at g at.After-row-start) c.if-s-start.false in
    rw (c.given.ensures.0, c.given.ensures.1) (record {
      is = (
        eligible-on _ _ _ _ c.requires.1 sc (given g at.In-Some).0 (asked g at.After-get) (ap is_key c.in-Some-get.is) long,
        (given g at.In-Some).1,
        long,
        omega arith,
        sym c.get.ensures ∙ ap index_of c.in-Some-get.is,
      );
      few = omega (arith, c.apply-trial.ensures.few);
    })
