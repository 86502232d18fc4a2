use Prim.Native.Nat.{◌≤◌}
use native.Mathlib.Omega.{arith}
use mathlib.Core.Path.{◌≡◌, refl}
use mathlib.Core.Logic.{inl, inr}
use lib.Dec.{lit≤}
use lib.ListN.{length}
use Rattle.rules.specs.Letters as letters
use Rattle.rules.specs.Set.{solid, set_of}
use Rattle.rules.specs.Counted.{Try, give, refuse}
use Rattle.rules.specs.Exist.{Scenario, row, with, two}
use Rattle.kmer.specs.declared.Kmer.{Kmer as KmerOf}
use Rattle.kmer.specs.Kmer.{kmer_of}
use Rattle.scenario.specs.declared.counted.Try.{Try as TryOf}
use Rattle.scenario.specs.declared.two.ScenarioTwo.{ScenarioTwo}
use Rattle.scenario.specs.declared.two.ScenarioTwo.TheVariants.{II, IS, SS, SD, DD, ICI, ICS, ICD, SCI, SCS, SCD, DCI, DCD}
use Rattle.scenario.specs.Scenario.{nth, two_of, trial_of, sole_after, solid_after, passing_of, instead_of, instead_after, TrialIs}
use Rattle.scenario.proofs.Trials.{trial-short, trial-long, by-refused, by-given}
use Rattle.scenario.proofs.two.ScenarioTwoScenario.apply.Goals.{Start, Else-s-row}
use Rattle.scenario.proofs.two.ScenarioTwoScenario.apply.Goals as goal

-- the scenario of a name
abbrev sc : Start → ScenarioTwo → Scenario
sc c name = let a = c.args in two_of name a.set.now.head.k (solid (set_of a.set.now.bytes.now)) (kmer_of a.x) a.s.now

-- what its row says of s
long : (c : Else-s-row) (name : ScenarioTwo) → c.args.self ≡ name → (sc (goal.at.Else-s-row c).Start name).least ≤ length c.args.s.now
long c name e = rw (← e, ← (c.row.ensures _ _ _ _).least) c.if-s-row.false

tried : (c : Else-s-row) (name : ScenarioTwo) {t : Try letters.Kmer} {r : TryOf KmerOf} → c.args.self ≡ name → (sc (goal.at.Else-s-row c).Start name).trial ≡ t
    → TrialIs c.args.set.now.head.k t r
    → TrialIs c.args.set.now.head.k (trial_of c.args.s.now (sc (goal.at.Else-s-row c).Start c.args.self)) r
tried c name e q h = rw (e, trial-long _ (sc (goal.at.Else-s-row c).Start name) (long c name e), q) h

pub returns-then-s-row : goal.returns-then-s-row
unfolding refuse
returns-then-s-row c =
    let short = trial-short _ (sc (goal.at.returns-then-s-row c).Start c.args.self) (rw (← (c.row.ensures _ _ _ _).least) c.if-s-row.true) in
    by-refused _ c.refused.ensures short (lit≤ tt)

pub instead-requires : goal.instead-requires
unfolding nth two row
instead-requires c = (c.requires, elim c.in-SS.is [ inl e ↦ omega (arith, long (goal.at.instead-requires c).Else-s-row SS e) | inr e ↦ omega (arith, long (goal.at.instead-requires c).Else-s-row ICS e) ])

pub solid_after-requires : goal.solid_after-requires
unfolding nth two row
solid_after-requires c = (c.requires, omega (arith, long (goal.at.solid_after-requires c).Else-s-row ICI c.in-ICI.is))

pub passing-requires : goal.passing-requires
unfolding nth two row
passing-requires c = (c.requires, elim c.in-SCI.is [ inl e ↦ omega (arith, long (goal.at.passing-requires c).Else-s-row SCI e) | inr e ↦ omega (arith, long (goal.at.passing-requires c).Else-s-row DCI e) ])

pub instead_after-requires : goal.instead_after-requires
unfolding nth two row
instead_after-requires c = (c.requires, omega (arith, long (goal.at.instead_after-requires c).Else-s-row SCS c.in-SCS.is))

pub sole_after-requires : goal.sole_after-requires
unfolding nth two row
sole_after-requires c = (c.requires, omega (arith, long (goal.at.sole_after-requires c).Else-s-row ICD c.in-ICD.is))

pub sole_after-requires-in-SCD : goal.sole_after-requires-in-SCD
unfolding nth two row
sole_after-requires-in-SCD c = (c.requires, omega (arith, long (goal.at.sole_after-requires-in-SCD c).Else-s-row SCD c.in-SCD.is))

pub sole_after-requires-in-DCD : goal.sole_after-requires-in-DCD
unfolding nth two row
sole_after-requires-in-DCD c = (c.requires, omega (arith, long (goal.at.sole_after-requires-in-DCD c).Else-s-row DCD c.in-DCD.is))

pub returns-in-II : goal.returns-in-II
unfolding nth two row give
returns-in-II c = elim c.in-II.is [ inl e ↦ tried (goal.at.returns-in-II c).Else-s-row II e refl (by-given _ c.given.ensures refl c.requires (lit≤ tt)) | inr e ↦ tried (goal.at.returns-in-II c).Else-s-row IS e refl (by-given _ c.given.ensures refl c.requires (lit≤ tt)) ]

pub returns-in-SS : goal.returns-in-SS
unfolding nth two row with instead_of
returns-in-SS c = elim c.in-SS.is [ inl e ↦ tried (goal.at.returns-in-SS c).Else-s-row SS e refl c.instead.ensures | inr e ↦ tried (goal.at.returns-in-SS c).Else-s-row ICS e refl c.instead.ensures ]

pub returns-in-SD : goal.returns-in-SD
unfolding nth two row
returns-in-SD c = elim c.in-SD.is [ inl e ↦ tried (goal.at.returns-in-SD c).Else-s-row SD e refl c.sole.ensures.0 | inr e ↦ tried (goal.at.returns-in-SD c).Else-s-row DD e refl c.sole.ensures.0 ]

pub returns-in-ICI : goal.returns-in-ICI
unfolding nth two row with solid_after
returns-in-ICI c = tried (goal.at.returns-in-ICI c).Else-s-row ICI c.in-ICI.is refl c.solid_after.ensures

pub returns-in-SCI : goal.returns-in-SCI
unfolding nth two row with passing_of
returns-in-SCI c = elim c.in-SCI.is [ inl e ↦ tried (goal.at.returns-in-SCI c).Else-s-row SCI e refl c.passing.ensures | inr e ↦ tried (goal.at.returns-in-SCI c).Else-s-row DCI e refl c.passing.ensures ]

pub returns-in-SCS : goal.returns-in-SCS
unfolding nth two row with instead_after
returns-in-SCS c = tried (goal.at.returns-in-SCS c).Else-s-row SCS c.in-SCS.is refl c.instead_after.ensures

pub returns-in-ICD : goal.returns-in-ICD
unfolding nth two row with sole_after
returns-in-ICD c = tried (goal.at.returns-in-ICD c).Else-s-row ICD c.in-ICD.is refl c.sole_after.ensures

pub returns-in-SCD : goal.returns-in-SCD
unfolding nth two row with sole_after
returns-in-SCD c = tried (goal.at.returns-in-SCD c).Else-s-row SCD c.in-SCD.is refl c.sole_after-in-SCD.ensures

pub returns-in-DCD : goal.returns-in-DCD
unfolding nth two row with sole_after
returns-in-DCD c = tried (goal.at.returns-in-DCD c).Else-s-row DCD c.in-DCD.is refl c.sole_after-in-DCD.ensures
