use Prim.Native.Nat.{ℕ}
use mathlib.Core.Path.{◌≡◌, refl}
use mathlib.Core.Bool.{Bool}
use mathlib.Core.List.{List}
use Rattle.rules.specs.Letters.{Kmer}
use Rattle.rules.specs.Exist.{Scenario, row, two}
use Rattle.scenario.specs.Scenario.{nth, two_of}
use Rattle.scenario.proofs.two.ScenarioTwoScenario.row.Goals.{Joined-self, in-II, in-IS, in-SS, in-SD, in-DD, in-ICI, in-ICS, in-ICD, in-SCI, in-SCS, in-SCD, in-DCI, in-DCD}
use Rattle.scenario.proofs.two.ScenarioTwoScenario.row.Goals as goal

by-name : (c : Joined-self) (k : ℕ) (sol : ℕ → Bool) (x : Kmer) (s : List ℕ)
    → let row = c.match-self.least in
    let sc : Scenario = two_of c.args.self k sol x s in
    (row.0 ≡ sc.least) × (row.1 ≡ sc.o) × (row.2 ≡ sc.r)
unfolding nth two row
by-name c k sol x s =
    elim c.match-self.branch [
      | in-II w ↦ rw (w.in-II.is, w.least-is) (refl, refl, refl)
      | in-IS w ↦ rw (w.in-IS.is, w.least-is) (refl, refl, refl)
      | in-SS w ↦ rw (w.in-SS.is, w.least-is) (refl, refl, refl)
      | in-SD w ↦ rw (w.in-SD.is, w.least-is) (refl, refl, refl)
      | in-DD w ↦ rw (w.in-DD.is, w.least-is) (refl, refl, refl)
      | in-ICI w ↦ rw (w.in-ICI.is, w.least-is) (refl, refl, refl)
      | in-ICS w ↦ rw (w.in-ICS.is, w.least-is) (refl, refl, refl)
      | in-ICD w ↦ rw (w.in-ICD.is, w.least-is) (refl, refl, refl)
      | in-SCI w ↦ rw (w.in-SCI.is, w.least-is) (refl, refl, refl)
      | in-SCS w ↦ rw (w.in-SCS.is, w.least-is) (refl, refl, refl)
      | in-SCD w ↦ rw (w.in-SCD.is, w.least-is) (refl, refl, refl)
      | in-DCI w ↦ rw (w.in-DCI.is, w.least-is) (refl, refl, refl)
      | in-DCD w ↦ rw (w.in-DCD.is, w.least-is) (refl, refl, refl)
    ]

pub returns : goal.returns
returns c k sol x s =
    let q = by-name (goal.at.returns c).Joined-self k sol x s in
    record { least = q.0; start = q.1; letters = c.letters.ensures.given k sol x s; resume = q.2 }
