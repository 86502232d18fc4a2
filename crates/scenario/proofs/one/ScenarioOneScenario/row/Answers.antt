use Prim.Native.Nat.{ℕ}
use mathlib.Core.Path.{◌≡◌, refl}
use mathlib.Core.Bool.{Bool}
use mathlib.Core.List.{List}
use Rattle.rules.specs.Letters.{Kmer, last}
use Rattle.rules.specs.Exist.{Scenario, row, one}
use Rattle.scenario.specs.Scenario.{nth, one_of}
use Rattle.scenario.proofs.one.ScenarioOneScenario.row.Goals.{Joined-self, in-I, in-S, in-D}
use Rattle.scenario.proofs.one.ScenarioOneScenario.row.Goals as goal

by-name : (c : Joined-self) (k : ℕ) (sol : ℕ → Bool) (x : Kmer) (s : List ℕ)
    → let row = c.match-self.start in
    let sc : Scenario = one_of c.args.self k sol x s in
    (0 ≡ sc.least) × (row.0 ≡ sc.o) × ((t : Kmer) → last 1 x ≡ sc.letters t) × (row.1 ≡ sc.r)
unfolding nth one row
by-name c k sol x s =
    elim c.match-self.branch [
      | in-I w ↦ rw (w.in-I.is, w.start-is) (refl, refl, λ t. refl, refl)
      | in-S w ↦ rw (w.in-S.is, w.start-is) (refl, refl, λ t. refl, refl)
      | in-D w ↦ rw (w.in-D.is, w.start-is) (refl, refl, λ t. refl, refl)
    ]

pub returns : goal.returns
returns c k sol x s = let q = by-name (goal.at.returns c).Joined-self k sol x s in record { least = q.0; start = q.1; letters = q.2; resume = q.3 }
