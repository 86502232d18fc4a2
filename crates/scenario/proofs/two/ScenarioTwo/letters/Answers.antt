use native.Mathlib.Omega.{arith}
use mathlib.Core.Path.{refl}
use Rattle.rules.specs.Exist.{row, two}
use Rattle.scenario.specs.Scenario.{nth}
use Rattle.scenario.proofs.Mends.{letters-in, number-lt}
use Rattle.scenario.proofs.two.ScenarioTwo.letters.Goals as goal

pub returns-in-5-clause-given : goal.returns-in-5-clause-given
unfolding nth two row
returns-in-5-clause-given c = letters-in 1 5 1 (λ k sol x s t. (refl, tt)) c.args.self (omega arith) (omega arith)

pub returns-in-11-clause-given : goal.returns-in-11-clause-given
unfolding nth two row
returns-in-11-clause-given c = letters-in 0 11 1 (λ k sol x s t. (refl, tt)) c.args.self (omega arith) (omega arith)

pub returns-in-0-to-1-clause-given : goal.returns-in-0-to-1-clause-given
unfolding nth two row
returns-in-0-to-1-clause-given c = letters-in 1 0 2 (λ k sol x s t. (refl, (refl, tt))) c.args.self (omega arith) (omega arith)

pub returns-in-2-to-4-clause-given : goal.returns-in-2-to-4-clause-given
unfolding nth two row
returns-in-2-to-4-clause-given c = letters-in 2 2 3 (λ k sol x s t. (refl, (refl, (refl, tt)))) c.args.self (omega arith) (omega arith)

pub returns-in-6-to-7-clause-given : goal.returns-in-6-to-7-clause-given
unfolding nth two row
returns-in-6-to-7-clause-given c = letters-in 2 6 2 (λ k sol x s t. (refl, (refl, tt))) c.args.self (omega arith) (omega arith)

pub returns-in-8-to-10-clause-given : goal.returns-in-8-to-10-clause-given
unfolding nth two row
returns-in-8-to-10-clause-given c = letters-in 3 8 3 (λ k sol x s t. (refl, (refl, (refl, tt)))) c.args.self (omega arith) (omega arith)

pub returns-in_default-clause-given : goal.returns-in_default-clause-given
unfolding nth two row
returns-in_default-clause-given c = letters-in 3 12 1 (λ k sol x s t. (refl, tt)) c.args.self (omega arith) (number-lt c.args.self)
