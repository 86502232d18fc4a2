-- What a host is told is what the rules say.
use Prim.Native.Nat.{ℕ, ◌<◌}
use native.Mathlib.Omega.{arith}
use mathlib.Core.Path.{◌≡◌, ap, ◌∙◌, subst}
use mathlib.Core.List.{List}
use lib.ListN.{length}
use Rattle.std.specs.Prelude.{Result, Ok, Err}
use Rattle.rules.specs.Refusal.{Outcome}
use Rattle.rules.specs.Set.{KmerSet}
use Rattle.rules.specs.Job.{Entry}
use Rattle.rules.specs.Calls.{After}
use Rattle.rules.specs.Blocks.{Made}
use Rattle.rules_make.specs.MakeSet.{SetMade}
use Rattle.refusal.specs.declared.Refusal.{Refusal}
use Rattle.refusal.specs.declared.Refusal.TheVariants as Refusals
use Rattle.refusal.specs.Refusal.{refusal_of}
use Rattle.report.specs.declared.Report.{Report as Reported}
use Rattle.report.specs.Answer as Report
use Rattle.report.specs.Answer.{answer_of}
use Rattle.rules_needs.specs.Needs as Rules
use Rattle.needs.specs.declared.Need.{Need}
use Rattle.needs.specs.Needs as Needs
use Rattle.answer_numbers.specs.Numbers.{numbers_of, needs_numbers, made_numbers, Told}
use Rattle.exports.specs.Calls.{Exact, NeedsExact, Ceiling, MadeExact, SetMadeExact}
use Rattle.answer_numbers.proofs.Laid.{laid-there, laid-length}

pub told-by : {ns ms old new : List ℕ} {r : ℕ} → ns ≡ ms → Told ns old r new → Told ms old r new
told-by {ns} {ms} {old} {new} {r} e t = subst (λ (l : List ℕ). Told l old r new) e t

-- ---- a maker of blocks

pub told-made : (a : Outcome ℕ) {ns old new : List ℕ} {r : ℕ} → ns ≡ made_numbers a → Told ns old r new → {made : Made} {b : List ℕ}
    → record { answer = a; buffer = b } ≡ made → MadeExact made old r b new
told-made a n t e = record { told = told-by (n ∙ ap (λ (m : Made). made_numbers m.answer) e) t; buffer = ap (λ (m : Made). m.buffer) e }

pub told-set : (a : Outcome ℕ) {ns old new : List ℕ} {r : ℕ} → ns ≡ made_numbers a → Told ns old r new → {made : SetMade} {b c : List ℕ}
    → record { answer = a; blocks = b; counts = c } ≡ made → SetMadeExact made old r b c new
told-set a n t e = record {
  told = told-by (n ∙ ap (λ (m : SetMade). made_numbers m.answer) e) t;
  blocks = ap (λ (m : SetMade). m.blocks) e;
  counts = ap (λ (m : SetMade). m.counts) e;
}

-- ---- a call: the code's answer a, told as r and new

pub told-exact : (a : Result Reported Refusal) {old new : List ℕ} {r : ℕ} → Told (numbers_of (answer_of a)) old r new → {after : After} {o w : List ℕ}
    → Report.Exact after a o w → Exact after old r o w new
told-exact a t e = record { told = told-by (ap numbers_of e.answer) t; output = e.output; work = e.work }

pub needs-exact : (a : Result Need Refusal) {old new : List ℕ} {r : ℕ} → Told (needs_numbers (Needs.answer_of a)) old r new → {told : Rules.Told} {w : List ℕ}
    → Needs.Exact told a w → NeedsExact told old r w new
needs-exact a t e = record { told = told-by (ap needs_numbers e.answer) t; work = e.zeroed }

number-pos : (x : Refusal) → 0 < (refusal_of x).number
number-pos Refusals.Long = omega arith
number-pos Refusals.Methods = omega arith
number-pos (Refusals.Method i) = omega arith
number-pos (Refusals.Confirm i) = omega arith
number-pos Refusals.Buffers = omega arith
number-pos Refusals.Batch = omega arith
number-pos Refusals.Length = omega arith
number-pos (Refusals.Check block) = omega arith
number-pos Refusals.Header = omega arith
number-pos (Refusals.Key word) = omega arith
number-pos (Refusals.NoRoom line) = omega arith
number-pos (Refusals.Line line) = omega arith
number-pos (Refusals.NotRising line) = omega arith
number-pos Refusals.TooShort = omega arith
number-pos Refusals.Index = omega arith
number-pos Refusals.Counts = omega arith
number-pos Refusals.NotOne = omega arith
number-pos (Refusals.Sequence line) = omega arith
number-pos (Refusals.Edit edit) = omega arith
number-pos (Refusals.NotSolid i) = omega arith

module _ (set : KmerSet) (es : List Entry) (reads : List (List ℕ)) {old new : List ℕ} {r : ℕ} where
  pub told-ceiling : (a : Result Reported Refusal) → Told (numbers_of (answer_of a)) old r new → Report.Ceiling set es reads a → Ceiling set es reads r new
  unfolding numbers_of
  told-ceiling (Ok x) t h z room =
      let ns : List ℕ = numbers_of (answer_of (Ok x)) in
      let long = ap length t.answer ∙ laid-length ns old in
      rw (t.answer, laid-there ns old 3 (omega arith) (omega (arith, long)), laid-there ns old 4 (omega arith) (omega (arith, long))) h
  told-ceiling (Err x) t h z room = absurd (omega (arith, number-pos x, t.returned))

  -- the same of what a job needs
  pub needs-ceiling : (a : Result Need Refusal) → Told (needs_numbers (Needs.answer_of a)) old r new → Needs.Ceiling set es reads a → Ceiling set es reads r new
  unfolding needs_numbers
  needs-ceiling (Ok x) t h z room =
      let ns : List ℕ = needs_numbers (Needs.answer_of (Ok x)) in
      let long = ap length t.answer ∙ laid-length ns old in
      rw (t.answer, laid-there ns old 3 (omega arith) (omega (arith, long)), laid-there ns old 4 (omega arith) (omega (arith, long))) h
  needs-ceiling (Err x) t h z room = absurd (omega (arith, number-pos x, t.returned))
