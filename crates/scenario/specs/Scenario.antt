-- The scenarios of One and Two, and what their functions give by the rules.
use Rattle.std.specs.Prelude.{ℕ, zero, suc, ◌≤◌, ◌≡◌, Bool, true, false, List, [], ◌∷◌, length, get_or, ltb, Option, Some, None}
use Rattle.std.proofs.Math.Option.{Option as Maybe, none, some}
use Rattle.rules.specs.Letters.{Kmer, add_base, last}
use Rattle.rules.specs.Counted.{Try, refuse, give, ◌>>◌}
use Rattle.rules.specs.Scan.{is_solid, not_solid, sole}
use Rattle.rules.specs.Exist.{Scenario, one, two}
use Rattle.rules.specs.Exist as rules
use Rattle.kmer.specs.declared.Kmer.{Kmer as KmerOf}
use Rattle.kmer.specs.Kmer.{kmer_of, IsKmer}
use Rattle.scenario.specs.declared.one.ScenarioOne.{ScenarioOne}
use Rattle.scenario.specs.declared.one.ScenarioOne.TheVariants as ones
use Rattle.scenario.specs.declared.two.ScenarioTwo.{ScenarioTwo}
use Rattle.scenario.specs.declared.two.ScenarioTwo.TheVariants as twos
use Rattle.scenario.specs.declared.row.Row.{Row}
use Rattle.scenario.specs.declared.counted.Try.{Try as TryOf}
use Rattle.scenario.specs.declared.mend.Mend.{Mend}

-- ---- the rules' scenarios

-- The scenario of a number.
unfoldable pub nth : List Scenario → ℕ → Scenario
nth scs i = get_or scs i (record { least = 0; trial = refuse; o = 0; letters = λ t. []; r = 0 })

-- The scenario of One that has a name.
abbrev pub one_of : ScenarioOne → ℕ → (ℕ → Bool) → Kmer → List ℕ → Scenario
one_of ones.I k sol x s = nth (one k sol x s) 0
one_of ones.S k sol x s = nth (one k sol x s) 1
one_of ones.D k sol x s = nth (one k sol x s) 2

-- The scenario of Two that has a name.
abbrev pub two_of : ScenarioTwo → ℕ → (ℕ → Bool) → Kmer → List ℕ → Scenario
two_of twos.II k sol x s = nth (two k sol x s) 0
two_of twos.IS k sol x s = nth (two k sol x s) 1
two_of twos.SS k sol x s = nth (two k sol x s) 2
two_of twos.SD k sol x s = nth (two k sol x s) 3
two_of twos.DD k sol x s = nth (two k sol x s) 4
two_of twos.ICI k sol x s = nth (two k sol x s) 5
two_of twos.ICS k sol x s = nth (two k sol x s) 6
two_of twos.ICD k sol x s = nth (two k sol x s) 7
two_of twos.SCI k sol x s = nth (two k sol x s) 8
two_of twos.SCS k sol x s = nth (two k sol x s) 9
two_of twos.SCD k sol x s = nth (two k sol x s) 10
two_of twos.DCI k sol x s = nth (two k sol x s) 11
two_of twos.DCD k sol x s = nth (two k sol x s) 12

-- The n letters that a scenario gives: a single one is the last of x, more are the last of the tried k-mer t.
abbrev pub letters_of : ℕ → Kmer → Kmer → List ℕ
letters_of zero x t = []
letters_of (suc zero) x t = last 1 x
letters_of (suc (suc n)) x t = last (suc (suc n)) t

-- r is the row of a scenario on x, but for its trial.
pub record RowIs (sc : Scenario) (x : Kmer) (r : Row) : Type 0 where
  pub least : r.least ≡ sc.least
  pub start : r.start ≡ sc.o
  pub letters : (t : Kmer) → letters_of r.letters x t ≡ sc.letters t
  pub resume : r.resume ≡ sc.r

-- ---- trials

-- A scenario's trial: refused below its least length without lookups.
unfoldable pub trial_of : List ℕ → Scenario → Try Kmer
trial_of s sc = elim (ltb (length s) sc.least) [ true ↦ refuse | false ↦ sc.trial ]

-- y+si
abbrev pub plus : ℕ → Kmer → List ℕ → ℕ → Kmer
plus k y s i = add_base k y (get_or s i 0)

-- SCI, DCI: x+s1+s3.
unfoldable pub passing_of : ℕ → Kmer → List ℕ → Try Kmer
passing_of k x s = give (plus k (plus k x s 1) s 3)

module _ (k : ℕ) (sol : ℕ → Bool) (x : Kmer) (s : List ℕ) where
  -- ICD, SCD, DCD: y = x+si, y+u(y).
  unfoldable pub sole_after : ℕ → Try Kmer
  sole_after i = sole k sol (plus k x s i)

  -- ICI: x+s3, solid.
  unfoldable pub solid_after : Try Kmer
  solid_after = is_solid k sol (plus k x s 3)

  -- SS, ICS: x+s1 not solid, x+u(x).
  unfoldable pub instead_of : Try Kmer
  instead_of = not_solid k sol (plus k x s 1) >> sole k sol x

  -- SCS: y = x+s1 solid, y+s2 not, y+u(y).
  unfoldable pub instead_after : Try Kmer
  instead_after = is_solid k sol (plus k x s 1) >> not_solid k sol (plus k (plus k x s 1) s 2) >> sole k sol (plus k x s 1)

-- The tried k-mer of the answer o, or a refusal.
abbrev pub TriedIs : ℕ → Maybe Kmer → Option KmerOf → Type 0
TriedIs k o (Some y) = (o ≡ some (kmer_of y)) × IsKmer k y
TriedIs k o None = o ≡ none

-- The tried k-mer or a refusal, after the lookups made.
pub record TrialIs (k : ℕ) (t : Try Kmer) (r : TryOf KmerOf) : Type 0 where
  pub tried : TriedIs k t.answer r.answer
  pub lookups : t.lookups ≡ r.lookups
  pub few : r.lookups ≤ 7

-- ---- what is given

-- The k-mer of a code, all its letters known.
abbrev pub of_code : ℕ → Kmer
of_code code = record { code = code; unknown = 0 }

-- A mend by the rules: its letters spelled out, and it rests on its tried k-mer. A k-mer's last letters depend on its code alone (the law
-- `last_code`).
abbrev pub spelled_out : Mend → rules.Mend
spelled_out m = record { letters = last m.letters (of_code m.code); resume = m.resume; on = of_code m.tried ∷ [] }

-- What a scenario gives where t is its tried k-mer and place its key's index.
pub record Gives (sc : Scenario) (t : Kmer) (place : ℕ) (m : Mend) : Type 0 where
  pub is : spelled_out m ≡ record { letters = sc.letters t; resume = sc.r; on = t ∷ [] }
  pub place_is : m.place ≡ place
