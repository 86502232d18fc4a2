-- What the functions of One and Two give by the rules.
use Rattle.std.specs.Prelude.{ℕ, ◌≤◌, ◌<◌, ◌≡◌, true, false, get_or, Option, Some, None}
use Rattle.std.proofs.Math.Option.{Option as MaybeOf, none, some}
use Rattle.rules.specs.Letters.{letter}
use Rattle.rules.specs.Set.{KmerSet}
use Rattle.rules.specs.Counted.{Try}
use Rattle.rules.specs.Exist as rules
use Rattle.set.specs.declared.Asked.{Asked}
use Rattle.scenario.specs.declared.counted.Try.{Try as TryOf}
use Rattle.scenario.specs.declared.mend.Mend.{Mend}
use Rattle.scenario.specs.Scenario.{spelled_out}
use Rattle.trials.specs.Trials.{Placed}

-- a is the code of letter i.
pub record LetterIs (m : Mend) (i a : ℕ) : Type 0 where
  pub is : get_or (spelled_out m).letters i 0 ≡ letter a
  pub small : a < 4

-- ---- the choice

-- One base more, as the rules answer it: the mend itself, or a refusal.
abbrev pub more_of : rules.Mend → Asked → Try rules.Mend
more_of m r = record { answer = elim r.solid [ true ↦ some m | false ↦ none ]; lookups = r.lookups }

pub record MoreIs (m : rules.Mend) (t : Try rules.Mend) (r : Asked) : Type 0 where
  pub is : more_of m r ≡ t
  pub few : r.lookups ≤ 1

-- The mend of the answer o, with its key's place, or a refusal.
abbrev pub MendIs : KmerSet → MaybeOf rules.Mend → Option Mend → Type 0
MendIs set o (Some m) = (o ≡ some (spelled_out m)) × Placed set m
MendIs set o None = o ≡ none

-- The mend chosen or a refusal, after the lookups made.
pub record ChoiceIs (set : KmerSet) (t : Try rules.Mend) (r : TryOf Mend) : Type 0 where
  pub mend : MendIs set t.answer r.answer
  pub lookups : t.lookups ≡ r.lookups
  pub few : r.lookups ≤ 13
