-- What a host is told by the calls whose results are in lent slices too.
use Rattle.std.specs.Prelude.{ℕ, ◌≤◌, ◌≡◌, List, length, get_or}
use Rattle.rules.specs.Set.{KmerSet}
use Rattle.rules.specs.Job.{Entry}
use Rattle.rules_ceiling.specs.Ceiling.{Demand3}
use Rattle.rules.specs.Calls.{After}
use Rattle.rules_needs.specs.Needs as Needs
use Rattle.rules.specs.Blocks.{Made}
use Rattle.rules_make.specs.MakeSet.{SetMade}
use Rattle.answer_numbers.specs.Numbers.{numbers_of, needs_numbers, made_numbers, Told}

-- Every number and each lent byte are those of the rules.
pub record Exact (after : After) (old : List ℕ) (r : ℕ) (o w new : List ℕ) : Type 0 where
  pub told : Told (numbers_of after.answer) old r new
  pub output : o ≡ after.output
  pub work : w ≡ after.work

-- What a job needs: every number, and each byte of the work buffer.
pub record NeedsExact (needs : Needs.Told) (old : List ℕ) (r : ℕ) (w new : List ℕ) : Type 0 where
  pub told : Told (needs_numbers needs.answer) old r new
  pub work : w ≡ needs.work

-- Demand 3, of an accepted call: turns and lookups are numbers 3 and 4 of an answer that has so many.
abbrev pub Ceiling : KmerSet → List Entry → List (List ℕ) → ℕ → List ℕ → Type 0
Ceiling set es reads r new = r ≡ 0 → 5 ≤ length new → Demand3 set es reads (get_or new 3 0) (get_or new 4 0)

-- A maker of blocks: its numbers and every byte of the lent buffer are those of the rules.
pub record MadeExact (made : Made) (old : List ℕ) (r : ℕ) (b new : List ℕ) : Type 0 where
  pub told : Told (made_numbers made.answer) old r new
  pub buffer : b ≡ made.buffer

-- The maker of the set file: its numbers, every byte of the lent blocks and every number of the lent list of counts are those of the rules.
pub record SetMadeExact (made : SetMade) (old : List ℕ) (r : ℕ) (b c new : List ℕ) : Type 0 where
  pub told : Told (made_numbers made.answer) old r new
  pub blocks : b ≡ made.blocks
  pub counts : c ≡ made.counts
