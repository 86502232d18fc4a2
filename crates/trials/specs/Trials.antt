-- What the trials of One and Two give by the rules.
use Rattle.std.specs.Prelude.{ℕ, ◌+◌, ◌≤◌, ◌≡◌, Bool, true, false, List, [], ◌∷◌, map, length, take, drop, eqb, Option, Some, None}
use Rattle.std.specs.List.{All}
use Rattle.std.proofs.Math.Option.{none, some}
use Rattle.rules.specs.Letters as letters
use Rattle.rules.specs.Set.{KmerSet, lookup, solid}
use Rattle.rules.specs.Counted.{Counted, Try, after}
use Rattle.rules.specs.Exist.{Scenario}
use Rattle.rules.specs.Exist as rules
use Rattle.kmer.specs.declared.Kmer.{Kmer}
use Rattle.kmer.specs.Kmer.{kmer_of, IsKmer}
use Rattle.scenario.specs.declared.counted.Try.{Try as TryOf}
use Rattle.scenario.specs.declared.mend.Mend.{Mend}
use Rattle.scenario.specs.Scenario.{spelled_out}
use Rattle.trials.specs.declared.Scenarii.{Scenarii}

-- What is left of a scenario's score where its tried k-mer t is solid and s long enough: the c bases from o.
unfoldable pub confirm : ℕ → (ℕ → Bool) → ℕ → List ℕ → Scenario → letters.Kmer → Try rules.Mend
confirm k sol c s sc t =
    let m : Counted ℕ = rules.solid_run k sol t (take c (drop sc.o s)) in
    record {
      answer = elim (eqb m.answer c) [ true ↦ some (record { letters = sc.letters t; resume = sc.r; on = t ∷ [] }) | false ↦ none ];
      lookups = m.lookups;
    }

-- After l lookups a scenario is refused, or a k-mer is left to confirm, for which s is long enough, and place is its key's index.
abbrev pub EligibleIs : ℕ → KmerSet → ℕ → List ℕ → Scenario → ℕ → Option (Kmer × ℕ) → Type 0
EligibleIs k set c s sc l (Some (y, place)) =
    (rules.tried k (solid set) c s sc ≡ after l (confirm k (solid set) c s sc (kmer_of y)))
    × IsKmer k y × (sc.o + c ≤ length s) × (y.unknown ≡ 0) × (lookup set y.code ≡ some place)
EligibleIs k set c s sc l None = rules.tried k (solid set) c s sc ≡ record { answer = none; lookups = l }

-- A trial as far as its first confirm base; at most 8 lookups, so that the counts fit.
pub record Eligible (k : ℕ) (set : KmerSet) (c : ℕ) (s : List ℕ) (sc : Scenario) (r : TryOf (Kmer × ℕ)) : Type 0 where
  pub is : EligibleIs k set c s sc r.lookups r.answer
  pub few : r.lookups ≤ 8

-- The index of the key of a mend's tried k-mer is the mend's place.
abbrev pub Placed : KmerSet → Mend → Type 0
Placed set m = lookup set m.tried ≡ some m.place

-- The scenarios kept by the rules, with all lookups; each has its key's place.
pub record KeptIs (set : KmerSet) (k : Counted (List rules.Mend)) (r : Scenarii) : Type 0 where
  pub answer : k.answer ≡ map spelled_out r.kept
  pub many : length r.kept ≤ 13
  pub lookups : k.lookups ≡ r.lookups
  pub few : r.lookups ≤ 4000
  pub placed : All (Placed set) r.kept
