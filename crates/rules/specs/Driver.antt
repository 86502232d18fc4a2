-- Document 01, "Driver"; document 02, W5: no lookup for an unknown letter, W8: the smallest count behind the corrections.
use Prim.Native.Nat.{ℕ, zero, suc, ◌+◌, ◌*◌, ◌-◌, min}
use Rattle.std.specs.Prelude.{Bool, length, ltb}
use Rattle.std.proofs.Math.Bool.{true, false}
use Rattle.std.proofs.Math.Option.{Option, none, some}
use mathlib.Core.List.{List, [], ◌∷◌, ◌++◌}
use Rattle.std.proofs.Math.ListN.{take, drop}
use Rattle.rules.specs.Letters.{Kmer, add, add_base, code, kmer, in_place}
use Rattle.rules.specs.Counted.{Try}
use Rattle.rules.specs.Scan.{ask}
use Rattle.rules.specs.Exist.{Mend}

-- What a pass gives: its bytes, what it counts, and the smallest count behind its corrections, if there are any.
pub record Pass : Type 0 where
  pub bytes : List ℕ
  pub turns : ℕ
  pub lookups : ℕ
  pub attempts : ℕ
  pub accepted : ℕ
  pub support : Option ℕ

-- The smaller of two counts, where there are two.
unfoldable pub weaker : Option ℕ → Option ℕ → Option ℕ
weaker none b = b
weaker (some a) none = some a
weaker (some a) (some b) = some (min a b)

-- The smallest count of a list of k-mers.
unfoldable pub weakest : (Kmer → ℕ) → List Kmer → Option ℕ
unfolding weaker
weakest count [] = none
weakest count (y ∷ ys) = weaker (some (count y)) (weakest count ys)

-- Where a pass stands: the k-mer, whether the previous one counts as solid, the bases not taken yet, and what is done.
pub record State : Type 0 where
  pub kmer : Kmer
  pub previous : Bool
  pub rest : List ℕ
  pub done : Pass

-- Base b kept, its k-mer y answered p; the turn made l lookups and a refused attempts.
unfoldable pub keep_base : State → ℕ → List ℕ → Kmer → Bool → ℕ → ℕ → State
keep_base st b s y p a l =
    record {
      kmer = y;
      previous = p;
      rest = s;
      done = record {
        bytes = st.done.bytes ++ (b ∷ []);
        turns = st.done.turns + 1;
        lookups = st.done.lookups + l;
        attempts = st.done.attempts + a;
        accepted = st.done.accepted;
        support = st.done.support;
      };
    }

-- An accepted attempt at the bad k-mer y: the letters are written for the base; go on r bases further; previous counts as solid.
unfoldable pub mend_base : ℕ → (Kmer → ℕ) → State → List ℕ → Kmer → Mend → ℕ → State
unfolding in_place weaker weakest
mend_base k count st s y m l =
    record {
      kmer = in_place k y m.letters;
      previous = true;
      rest = drop m.resume s;
      done = record {
        bytes = st.done.bytes ++ m.letters;
        turns = st.done.turns + 1;
        lookups = st.done.lookups + l;
        attempts = st.done.attempts + 1;
        accepted = st.done.accepted + 1;
        support = weaker st.done.support (weakest count m.on);
      };
    }

-- The driver over any corrector, given the rest of the read at the bad base and the bad k-mer; count gives the counts of k-mers.
module _ (k : ℕ) (sol : ℕ → Bool) (count : Kmer → ℕ) (correct-error : List ℕ → Kmer → Try Mend) where
  -- A turn adds one base b, and its k-mer is asked. Not solid while the previous was: attempt.
  unfoldable pub turn : State → ℕ → List ℕ → State
  unfolding keep_base mend_base add code ask
  turn st b s =
      let y : Kmer = add_base k st.kmer b in
      let asked : ℕ = (ask sol y).lookups in
      elim (ask sol y).answer [
        | true ↦ keep_base st b s y true 0 asked
        | false ↦ elim st.previous [
          | false ↦ keep_base st b s y false 0 asked
          | true ↦ (let t : Try Mend = correct-error (b ∷ s) y in
              elim t.answer [
                | none ↦ keep_base st b s y false 1 (asked + t.lookups)
                | some m ↦ mend_base k count st (b ∷ s) y m (asked + t.lookups)
              ])
        ]
      ]

  -- Turns until no base is left. The fuel never runs out where it is 2W (the theorem `fuel`).
  unfoldable pub turns_of : ℕ → State → State
  unfolding turn
  turns_of zero st = st
  turns_of (suc fuel) st = elim st.rest [ [] ↦ st | b ∷ s ↦ turns_of fuel (turn st b s) ]

  -- The first k-mer is asked, and copied.
  unfoldable pub begin : List ℕ → State
  unfolding kmer ask
  begin read =
      let y : Kmer = kmer k (take k read) in
      record {
        kmer = y;
        previous = (ask sol y).answer;
        rest = drop k read;
        done = record { bytes = take k read; turns = 0; lookups = (ask sol y).lookups; attempts = 0; accepted = 0; support = none };
      }

  -- Shorter than k: returned unchanged, counts zero.
  unfoldable pub drive : List ℕ → Pass
  unfolding turns_of begin
  drive read =
      elim (ltb (length read) k) [
        | true ↦ record { bytes = read; turns = 0; lookups = 0; attempts = 0; accepted = 0; support = none }
        | false ↦ (turns_of (2 * (length read - k)) (begin read)).done
      ]
