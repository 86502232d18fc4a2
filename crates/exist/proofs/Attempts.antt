-- An attempt from its parts: the alternative, the scenarios kept, the choice.
use Prim.Native.Nat.{ℕ, ◌+◌, ◌≤◌}
use native.Mathlib.Omega.{arith}
use mathlib.Core.Path.{◌≡◌, refl, ap, ◌∙◌}
use mathlib.Core.Bool.{Bool}
use mathlib.Core.Option.{Option, none, some}
use mathlib.Core.List.{List, [], ◌∷◌, map}
use lib.ListN.{length, take}
use Rattle.rules.specs.Letters.{Kmer, in_place}
use Rattle.rules.specs.Set.{KmerSet}
use Rattle.rules.specs.Counted.{Try, after}
use Rattle.rules.specs.Scan.{alternative}
use Rattle.rules.specs.Exist.{Scenario, kept, choose, exist}
use Rattle.rules.specs.Exist as rules
use Rattle.rules.specs.Driver.{weaker, weakest}
use Rattle.kmer.specs.declared.Kmer.{Kmer as KmerOf}
use Rattle.kmer.specs.Kmer.{HasLetters}
use Rattle.scan.specs.Attempt.{Attempted}
use Rattle.scan.specs.declared.Attempt.TheVariants.{Mend as Mended, Refused}
use Rattle.scenario.specs.declared.mend.Mend.{Mend}
use Rattle.scenario.specs.Scenario.{of_code, spelled_out}
use Rattle.scan.proofs.Laws.{refused-bind, given-bind}
use Rattle.trials.specs.declared.Scenarii.{Scenarii}
use Rattle.trials.specs.Trials.{KeptIs}
use Rattle.exist.proofs.Letters.{spelled-length}

-- made lookups before it
module _ (k : ℕ) (sol : ℕ → Bool) (c : ℕ) (s : List ℕ) (scs : Kmer → List ℕ → List Scenario) (y : Kmer) (made : ℕ) where
  abbrev attempt : Try rules.Mend
  attempt = after made (exist k sol c s scs y)

  -- no alternative, after l lookups
  pub exist-none : {l : ℕ} → alternative k sol y ≡ record { answer = none; lookups = l } → attempt ≡ record { answer = none; lookups = made + l }
  unfolding exist after
  exist-none e = ap (after made) (refused-bind _ e)

  module _ {x : Kmer} (a : alternative k sol y ≡ record { answer = some x; lookups = 4 }) {set : KmerSet} (r : Scenarii) (q : KeptIs set (kept k sol c s (scs x s)) r) where
    chosen : attempt ≡ after made (after 4 (after r.lookups (choose k sol c s y (map spelled_out r.kept))))
    unfolding exist
    chosen =
        ap (after made) (given-bind _ a ∙ rw (q.answer, q.lookups))

    pub exist-answer : attempt.answer ≡ (choose k sol c s y (map spelled_out r.kept)).answer
    unfolding after
    exist-answer = ap (λ (t : Try rules.Mend). t.answer) chosen

    pub exist-lookups : {l : ℕ} → (choose k sol c s y (map spelled_out r.kept)).lookups ≡ l → attempt.lookups ≡ made + 4 + r.lookups + l
    unfolding after
    exist-lookups e = ap (λ (t : Try rules.Mend). t.lookups) chosen ∙ omega arith

-- ---- what is answered of the attempt t

module _ {k : ℕ} {y : Kmer} {count : Kmer → ℕ} {index : ℕ} {out : List ℕ} {t : Try rules.Mend} where
  pub refused : {l : ℕ} → t.answer ≡ none → t.lookups ≡ l → Attempted k y count index out out t (Refused l)
  refused e p = record { is = (e, p); room = refl }

  -- it rests on its tried k-mer alone
  pub mended : {out' : List ℕ} {l v : ℕ} {placed : KmerOf} (m : Mend) → t.answer ≡ some (spelled_out m) → t.lookups ≡ l
      → (m.letters ≤ length out' → take m.letters out' ≡ (spelled_out m).letters) → length out' ≡ length out → count (of_code m.tried) ≡ v
      → HasLetters k (in_place k y (spelled_out m).letters) placed → Attempted k y count index out out' t (Mended m.letters m.resume l v placed)
  unfolding weakest weaker
  mended m e p w n q h =
      record {
        is = (
          record {
            letters = (spelled_out m).letters;
            on = of_code m.tried ∷ [];
            is = e;
            many = spelled-length m;
            written = w;
            weakest_is = ap {B = Option ℕ} some q;
            placed = h;
          },
          p,
        );
        room = n;
      }
