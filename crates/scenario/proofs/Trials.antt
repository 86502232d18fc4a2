-- The trials of Two, and what their lookups answer.
use Prim.Native.Nat.{ℕ, ◌+◌, ◌≤◌, ◌<◌, zero-le}
use mathlib.Core.Path.{◌≡◌, refl, sym, ap, ◌∙◌, subst}
use mathlib.Core.Bool.{Bool, true, false}
use mathlib.Core.Option.{none, some}
use Rattle.std.specs.Prelude.{Some, None}
use mathlib.Core.List.{List}
use lib.ListN.{length}
use borrow.Author.Tests.{lt-ltb, le-ltb}
use Rattle.rules.specs.Letters as letters
use Rattle.rules.specs.Counted.{Try, refuse, give, after, ◌>>◌}
use Rattle.rules.specs.Scan.{ask, is_solid, not_solid, sole}
use Rattle.rules.specs.Exist.{Scenario, row, one}
use Rattle.scenario.specs.declared.one.ScenarioOne.{ScenarioOne}
use Rattle.scenario.specs.declared.one.ScenarioOne.TheVariants as ones
use Rattle.rules_laws.proofs.Scan.{ask-known, ask-one, ask-cost}
use Rattle.kmer.specs.declared.Kmer.{Kmer as KmerOf}
use Rattle.kmer.specs.Kmer.{kmer_of, IsKmer}
use Rattle.set.specs.declared.Asked.{Asked}
use Rattle.set.specs.Asked.{AskedIs}
use Rattle.scan.proofs.Laws.{refused-bind, given-bind}
use Rattle.scenario.specs.declared.counted.Try.{Try as TryOf}
use Rattle.scenario.specs.Scenario.{nth, one_of, trial_of, plus, instead_of, instead_after, TriedIs, TrialIs}

pub trial-short : (s : List ℕ) (sc : Scenario) → length s < sc.least → trial_of s sc ≡ refuse
unfolding trial_of
trial-short s sc h = rw (lt-ltb (length s) sc.least h, trial_of)

pub trial-long : (s : List ℕ) (sc : Scenario) → sc.least ≤ length s → trial_of s sc ≡ sc.trial
unfolding trial_of
trial-long s sc h = rw (le-ltb (length s) sc.least h, trial_of)

-- a trial's result by its parts
pub by-refused : {k : ℕ} {t : Try letters.Kmer} {l : ℕ} (r : TryOf KmerOf) → (r.answer ≡ None) × (r.lookups ≡ l) → t ≡ record { answer = none; lookups = l } → l ≤ 7
    → TrialIs k t r
by-refused r p e h = record { tried = rw (e, p.0) refl; lookups = rw (e, p.1) refl; few = rw p.1 h }

pub by-given : {k : ℕ} {t : Try letters.Kmer} {y : KmerOf} {l : ℕ} (r : TryOf KmerOf) → (r.answer ≡ Some y) × (r.lookups ≡ l)
    → t ≡ record { answer = some (kmer_of y); lookups = l } → IsKmer k y → l ≤ 7 → TrialIs k t r
by-given r p e q h = record { tried = rw (e, p.0) (refl, q); lookups = rw (e, p.1) refl; few = rw p.1 h }

pub trial-after : {k : ℕ} {t m : Try letters.Kmer} (l : ℕ) → m ≡ after l t → (r : TryOf KmerOf) → TrialIs k t r → l + r.lookups ≤ 7
    → TrialIs k m (record { answer = r.answer; lookups = l + r.lookups })
unfolding after
trial-after l e r q h = record { tried = rw e q.tried; lookups = rw e (ap (λ (i : ℕ). l + i) q.lookups); few = h }

-- what a trial's result says of it
pub trial-refused : (k : ℕ) (t : Try letters.Kmer) (r : TryOf KmerOf) → TrialIs k t r → r.answer ≡ None → t ≡ record { answer = none; lookups = r.lookups }
trial-refused k t r q e = let a = subst (TriedIs k t.answer) e q.tried in λ i. record { answer = a i; lookups = q.lookups i }

pub trial-given : (k : ℕ) (t : Try letters.Kmer) (r : TryOf KmerOf) (y : KmerOf) → TrialIs k t r → r.answer ≡ Some y
    → (t ≡ record { answer = some (kmer_of y); lookups = r.lookups }) × IsKmer k y
trial-given k t r y q e =
    let a = subst (TriedIs k t.answer) e q.tried in
    (λ i. record { answer = a.0 i; lookups = q.lookups i }, a.1)

-- One's trials all give x
pub one-trial : (sc : ScenarioOne) (k : ℕ) (sol : ℕ → Bool) (x : letters.Kmer) (s : List ℕ) → trial_of s (one_of sc k sol x s) ≡ give x
unfolding nth one row
one-trial ones.I k sol x s = trial-long s _ zero-le
one-trial ones.S k sol x s = trial-long s _ zero-le
one-trial ones.D k sol x s = trial-long s _ zero-le

-- ---- lookups, and what goes on after them

-- y asked, and asked_is by r
module _ (sol : ℕ → Bool) (y : letters.Kmer) {r : Asked} (asked : AskedIs (ask sol y) r) where
  pub asked_is : {t : Bool} → r.solid ≡ t → (ask sol y).answer ≡ t
  asked_is e = sym asked.solid ∙ e

  pub asked-le : r.lookups ≤ 1
  asked-le = rw asked.lookups (ask-cost sol y)

  -- a solid k-mer has no unknown letter, so it was looked up
  pub solid-one : r.solid ≡ true → r.lookups ≡ 1
  solid-one e = asked.lookups ∙ ask-one sol y (ask-known sol y (asked_is e))

  module _ (k : ℕ) where
    pub solid-yes : r.solid ≡ true → is_solid k sol y ≡ record { answer = some y; lookups = r.lookups }
    unfolding is_solid
    solid-yes e = rw (asked_is e, is_solid, asked.lookups)

    pub solid-no : r.solid ≡ false → is_solid k sol y ≡ record { answer = none; lookups = r.lookups }
    unfolding is_solid
    solid-no e = rw (asked_is e, is_solid, asked.lookups)

    not_yes : r.solid ≡ true → not_solid k sol y ≡ record { answer = none; lookups = r.lookups }
    unfolding not_solid
    not_yes e = rw (asked_is e, not_solid, asked.lookups)

    not-no : r.solid ≡ false → not_solid k sol y ≡ record { answer = some y; lookups = r.lookups }
    unfolding not_solid
    not-no e = rw (asked_is e, not_solid, asked.lookups)

-- the same where the answer is not handed on
pub refused-then : {A B : Type 0} {m : Try A} {l : ℕ} (n : Try B) → m ≡ record { answer = none; lookups = l } → m >> n ≡ record { answer = none; lookups = l }
unfolding ◌>>◌
refused-then n e = refused-bind (λ a. n) e

pub given-then : {A B : Type 0} {m : Try A} {a : A} {l : ℕ} (n : Try B) → m ≡ record { answer = some a; lookups = l } → m >> n ≡ after l n
unfolding ◌>>◌
given-then n e = given-bind (λ a. n) e

module _ (k : ℕ) (sol : ℕ → Bool) (x : letters.Kmer) (s : List ℕ) where
  abbrev y : letters.Kmer
  y = plus k x s 1

  -- ---- SS, ICS

  module _ {r : Asked} (asked : AskedIs (ask sol y) r) where
    pub instead-refused : r.solid ≡ true → instead_of k sol x s ≡ record { answer = none; lookups = r.lookups }
    unfolding instead_of
    instead-refused e = refused-then (sole k sol x) (not_yes sol y asked k e)

    pub instead-on : r.solid ≡ false → instead_of k sol x s ≡ after r.lookups (sole k sol x)
    unfolding instead_of
    instead-on e = given-then (sole k sol x) (not-no sol y asked k e)

    -- ---- SCS

    pub after-refused : r.solid ≡ false → instead_after k sol x s ≡ record { answer = none; lookups = r.lookups }
    unfolding instead_after
    after-refused e = refused-then (sole k sol y) (refused-then (not_solid k sol (plus k y s 2)) (solid-no sol y asked k e))

    module _ {r' : Asked} (asked' : AskedIs (ask sol (plus k y s 2)) r') (e : r.solid ≡ true) where
      pub after-solid : r'.solid ≡ true → instead_after k sol x s ≡ record { answer = none; lookups = r.lookups + r'.lookups }
      unfolding instead_after after
      after-solid f =
          refused-then (sole k sol y) (given-then (not_solid k sol (plus k y s 2)) (solid-yes sol y asked k e) ∙ rw (not_yes sol (plus k y s 2) asked' k f) refl)

      pub after-on : r'.solid ≡ false → instead_after k sol x s ≡ after (r.lookups + r'.lookups) (sole k sol y)
      unfolding instead_after after
      after-on f =
          given-then {a = plus k y s 2} (sole k sol y)
          (given-then (not_solid k sol (plus k y s 2)) (solid-yes sol y asked k e) ∙ rw (not-no sol (plus k y s 2) asked' k f) refl)
