-- Passes one after the other: what is done so far and what is left of the entries.
use Prim.Native.Nat.{ℕ, suc, ◌+◌, ◌-◌, ◌%◌, ◌≤◌, ◌<◌, max}
use native.Mathlib.Omega.{arith}
use native.Mathlib.Nat.{add-zero, add_assoc, sub-zero}
use native.Mathlib.Numerals.{add-one}
use borrow.Author.Tests.{eq-eqb, ne_eqb}
use mathlib.Core.Path.{◌≡◌, refl, sym, ap}
use mathlib.Core.Bool.{Bool, true, false}
use mathlib.Core.List.{List, [], ◌∷◌}
use lib.ListN.{length}
use lib.Dec.{eqb}
use Rattle.rules.specs.Set.{KmerSet}
use Rattle.rules.specs.Job.{Entry, entry_at, entry_count, entries_from, entries_of, result}
use Rattle.rules.specs.Counts.{sum, passes_of, turns, lookups, attempts, corrections, support, support_over}
use Rattle.rules.specs.Calls.{longest}
use Rattle.rules_laws.proofs.Support.{weaker-none, weaker-assoc}
use Rattle.correct.specs.Pass.{Tally, one_pass, Small}
use Rattle.through.specs.Through.{through, held, entries_left, both, go_on}

-- ---- the buffer that is read

pub held-even : (n : ℕ) (output work : List ℕ) → n % 2 ≡ 0 → held n output work ≡ output
unfolding held
held-even n output work e = rw (held, eq-eqb (n % 2) 0 e)

pub held-odd : (n : ℕ) (output work : List ℕ) → n % 2 ≡ 1 → held n output work ≡ work
unfolding held
held-odd n output work e = rw (held, ne_eqb (n % 2) 0 (λ z. omega arith))

pub held-length : (n : ℕ) (output work : List ℕ) → length work ≡ length output → length (held n output work) ≡ length output
unfolding held
held-length n output work e = go (eqb (n % 2) 0) refl
  where
    go : (b : Bool) → eqb (n % 2) 0 ≡ b → length (held n output work) ≡ length output
    go true h = rw (h, held)
    go false h = rw (h, held) e

-- ---- the entries from i on

module _ (job : List ℕ) where
  pub entries-all : entries_of job ≡ entries_left job 0
  unfolding entries_of
  entries-all = ap (entries_from job 0) (sym (sub-zero (entry_count job)))

  pub entries_next : (i : ℕ) → i < entry_count job → entries_left job i ≡ entry_at job i ∷ entries_left job (i + 1)
  unfolding entries_from
  entries_next i h = let more : entry_count job - i ≡ suc (entry_count job - suc i) = omega arith in rw (more, add-one i, entries_from)

  pub entries_over : (i : ℕ) → entry_count job ≤ i → entries_left job i ≡ []
  unfolding entries_from
  entries_over i h = let none : entry_count job - i ≡ 0 = omega arith in rw (none, entries_from)

-- ---- counts

pub add_small : (i j : ℕ) (p q : Tally) → Small i p → Small j q → Small (i + j) (both p q)
add_small i j p q a b =
    record {
      turns = omega (arith, a.turns, b.turns);
      lookups = omega (arith, a.lookups, b.lookups);
      attempts = omega (arith, a.attempts, b.attempts);
      accepted = omega (arith, a.accepted, b.accepted);
      bases = omega (arith, a.bases, b.bases);
    }

module _ (set : KmerSet) where
  pub begun : (e : Entry) (es : List Entry) (read : List ℕ) → go_on set (one_pass set e read) es ≡ through set (e ∷ es) read
  unfolding one_pass through passes_of sum turns lookups attempts corrections support support_over result
  begun e es read = refl

  pub next : (p : Tally) (e : Entry) (es : List Entry) → go_on set (both p (one_pass set e p.bytes)) es ≡ go_on set p (e ∷ es)
  unfolding one_pass through passes_of sum turns lookups attempts corrections support support_over result
  next p e es =
      let q = one_pass set e p.bytes in
      let r = through set es q.bytes in
      λ i. record {
        bytes = r.bytes;
        turns = add_assoc p.turns q.turns r.turns i;
        lookups = add_assoc p.lookups q.lookups r.lookups i;
        attempts = add_assoc p.attempts q.attempts r.attempts i;
        accepted = add_assoc p.accepted q.accepted r.accepted i;
        support = weaker-assoc p.support q.support r.support i;
        bases = add_assoc p.bases q.bases r.bases i;
      }

  pub over : (p : Tally) → go_on set p [] ≡ p
  unfolding through passes_of sum support_over result
  over p =
      λ i. record {
        bytes = p.bytes;
        turns = add-zero p.turns i;
        lookups = add-zero p.lookups i;
        attempts = add-zero p.attempts i;
        accepted = add-zero p.accepted i;
        support = weaker-none p.support i;
        bases = add-zero p.bases i;
      }

  -- ---- refusal 11

  module _ (room : ℕ) (e : Entry) (es : List Entry) (fed : List ℕ) where
    abbrev p : Tally
    p = one_pass set e fed

    pub fits : length p.bytes ≤ room → max room (longest set es p.bytes) ≡ max room (longest set (e ∷ es) fed)
    unfolding one_pass longest
    fits h = omega arith

    pub long : room < length p.bytes → room < longest set (e ∷ es) fed
    unfolding one_pass longest
    long h = omega arith

  pub longest-end : (fed : List ℕ) → longest set [] fed ≡ length fed
  unfolding longest
  longest-end fed = refl
