-- Document 02, W11 and W14: what a read gives by itself, and a report's numbers as sums.
use Rattle.std.specs.Prelude.{ℕ, ◌+◌, ◌≡◌, List, [], ◌∷◌}
use Rattle.std.proofs.Math.Option.{Option, none}
use Rattle.rules.specs.Set.{KmerSet, offering, set_of}
use Rattle.rules.specs.Driver.{weaker}
use Rattle.rules.specs.Job.{Entry, entries_of}
use Rattle.rules.specs.Report.{Report, yield_of, quotient_of, remainder_of}
use Rattle.rules.specs.Calls.{Given, report}

-- A call's set with what is offered.
unfoldable pub given_set : Given → KmerSet
unfolding offering set_of
given_set g = offering g.index g.counts (set_of g.set)

-- Two calls with the same set and job, whatever each offers.
pub record SameJob (g h : Given) : Type 0 where
  pub set : g.set ≡ h.set
  pub job : g.job ≡ h.job

-- A read's share: the report of a batch of its own.
unfoldable pub share : KmerSet → List Entry → List ℕ → Report
unfolding report
share set es read = report set es (10 ∷ []) (read ∷ [])

unfoldable pub share_in : Given → List ℕ → Report
unfolding share given_set entries_of
share_in g read = share (given_set g) (entries_of g.job) read

-- The sum of a number over reports, and the least of their supports.
unfoldable pub total : (Report → ℕ) → List Report → ℕ
total f [] = 0
total f (q ∷ qs) = f q + total f qs

unfoldable pub least_of : List Report → Option ℕ
unfolding weaker
least_of [] = none
least_of (q ∷ qs) = weaker q.support (least_of qs)

-- A report's numbers put together from others': counts and bases are sums; yield, quotient and remainder come from the sums.
pub record Adds (r : Report) (qs : List Report) : Type 0 where
  pub turns : r.turns ≡ total (λ q. q.turns) qs
  pub lookups : r.lookups ≡ total (λ q. q.lookups) qs
  pub attempts : r.attempts ≡ total (λ q. q.attempts) qs
  pub accepted : r.accepted ≡ total (λ q. q.accepted) qs
  pub yield : r.yield ≡ yield_of (total (λ q. q.accepted) qs) (total (λ q. q.attempts) qs)
  pub quotient : r.quotient ≡ quotient_of (total (λ q. q.lookups) qs) (total (λ q. q.bases) qs)
  pub remainder : r.remainder ≡ remainder_of (total (λ q. q.lookups) qs) (total (λ q. q.bases) qs)
  pub bases : r.bases ≡ total (λ q. q.bases) qs

-- And the support is the least.
pub record SumOf (r : Report) (qs : List Report) : Type 0 where
  pub adds : Adds r qs
  pub support : r.support ≡ least_of qs

-- The same numbers, but for the bytes written and the support.
pub record SameCounts (r q : Report) : Type 0 where
  pub turns : r.turns ≡ q.turns
  pub lookups : r.lookups ≡ q.lookups
  pub attempts : r.attempts ≡ q.attempts
  pub accepted : r.accepted ≡ q.accepted
  pub yield : r.yield ≡ q.yield
  pub quotient : r.quotient ≡ q.quotient
  pub remainder : r.remainder ≡ q.remainder
  pub bases : r.bases ≡ q.bases
