-- The call up to its judgements.
use Prim.Native.Nat.{ℕ}
use mathlib.Core.Path.{◌≡◌}
use mathlib.Core.Option.{none, some}
use mathlib.Core.List.{List}
use lib.ListN.{length}
use lib.Dec.{leb}
use Rattle.rules.specs.Refusal.{Refusal, accepted, refused, Check, ◌or_else◌, unless}
use Rattle.rules.specs.Set.{set_of, header_k, solid, opened}
use Rattle.rules.specs.Calls.{max_read}
use Rattle.rules_edits.specs.Edits.{Sheet, judge, check_by, check_edits}
use Rattle.opening.proofs.Opening.{set-k}

-- Two checks and what comes behind them.
first-refuses : {a : Check} (b c : Check) {r : Refusal} → a ≡ some r → a or_else b or_else c ≡ some r
unfolding ◌or_else◌
first-refuses b c e = rw e

second-refuses : {a b : Check} (c : Check) {r : Refusal} → a ≡ none → b ≡ some r → a or_else b or_else c ≡ some r
unfolding ◌or_else◌
second-refuses c e f = rw (e, f)

both-pass : {a b c d : Check} → a ≡ none → b ≡ none → c ≡ d → a or_else b or_else c ≡ d
unfolding ◌or_else◌
both-pass e f g = rw (e, f, g)

module _ (bytes : List ℕ) (s : Sheet) where
  -- The judgements, or why the set is refused.
  judged : Check
  judged = elim (opened bytes) [ refused r ↦ some r | accepted set ↦ judge set.k (solid set) s ]

  pub read-long : (r : Refusal) → unless (leb (length s.read) max_read) 1 ≡ some r → check_edits bytes s ≡ some r
  unfolding check_edits check_by judged
  read-long r e = first-refuses (unless (leb (length s.mended) max_read) 1) judged e

  module _ (fits : unless (leb (length s.read) max_read) 1 ≡ none) where
    pub mended-long : (r : Refusal) → unless (leb (length s.mended) max_read) 1 ≡ some r → check_edits bytes s ≡ some r
    unfolding check_edits check_by judged
    mended-long r e = second-refuses judged fits e

    module _ (both : unless (leb (length s.mended) max_read) 1 ≡ none) where
      pub not_opened : (r : Refusal) → opened bytes ≡ refused r → check_edits bytes s ≡ some r
      unfolding check_edits check_by judged
      not_opened r e = both-pass fits both (rw e)

      pub is-judged : (k : ℕ) → k ≡ header_k bytes → opened bytes ≡ accepted (set_of bytes) → check_edits bytes s ≡ judge k (solid (set_of bytes)) s
      unfolding check_edits check_by judged
      is-judged k k_is e = both-pass fits both (rw (e, set-k bytes k_is))
