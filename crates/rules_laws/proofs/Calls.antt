-- The rules' calls: what decides them, read by read.
use Prim.Native.Nat.{ℕ, suc, ◌+◌, ◌-◌, ◌≤◌, ◌<◌}
use native.Mathlib.Omega.{arith}
use borrow.Author.Tests.{lt-ltb, le-ltb}
use mathlib.Core.Path.{◌≡◌, refl, sym, ap, ◌∙◌}
use mathlib.Core.Option.{none, some}
use mathlib.Core.List.{List, [], ◌∷◌, ◌++◌}
use lib.ListN.{length, replicate}
use Rattle.rules.specs.Refusal.{Refusal, accepted, refused, Check}
use Rattle.rules.specs.Set.{KmerSet, offering, opened}
use Rattle.rules.specs.Driver.{weaker}
use Rattle.rules.specs.Job.{Entry, entries_of, result}
use Rattle.rules.specs.Counts.{Fed, sum, passes_of, all_passes, support, support_over}
use Rattle.rules.specs.Calls.{Given, without_index, unchanged, no_room, longest, too_long, results, report, corrected, offer_check, call_by, call}
use Rattle.rules_laws.proofs.Support.{weaker-assoc}
use Rattle.rules_laws.proofs.Opened.{passed-15}
use Rattle.rules_laws.proofs.Offered.{same-corrected}

-- ---- sums over passes

pub sum-append : (f : Fed → ℕ) (ps qs : List Fed) → sum f (ps ++ qs) ≡ sum f ps + sum f qs
unfolding sum
sum-append f [] qs = omega arith
sum-append f (p ∷ ps) qs = omega (arith, sum-append f ps qs)

pub support-append : (set : KmerSet) (ps qs : List Fed) → support_over set (ps ++ qs) ≡ weaker (support_over set ps) (support_over set qs)
unfolding support_over weaker
support-append set [] qs = refl
support-append set (p ∷ ps) qs =
    ap (weaker (support set p)) (support-append set ps qs) ∙ sym (weaker-assoc (support set p) (support_over set ps) (support_over set qs))

module _ (set : KmerSet) (es : List Entry) where
  pub support-first : (read : List ℕ) (reads : List (List ℕ))
      → support_over set (all_passes set es (read ∷ reads)) ≡ weaker (support_over set (passes_of set es read)) (support_over set (all_passes set es reads))
  unfolding all_passes
  support-first read reads = support-append set (passes_of set es read) (all_passes set es reads)

  pub sum_first : (f : Fed → ℕ) (read : List ℕ) (reads : List (List ℕ))
      → sum f (all_passes set es (read ∷ reads)) ≡ sum f (passes_of set es read) + sum f (all_passes set es reads)
  unfolding all_passes
  sum_first f read reads = sum-append f (passes_of set es read) (all_passes set es reads)

  module _ (ending : List ℕ) where
    -- ---- 11 at the first read from number i on, or what is left for the later ones

    pub too-long-here : (i left : ℕ) (read : List ℕ) (reads : List (List ℕ)) → left < longest set es read + length ending
        → too_long set es ending i left (read ∷ reads) ≡ some i
    unfolding too_long
    too-long-here i left read reads h = rw (too_long, lt-ltb left (longest set es read + length ending) h)

    pub too-long-later : (i left : ℕ) (read : List ℕ) (reads : List (List ℕ)) → longest set es read + length ending ≤ left
        → too_long set es ending i left (read ∷ reads)
        ≡ too_long set es ending (suc i) (left - (length (result set es read) + length ending)) reads
    unfolding too_long
    too-long-later i left read reads h = rw (too_long, le-ltb left (longest set es read + length ending) h)

    module _ (g : Given) (reads : List (List ℕ)) where
      pub corrected-full : (line : ℕ) → too_long set es ending 0 (length g.output) reads ≡ some line
          → corrected set es ending g reads ≡ no_room g line
      unfolding corrected
      corrected-full line e = rw (corrected, e)

      pub corrected-fits : too_long set es ending 0 (length g.output) reads ≡ none
          → corrected set es ending g reads
          ≡ record {
            answer = accepted (report set es ending reads);
            output = results set es ending reads ++ replicate (length g.output - length (results set es ending reads)) 0;
            work = replicate (length g.work) 0;
          }
      unfolding corrected
      corrected-fits e = rw (corrected, e)

-- ---- the checks first, then the set's, then those of what is offered

module _ (ending : List ℕ) (reads : List (List ℕ)) (check : Check) (g : Given) where
  pub call-refused : (r : Refusal) → check ≡ some r → call ending reads check g ≡ unchanged g r
  unfolding call
  call-refused r e = rw (call_by, e)

  pub call-not-opened : (r : Refusal) → check ≡ none → opened g.set ≡ refused r → call ending reads check g ≡ unchanged g r
  unfolding call
  call-not-opened r e o = rw (call_by, e, o)

  module _ (set : KmerSet) (e : check ≡ none) (o : opened g.set ≡ accepted set) where
    pub call-offer-wrong : (r : Refusal) → offer_check set g.index g.counts ≡ some r → call ending reads check g ≡ unchanged g r
    unfolding call
    call-offer-wrong r d = rw (call_by, e, o, d)

    -- With an index that passes 15 the call corrects as without one.
    pub call-opened : offer_check set g.index g.counts ≡ none
        → call ending reads check g ≡ corrected (offering [] g.counts set) (entries_of g.job) ending (without_index g) reads
    unfolding call corrected no_room without_index
    call-opened d =
        rw (call_by, e, o, d)
        (same-corrected g.set set o g.index g.counts (passed-15 set g.index g.counts d) (entries_of g.job) ending g reads)
