-- Document 02, W7: with an index that passes 15, correction results and reported lookups are as without it: of every pass, of every report, and of a whole call,
-- each byte of its buffers too. Counts are the same in both.
use Prim.Native.Nat.{ℕ, suc, ◌+◌, ◌-◌}
use native.Mathlib.Omega.{arith}
use mathlib.Core.Path.{◌≡◌, refl, sym, ap, ap₂, ◌∙◌, subst, fun_ext}
use mathlib.Core.Bool.{Bool, true, false, not}
use mathlib.Core.Logic.{◌⊎◌, inl, inr}
use mathlib.Core.Option.{Option, none, some}
use mathlib.Core.List.{List, [], ◌∷◌, ◌++◌}
use lib.ListN.{length, get_or, replicate}
use lib.Dec.{ltb}
use Rattle.rules.specs.Refusal.{Outcome, accepted, refused, Check, ◌or_else◌, unless}
use Rattle.rules.specs.Set.{KmerSet, offering, lookup, is_none, solid, count_of, opened}
use Rattle.rules.specs.Index.{index_check}
use Rattle.rules.specs.Exist.{exist, one, two}
use Rattle.rules.specs.Graph.{graph}
use Rattle.rules.specs.GapSize.{gap_size}
use Rattle.rules.specs.Driver.{Pass, weaker, drive}
use Rattle.rules.specs.Job.{Method, One, Two, Graph, GapSize, Entry, entries_of, lines, correct_error, pass, result}
use Rattle.rules.specs.Report.{yield_of, quotient_of, remainder_of}
use Rattle.rules.specs.Counts.{Fed, sum, passes_of, all_passes, turns, lookups, attempts, corrections, support, support_over, w_of}
use Rattle.rules.specs.Calls.{Given, without_index, After, unchanged, no_room, longest, too_long, results, report, corrected, counts_check, offer_check, call_by, call, given_check, batch_right, correct_read, correct_batch}
use Rattle.rules_laws.proofs.Index.{index-refused, offered-agrees}

-- ---- a set that opens, and an index that passes 15

module _ (bytes : List ℕ) (set : KmerSet) (o : opened bytes ≡ accepted set) (index counts : List ℕ) (passes : index_check set index ≡ none) where
  abbrev indexed : KmerSet
  indexed = offering index counts set

  abbrev direct : KmerSet
  direct = offering [] counts set

  -- For every k-mer, indexed and direct lookup agree: in the key's index, and so in its count.
  pub same-lookup : lookup indexed ≡ lookup direct
  same-lookup = fun_ext (offered-agrees bytes set o index counts passes)

  pub same-solid : solid indexed ≡ solid direct
  unfolding solid
  same-solid = λ i y. not (is_none (same-lookup i y))

  pub same_count : count_of indexed ≡ count_of direct
  unfolding count_of offering
  same_count = λ i y. elim (same-lookup i y.code) [ none ↦ 0 | some j ↦ get_or counts j 0 ]

  pub same_attempt : (c : ℕ) (m : Method) → correct_error indexed c m ≡ correct_error direct c m
  unfolding correct_error offering
  same_attempt c One = fun_ext (λ s. fun_ext (λ y. ap (λ (sol : ℕ → Bool). exist set.k sol c s (one set.k sol) y) same-solid))
  same_attempt c Two = fun_ext (λ s. fun_ext (λ y. ap (λ (sol : ℕ → Bool). exist set.k sol c s (two set.k sol) y) same-solid))
  same_attempt c Graph = fun_ext (λ s. fun_ext (λ y. ap (λ (sol : ℕ → Bool). graph set.k (length set.keys) sol s y) same-solid))
  same_attempt c GapSize = fun_ext (λ s. fun_ext (λ y. ap (λ (sol : ℕ → Bool). gap_size set.k (length set.keys) sol c s y) same-solid))

  -- A pass: its bytes, and all that it counts.
  pub same-pass : (e : Entry) (fed : List ℕ) → pass indexed e fed ≡ pass direct e fed
  unfolding pass offering
  same-pass e fed = λ i. drive set.k (same-solid i) (same_count i) (same_attempt e.confirm e.method i) fed

  pub same-result : (es : List Entry) (read : List ℕ) → result indexed es read ≡ result direct es read
  unfolding result
  same-result [] read = refl
  same-result (e ∷ es) read = rw (same-pass e read) (same-result es (pass direct e read).bytes)

  pub same-longest : (es : List Entry) (read : List ℕ) → longest indexed es read ≡ longest direct es read
  unfolding longest
  same-longest [] read = refl
  same-longest (e ∷ es) read = rw (same-pass e read, same-longest es (pass direct e read).bytes)

  same-passes : (es : List Entry) (read : List ℕ) → passes_of indexed es read ≡ passes_of direct es read
  unfolding passes_of
  same-passes [] read = refl
  same-passes (e ∷ es) read = rw (same-pass e read, same-passes es (pass direct e read).bytes)

  pub same-all : (es : List Entry) (reads : List (List ℕ)) → all_passes indexed es reads ≡ all_passes direct es reads
  unfolding all_passes
  same-all es [] = refl
  same-all es (read ∷ reads) = rw (same-passes es read, same-all es reads)

  -- What one pass counts.
  pub same-turns : turns indexed ≡ turns direct
  unfolding turns
  same-turns = fun_ext (λ p. ap (λ (q : Pass). q.turns) (same-pass p.entry p.bytes))

  pub same-lookups : lookups indexed ≡ lookups direct
  unfolding lookups
  same-lookups = fun_ext (λ p. ap (λ (q : Pass). q.lookups) (same-pass p.entry p.bytes))

  pub same-attempts : attempts indexed ≡ attempts direct
  unfolding attempts
  same-attempts = fun_ext (λ p. ap (λ (q : Pass). q.attempts) (same-pass p.entry p.bytes))

  pub same-corrections : corrections indexed ≡ corrections direct
  unfolding corrections
  same-corrections = fun_ext (λ p. ap (λ (q : Pass). q.accepted) (same-pass p.entry p.bytes))

  same-support-over : (ps : List Fed) → support_over indexed ps ≡ support_over direct ps
  unfolding support_over support
  same-support-over [] = refl
  same-support-over (p ∷ ps) = ap₂ weaker (ap (λ (q : Pass). q.support) (same-pass p.entry p.bytes)) (same-support-over ps)

  pub same-w_of : w_of indexed ≡ w_of direct
  unfolding w_of offering
  same-w_of = refl

  pub same-support : (es : List Entry) (reads : List (List ℕ)) → support_over indexed (all_passes indexed es reads) ≡ support_over direct (all_passes direct es reads)
  same-support es reads = ap (support_over indexed) (same-all es reads) ∙ same-support-over (all_passes direct es reads)

  -- Summed over all passes.
  pub same_sum : (f : KmerSet → Fed → ℕ) → f indexed ≡ f direct → (es : List Entry) (reads : List (List ℕ))
      → sum (f indexed) (all_passes indexed es reads) ≡ sum (f direct) (all_passes direct es reads)
  same_sum f e es reads = ap₂ sum e (same-all es reads)

  module _ (es : List Entry) (ending : List ℕ) where
    pub same-results : (reads : List (List ℕ)) → results indexed es ending reads ≡ results direct es ending reads
    unfolding results
    same-results [] = refl
    same-results (read ∷ reads) = rw (same-result es read, same-results reads)

    pub same-too-long : (i left : ℕ) (reads : List (List ℕ)) → too_long indexed es ending i left reads ≡ too_long direct es ending i left reads
    unfolding too_long
    same-too-long i left [] = refl
    same-too-long i left (read ∷ reads) =
        ap₂ (λ (l : ℕ) (o : Option ℕ). elim (ltb left (l + length ending)) [ true ↦ some i | false ↦ o ])
        (same-longest es read)
        (ap (λ (r : List ℕ). too_long indexed es ending (suc i) (left - (length r + length ending)) reads) (same-result es read)
        ∙ same-too-long (suc i) (left - (length (result direct es read) + length ending)) reads)

    -- The report's numbers.
    pub same-report : (reads : List (List ℕ)) → report indexed es ending reads ≡ report direct es ending reads
    unfolding report offering
    same-report reads =
        let a : sum (attempts indexed) (all_passes indexed es reads) ≡ sum (attempts direct) (all_passes direct es reads) = same_sum attempts same-attempts es reads in
        let c : sum (corrections indexed) (all_passes indexed es reads) ≡ sum (corrections direct) (all_passes direct es reads) = same_sum corrections same-corrections es reads in
        let l : sum (lookups indexed) (all_passes indexed es reads) ≡ sum (lookups direct) (all_passes direct es reads) = same_sum lookups same-lookups es reads in
        let w : sum (w_of indexed) (all_passes indexed es reads) ≡ sum (w_of direct) (all_passes direct es reads) = same_sum w_of same-w_of es reads in
        λ i. record {
          written = length (same-results reads i);
          turns = same_sum turns same-turns es reads i;
          lookups = l i;
          attempts = a i;
          accepted = c i;
          yield = yield_of (c i) (a i);
          support = elim counts [ [] ↦ none | d ∷ ds ↦ same-support es reads i ];
          quotient = quotient_of (l i) (w i);
          remainder = remainder_of (l i) (w i);
          bases = w i;
        }

    -- Answer, report and every byte.
    pub same-corrected : (g : Given) (reads : List (List ℕ)) → corrected indexed es ending g reads ≡ corrected direct es ending g reads
    unfolding corrected
    same-corrected g reads =
        λ i. elim (same-too-long 0 (length g.output) reads i) [
          | some line ↦ no_room g line
          | none ↦ record {
            answer = accepted (same-report reads i);
            output = same-results reads i ++ replicate (length g.output - length (same-results reads i)) 0;
            work = replicate (length g.work) 0;
          }
        ]

-- ---- the calls

-- The index passes 15, if the set opens.
abbrev pub Passes15 : Given → Type 0
Passes15 g = (set : KmerSet) → opened g.set ≡ accepted set → index_check set g.index ≡ none

-- Any call: whatever its ending, its reads and its earlier checks.
pub same-call : (ending : List ℕ) (reads : List (List ℕ)) (refusal : Check) (g : Given) → Passes15 g
    → call ending reads refusal g ≡ call ending reads refusal (without_index g)
unfolding call unchanged without_index offer_check index_check corrected no_room
same-call ending reads (some r) g p = refl
same-call ending reads none g p = go (opened g.set) refl
  where
    go : (a : Outcome KmerSet) → opened g.set ≡ a → call ending reads none g ≡ call ending reads none (without_index g)
    go (refused r) e = rw (e, call)
    go (accepted set) e = at (counts_check set g.counts) refl
      where
        at : (c : Check) → counts_check set g.counts ≡ c → call ending reads none g ≡ call ending reads none (without_index g)
        at none f =
            rw (e, call_by, offer_check, p set e, f)
            (same-corrected g.set set e g.index g.counts (p set e) (entries_of g.job) ending g reads)
        at (some r) f = rw (e, call_by, offer_check, p set e, f)

-- Every call, whatever index is offered: it is refused with 15, or it is the call without.
abbrev pub Or15 : After → After → Type 0
Or15 a b = (a.answer ≡ refused (record { number = 15; place = 0 })) ⊎ (a ≡ b)

pub call-or-15 : (ending : List ℕ) (reads : List (List ℕ)) (refusal : Check) (g : Given)
    → Or15 (call ending reads refusal g) (call ending reads refusal (without_index g))
unfolding call unchanged without_index offer_check
call-or-15 ending reads (some r) g = inr refl
call-or-15 ending reads none g = go (opened g.set) refl
  where
    go : (a : Outcome KmerSet) → opened g.set ≡ a → Or15 (call ending reads none g) (call ending reads none (without_index g))
    go (refused r) e =
        inr (same-call ending reads none g
        (λ set f. absurd (let h : refused r ≡ accepted set = sym e ∙ f in let z : ◌≡◌ {A = ℕ} 0 1 = cc in omega arith)))
    go (accepted set) e = at (index_check set g.index) refl
      where
        at : (c : Check) → index_check set g.index ≡ c → Or15 (call ending reads none g) (call ending reads none (without_index g))
        at none f =
            inr (same-call ending reads none g
            (λ s h. subst (λ (x : KmerSet). index_check x g.index ≡ none) {x = set} {y = s} (let q : accepted set ≡ accepted s = sym e ∙ h in cc) f))
        at (some r) f =
            let whole : call ending reads none g ≡ unchanged g r = rw (e, call_by, offer_check, f) in
            inl (ap (λ (a : After). a.answer) whole ∙ ap refused (index-refused set g.index r f))

-- With an index that passes 15 both calls answer, report and leave in every byte what they do without.
pub read-unindexed : (g : Given) → Passes15 g → correct_read g ≡ correct_read (without_index g)
unfolding correct_read without_index
read-unindexed g p = same-call [] (g.input ∷ []) (given_check g) g p

pub batch-unindexed : (g : Given) → Passes15 g → correct_batch g ≡ correct_batch (without_index g)
unfolding correct_batch without_index
batch-unindexed g p = same-call (10 ∷ []) (lines g.input) (given_check g or_else unless (batch_right g.input) 6) g p

-- Whatever is offered.
pub read-or-15 : (g : Given) → Or15 (correct_read g) (correct_read (without_index g))
unfolding correct_read without_index
read-or-15 g = call-or-15 [] (g.input ∷ []) (given_check g) g

pub batch-or-15 : (g : Given) → Or15 (correct_batch g) (correct_batch (without_index g))
unfolding correct_batch without_index
batch-or-15 g = call-or-15 (10 ∷ []) (lines g.input) (given_check g or_else unless (batch_right g.input) 6) g
