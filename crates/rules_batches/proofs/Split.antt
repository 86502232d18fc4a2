-- Document 02, W14, for planners: a batch split at line ends, and a FASTA file split before name lines. The parts' texts joined are the whole's, their
-- numbers add, and a part is accepted where its buffers are within the limits and its output is no shorter than what the whole call had left for it.
use Prim.Native.Nat.{ℕ, suc, ◌+◌, ◌-◌, ◌≤◌}
use native.Mathlib.Omega.{arith}
use borrow.Author.Tests.{leb-true, le-leb, ltb-false}
use mathlib.Core.Path.{◌≡◌, refl, sym, ap, ap₂, ◌∙◌, subst}
use mathlib.Core.Bool.{Bool, true, false, ◌||◌}
use mathlib.Core.Option.{Option, none, some, none-ne-some}
use mathlib.Core.List.{List, [], ◌∷◌, ◌++◌, flat_map}
use lib.ListN.{length, get_or, take, length-append}
use lib.Seq.{take-append_seam}
use lib.Dec.{eqb, leb, ltb}
use Rattle.rules.specs.Refusal.{accepted}
use Rattle.rules.specs.Set.{KmerSet, set_of, opened}
use Rattle.rules.specs.Job.{Entry, entries_of, lines, result}
use Rattle.rules.specs.Report.{Report}
use Rattle.rules.specs.Calls.{Given, max_lines, buffers_right, job_check, batch_right, longest, too_long, results, report, offer_check, correct_batch}
use Rattle.rules_laws.proofs.Opened.{both, passed-15}
use Rattle.rules_laws.proofs.Calls.{too-long-later}
use Rattle.rules_fasta.specs.Shares.{given_set, SameJob}
use Rattle.rules_fasta.proofs.Shares.{Opens, result-same, longest-same}
use Rattle.rules_fasta.proofs.Text.{Ended}
use Rattle.rules_fasta.proofs.Batch.{batch-accepted, right_batch, batch-answers}
use Rattle.rules_batches.specs.Batches.{place_in, place_at, text_by, Part, input_of, Joined}
use Rattle.rules_batches.proofs.Lists.{results-append}
use Rattle.rules_batches.proofs.Calls.{text-is}
use Rattle.rules_batches.proofs.Parts.{flat-alike, flat-through, lines-append, Reports, parts-joined}

-- ---- the text of a batch and of its parts

abbrev lines_in : Given → List (List ℕ)
lines_in g = lines g.input

batch-reports : (g : Given) (r : Report) → (correct_batch g).answer ≡ accepted r → Reports correct_batch (10 ∷ []) lines_in g r
unfolding report
batch-reports g r a =
    let h = batch-accepted g r a in
    record {
      opens = h.opens;
      counts = rw h.reported (record { turns = refl; lookups = refl; attempts = refl; accepted = refl; yield = refl; quotient = refl; remainder = refl; bases = refl });
      support = ap (λ (q : Report). q.support) h.reported;
      written = ap length (text-is g r a) ∙ sym (ap (λ (q : Report). q.written) h.reported);
    }

-- A right batch is empty or ends with byte 10, and has few lines.
ended-batch : (bytes : List ℕ) → batch_right bytes ≡ true → Ended bytes
unfolding batch_right
ended-batch bytes h = (both (eqb (length bytes) 0 || eqb (get_or bytes (length bytes - 1) 0) 10) (leb (length (lines bytes)) max_lines) h).0

few-lines : (bytes : List ℕ) → batch_right bytes ≡ true → length (lines bytes) ≤ max_lines
unfolding batch_right
few-lines bytes h =
    leb-true (length (lines bytes)) max_lines
    (both (eqb (length bytes) 0 || eqb (get_or bytes (length bytes - 1) 0) 10) (leb (length (lines bytes)) max_lines) h).1

results_same : (g h : Given) → SameJob g h → Opens g → Opens h → (ls : List (List ℕ))
    → results (given_set g) (entries_of g.job) (10 ∷ []) ls ≡ results (given_set h) (entries_of h.job) (10 ∷ []) ls
unfolding results
results_same g h same og oh [] = refl
results_same g h same og oh (l ∷ ls) =
    ap₂ (λ (x y : List ℕ). x ++ ((10 ∷ []) ++ y)) (result-same g h same og oh l) (results_same g h same og oh ls)

module _ (g : Given) (r : Report) (a : (correct_batch g).answer ≡ accepted r) where
  lines-parts : (ps : List (Part correct_batch g)) → lines (input_of ps) ≡ flat_map (λ p. lines_in p.call) ps
  unfolding input_of flat_map lines
  lines-parts [] = refl
  lines-parts (p ∷ ps) =
      lines-append p.call.input (input_of ps) (ended-batch p.call.input (batch-accepted p.call p.report p.is_accepted).right_batch)
      ∙ ap (λ (t : List (List ℕ)). lines_in p.call ++ t) (lines-parts ps)

  -- An accepted batch whose input is that of accepted batches, one behind the other.
  pub batch-split : (ps : List (Part correct_batch g)) → g.input ≡ input_of ps → Joined correct_batch g r ps
  unfolding results
  batch-split ps parted =
      let all : lines_in g ≡ flat_map (λ p. lines_in p.call) ps = ap lines parted ∙ lines-parts ps in
      let k : List (List ℕ) → List ℕ = results (given_set g) (entries_of g.job) (10 ∷ []) in
      let joined : text_by correct_batch g r ≡ flat_map (λ p. text_by correct_batch p.call p.report) ps =
      text-is g r a
      ∙ ap k all
      ∙ flat-through k refl (results-append (given_set g) (entries_of g.job) (10 ∷ [])) (λ p. lines_in p.call) ps
      ∙ flat-alike (λ p. k (lines_in p.call)) (λ p. text_by correct_batch p.call p.report)
      (λ p.
      results_same g p.call p.same (batch-accepted g r a).opens (batch-accepted p.call p.report p.is_accepted).opens (lines_in p.call)
      ∙ sym (text-is p.call p.report p.is_accepted)) ps in
      parts-joined correct_batch (10 ∷ []) lines_in batch-reports g r a ps all joined

-- ---- a part is accepted

module _ (set : KmerSet) (es : List Entry) (ending : List ℕ) where
  -- No 11: the first read's pass results fit, and the others behind it.
  fits_next : (i left : ℕ) (read : List ℕ) (reads : List (List ℕ)) → too_long set es ending i left (read ∷ reads) ≡ none
      → (longest set es read + length ending ≤ left) × (too_long set es ending (suc i) (left - (length (result set es read) + length ending)) reads ≡ none)
  unfolding too_long
  fits_next i left read reads h = go (ltb left (longest set es read + length ending)) refl
    where
      go : (t : Bool) → ltb left (longest set es read + length ending) ≡ t
          → (longest set es read + length ending ≤ left) × (too_long set es ending (suc i) (left - (length (result set es read) + length ending)) reads ≡ none)
      go true e = absurd (none-ne-some i (sym (rw (too_long, e) at h)))
      go false e = (ltb-false left (longest set es read + length ending) e, rw (too_long, e) at h)

  -- The reads behind some others.
  fits-behind : (i left : ℕ) (ls ms : List (List ℕ)) → too_long set es ending i left (ls ++ ms) ≡ none
      → too_long set es ending (i + length ls) (left - length (results set es ending ls)) ms ≡ none
  unfolding results
  fits-behind i left [] ms h =
      let e : i + length {A = List ℕ} [] ≡ i = omega arith in
      let f : left - length {A = ℕ} [] ≡ left = omega arith in
      rw (e, f) h
  fits-behind i left (l ∷ ls) ms h =
      let n = length-append (result set es l) (ending ++ results set es ending ls) in
      let m = length-append ending (results set es ending ls) in
      let x : suc i + length ls ≡ i + length (l ∷ ls) = omega arith in
      let y : left - (length (result set es l) + length ending) - length (results set es ending ls)
      ≡ left - length (result set es l ++ (ending ++ results set es ending ls)) = omega arith in
      subst (λ (j : ℕ). too_long set es ending j (left - length (results set es ending (l ∷ ls))) ms ≡ none) x
      (subst (λ (j : ℕ). too_long set es ending (suc i + length ls) j ms ≡ none) y
      (fits-behind (suc i) (left - (length (result set es l) + length ending)) ls ms (fits_next i left l (ls ++ ms) h).1))

  -- Some reads of more, whatever number the first has, where no less is left.
  fits-before : (i j left more : ℕ) (ls ms : List (List ℕ)) → left ≤ more → too_long set es ending i left (ls ++ ms) ≡ none → too_long set es ending j more ls ≡ none
  unfolding too_long
  fits-before i j left more [] ms le h = refl
  fits-before i j left more (l ∷ ls) ms le h =
      let w = fits_next i left l (ls ++ ms) h in
      too-long-later set es ending j more l ls (omega (arith, w.0))
      ∙ fits-before (suc i) (suc j) (left - (length (result set es l) + length ending)) (more - (length (result set es l) + length ending)) ls ms (omega arith) w.1

too-long-same : (g h : Given) → SameJob g h → Opens g → Opens h → (i left : ℕ) (ls : List (List ℕ))
    → too_long (given_set g) (entries_of g.job) (10 ∷ []) i left ls ≡ too_long (given_set h) (entries_of h.job) (10 ∷ []) i left ls
unfolding too_long
too-long-same g h same og oh i left [] = refl
too-long-same g h same og oh i left (l ∷ ls) =
    ap₂ (λ (m : ℕ) (o : Option ℕ). elim (ltb left (m + 1)) [ true ↦ some i | false ↦ o ]) (longest-same g h same og oh l)
    (ap (λ (x : List ℕ). too_long (given_set g) (entries_of g.job) (10 ∷ []) (suc i) (left - (length x + 1)) ls) (result-same g h same og oh l)
    ∙ too-long-same g h same og oh (suc i) (left - (length (result (given_set h) (entries_of h.job) l) + 1)) ls)

-- A batch that stands between two others in an accepted one, each empty or with a final byte 10: accepted where its buffers are within the limits, what
-- it offers passes 15 and 16, and its output is no shorter than what was left before its first line.
pub batch-part-accepted : (g : Given) (r : Report) → (correct_batch g).answer ≡ accepted r → (h : Given) → SameJob g h
    → (front behind : List ℕ) → g.input ≡ front ++ (h.input ++ behind) → Ended front → Ended h.input
    → buffers_right (length h.input) (length h.output) (length h.work) ≡ true → offer_check (set_of h.set) h.index h.counts ≡ none
    → length g.output - place_at g (length (lines front)) ≤ length h.output → (q : Report) × ((correct_batch h).answer ≡ accepted q)
unfolding batch_right place_at place_in
batch-part-accepted g r a h same front behind input ef eh fine offers room =
    let k = batch-accepted g r a in
    let gs : KmerSet = given_set g in
    let ge : List Entry = entries_of g.job in
    let all : lines g.input ≡ lines front ++ (lines h.input ++ lines behind) =
    ap lines input ∙ lines-append front (h.input ++ behind) ef ∙ ap (λ (t : List (List ℕ)). lines front ++ t) (lines-append h.input behind eh) in
    let oh : Opens h =
    record {
      opens = subst (λ (s : List ℕ). opened s ≡ accepted (set_of s)) same.set k.opens.opens;
      index_passes = passed-15 (set_of h.set) h.index h.counts offers;
    } in
    let few : length (lines h.input) ≤ max_lines =
    omega (
      arith,
      few-lines g.input k.right_batch,
      ap length all,
      length-append (lines front) (lines h.input ++ lines behind),
      length-append (lines h.input) (lines behind),
    ) in
    let right : batch_right h.input ≡ true = rw (eh, le-leb (length (lines h.input)) max_lines few) in
    let passes = right_batch h fine (subst (λ (j : List ℕ). job_check j ≡ none) same.job k.job_passed) right oh.opens offers in
    let before : place_in gs ge (10 ∷ []) (lines g.input) (length (lines front)) ≡ length (results gs ge (10 ∷ []) (lines front)) =
    ap (λ (t : List (List ℕ)). length (results gs ge (10 ∷ []) (take (length (lines front)) t))) all
    ∙ ap (λ (t : List (List ℕ)). length (results gs ge (10 ∷ []) t)) (take-append_seam (lines front) (lines h.input ++ lines behind)) in
    let fits : too_long gs ge (10 ∷ []) 0 (length h.output) (lines h.input) ≡ none =
    fits-before gs ge (10 ∷ []) (0 + length (lines front)) 0 (length g.output - length (results gs ge (10 ∷ []) (lines front))) (length h.output)
    (lines h.input) (lines behind) (omega (arith, before, room))
    (fits-behind gs ge (10 ∷ []) 0 (length g.output) (lines front) (lines h.input ++ lines behind)
    (subst (λ (t : List (List ℕ)). too_long gs ge (10 ∷ []) 0 (length g.output) t ≡ none) all k.fits)) in
    let none-long = sym (too-long-same g h same k.opens oh 0 (length h.output) (lines h.input)) ∙ fits in
    (report (given_set h) (entries_of h.job) (10 ∷ []) (lines h.input), batch-answers h passes none-long)
