-- Document 02, W11: what decides the FASTA call, and what is promised of it once it is accepted.
use Prim.Native.Nat.{ℕ, zero, suc, ◌+◌, ◌-◌, ◌≤◌, ◌<◌}
use native.Mathlib.Omega.{arith}
use borrow.Author.Tests.{leb-true, ne_eqb}
use mathlib.Core.Path.{◌≡◌, refl, sym, ap, ap₂, ◌∙◌, subst}
use mathlib.Core.Bool.{true, false, ◌||◌}
use mathlib.Core.Option.{Option, none, some}
use mathlib.Core.List.{List, [], ◌∷◌, ◌++◌, map, append_assoc}
use lib.ListN.{length, get_or, take, drop, replicate, length-replicate, length-append}
use lib.Seq.{take-append_seam, drop-append_seam, split_at, get_or-append-add}
use lib.Dec.{eqb, leb, ltb}
use Rattle.rules.specs.Refusal.{Refusal, Outcome, accepted, refused, Check, ◌or_else◌, unless, at_place}
use Rattle.rules.specs.Set.{KmerSet, offering, set_of, set_check, opened}
use Rattle.rules.specs.Index.{index_check}
use Rattle.rules.specs.Graph.{All, also}
use Rattle.rules.specs.Job.{Entry, entries_of, lines_from, lines, result}
use Rattle.rules.specs.Report.{Report}
use Rattle.rules_ceiling.specs.Ceiling.{Demand3}
use Rattle.rules.specs.Calls.{Given, without_index, without_counts, After, counts_check, buffers_right, job_check, input_check, batch_right, given_check, offer_check, unchanged, no_room, longest, too_long, results, report, correct_batch}
use Rattle.rules_laws.proofs.Opened.{both, passed, unless-passed, at_none, passed-15}
use Rattle.rules_ceiling.proofs.Demands.{ceilings}
use Rattle.rules_laws.proofs.Offered.{Passes15, same-result as result-indexed, same-longest as longest-indexed, same-report as report-indexed}
use Rattle.rules_laws.proofs.Told.{unsupported, answered, uncounted, Passes16, same-result as result-counted, same-longest as longest-counted, same-report as report-counted}
use Rattle.rules_laws.proofs.Calls.{too-long-later}
use Rattle.rules_laws.proofs.Upward.{or_else-assoc, job-right, state_check, in-one-row, one, five, batch_checks}
use Rattle.rules_fasta.specs.Fasta.{Record, records, reads_of, max_records, file_right, first_wrong, fasta_check, read_lines, ended, with_written, mended, text, texts, no_room_at, fasta_report, corrected_records, fasta_by, correct_fasta}
use Rattle.rules_fasta.specs.Shares.{given_set, SameJob, share, share_in, Adds, SumOf, SameCounts}
use Rattle.rules_fasta.specs.Promised.{record_at, text_place, text_at, ReadAgain, AsAlone}
use Rattle.rules_fasta.proofs.Lines.{No, line_read, lines-free}
use Rattle.rules_fasta.proofs.Shares.{sum-of-shares, Opens, result-same, longest-same, share-same, report-supported}
use Rattle.rules_fasta.proofs.Batch.{batch-accepted, right_batch, batch-answers}
use Rattle.rules_fasta.proofs.Text.{Right, records-right, texts-append, texts-fit, again-records, again-lines, again-file}

-- ---- with an opened set: 11, or all texts

module _ (set : KmerSet) (es : List Entry) (g : Given) (rs : List Record) where
  pub records-full : (i : ℕ) → no_room_at set es 0 (length g.output) rs ≡ some i → corrected_records set es g rs ≡ no_room g i
  unfolding corrected_records
  records-full i e = rw (corrected_records, e)

  pub records-fit : no_room_at set es 0 (length g.output) rs ≡ none
      → corrected_records set es g rs
      ≡ record {
        answer = accepted (fasta_report set es rs);
        output = texts set es rs ++ replicate (length g.output - length (texts set es rs)) 0;
        work = replicate (length g.work) 0;
      }
  unfolding corrected_records
  records-fit e = rw (corrected_records, e)

-- ---- two sets that give the same results, each through a job

module _ (s t : KmerSet) (es fs : List Entry) (results-alike : (read : List ℕ) → result s es read ≡ result t fs read)
    (longest-alike : (read : List ℕ) → longest s es read ≡ longest t fs read) where
  pub text-alike : (r : Record) → text s es r ≡ text t fs r
  unfolding text mended
  text-alike r = ap (λ (x : List ℕ). ended (r.name ∷ read_lines x)) (results-alike r.read)

  pub texts-alike : (rs : List Record) → texts s es rs ≡ texts t fs rs
  unfolding texts
  texts-alike [] = refl
  texts-alike (r ∷ rs) = ap₂ (λ (x y : List ℕ). x ++ y) (text-alike r) (texts-alike rs)

  pub no-room-alike : (i left : ℕ) (rs : List Record) → no_room_at s es i left rs ≡ no_room_at t fs i left rs
  unfolding no_room_at
  no-room-alike i left [] = refl
  no-room-alike i left (r ∷ rs) =
      (λ j. elim (ltb left (length (text-alike r j)) || ltb left (longest-alike r.read j)) [
        | true ↦ some i
        | false ↦ no_room_at s es (suc i) (left - length (text-alike r j)) rs
      ])
      ∙ ap (λ (n : Option ℕ). elim (ltb left (length (text t fs r)) || ltb left (longest t fs r.read)) [ true ↦ some i | false ↦ n ])
      (no-room-alike (suc i) (left - length (text t fs r)) rs)

  -- Reports that are the same but for the support, where nothing of it is told.
  pub records-alike : ((reads : List (List ℕ)) → unsupported (report s es [] reads) ≡ report t fs [] reads) → (g : Given) (rs : List Record)
      → uncounted (corrected_records s es g rs) ≡ corrected_records t fs g rs
  unfolding corrected_records fasta_report with_written uncounted answered unsupported no_room
  records-alike reports g rs = go (no_room_at t fs 0 (length g.output) rs) refl
    where
      go : (o : Option ℕ) → no_room_at t fs 0 (length g.output) rs ≡ o → uncounted (corrected_records s es g rs) ≡ corrected_records t fs g rs
      go (some n) e = rw (corrected_records, no-room-alike 0 (length g.output) rs, e)
      go none e =
          rw (corrected_records, no-room-alike 0 (length g.output) rs, e)
          (λ i. record {
            answer = accepted (with_written (length (texts-alike rs i)) (reports (reads_of rs) i));
            output = texts-alike rs i ++ replicate (length g.output - length (texts-alike rs i)) 0;
            work = replicate (length g.work) 0;
          })

-- With an index that passes 15 all is as without one.
module _ (bytes : List ℕ) (set : KmerSet) (o : opened bytes ≡ accepted set) (index counts : List ℕ) (passes : index_check set index ≡ none) (es : List Entry) where
  abbrev indexed : KmerSet
  indexed = offering index counts set

  abbrev direct : KmerSet
  direct = offering [] counts set

  pub same-records : (g : Given) (rs : List Record) → corrected_records indexed es g rs ≡ corrected_records direct es g rs
  unfolding corrected_records fasta_report
  same-records g rs =
      let rl : (read : List ℕ) → result indexed es read ≡ result direct es read = result-indexed bytes set o index counts passes es in
      let ll : (read : List ℕ) → longest indexed es read ≡ longest direct es read = longest-indexed bytes set o index counts passes es in
      λ i. elim (no-room-alike indexed direct es es rl ll 0 (length g.output) rs i) [
        | some n ↦ no_room g n
        | none ↦ record {
          answer = accepted (with_written (length (texts-alike indexed direct es es rl ll rs i)) (report-indexed bytes set o index counts passes es [] (reads_of rs) i));
          output = texts-alike indexed direct es es rl ll rs i ++ replicate (length g.output - length (texts-alike indexed direct es es rl ll rs i)) 0;
          work = replicate (length g.work) 0;
        }
      ]

-- ---- the checks first, then the set's, then those of what is offered

module _ (g : Given) where
  pub fasta-checked : (r : Refusal) → fasta_check g ≡ some r → correct_fasta g ≡ unchanged g r
  unfolding correct_fasta
  fasta-checked r e = rw (fasta_by, e)

  pub fasta-not-opened : (r : Refusal) → fasta_check g ≡ none → opened g.set ≡ refused r → correct_fasta g ≡ unchanged g r
  unfolding correct_fasta
  fasta-not-opened r e o = rw (fasta_by, e, o)

  module _ (set : KmerSet) (e : fasta_check g ≡ none) (o : opened g.set ≡ accepted set) where
    pub fasta-offer-wrong : (r : Refusal) → offer_check set g.index g.counts ≡ some r → correct_fasta g ≡ unchanged g r
    unfolding correct_fasta
    fasta-offer-wrong r d = rw (fasta_by, e, o, d)

    -- With an index that passes 15 the call corrects as without one.
    pub fasta-opened : offer_check set g.index g.counts ≡ none
        → correct_fasta g ≡ corrected_records (offering [] g.counts set) (entries_of g.job) (without_index g) (records g.input)
    unfolding correct_fasta corrected_records no_room without_index
    fasta-opened d =
        rw (fasta_by, e, o, d)
        (same-records g.set set o g.index g.counts (passed-15 set g.index g.counts d) (entries_of g.job) g (records g.input))

-- With an index that passes 15 the call answers, reports and leaves in every byte what it does without; with counts that pass 16 too, but for the support.
pub fasta-unindexed : (g : Given) → Passes15 g → correct_fasta g ≡ correct_fasta (without_index g)
unfolding unchanged without_index offer_check index_check fasta_check
fasta-unindexed g p = go (fasta_check g) refl (opened g.set) refl
  where
    go : (c : Check) → fasta_check g ≡ c → (o : Outcome KmerSet) → opened g.set ≡ o → correct_fasta g ≡ correct_fasta (without_index g)
    go (some r) e o f = fasta-checked g r e ∙ sym (fasta-checked (without_index g) r e)
    go none e (refused r) f = fasta-not-opened g r e f ∙ sym (fasta-not-opened (without_index g) r e f)
    go none e (accepted set) f = at (counts_check set g.counts) refl
      where
        at : (c : Check) → counts_check set g.counts ≡ c → correct_fasta g ≡ correct_fasta (without_index g)
        at (some r) h =
            fasta-offer-wrong g set e f r (rw (offer_check, p set f) h) ∙ sym (fasta-offer-wrong (without_index g) set e f r h)
        at none h = fasta-opened g set e f (rw (offer_check, p set f) h) ∙ sym (fasta-opened (without_index g) set e f h)

pub fasta-uncounted : (g : Given) → Passes16 g → uncounted (correct_fasta g) ≡ correct_fasta (without_counts g)
unfolding unchanged without_counts without_index offer_check counts_check fasta_check uncounted answered correct_fasta corrected_records no_room
fasta-uncounted g p = go (fasta_check g) refl (opened g.set) refl
  where
    go : (c : Check) → fasta_check g ≡ c → (o : Outcome KmerSet) → opened g.set ≡ o → uncounted (correct_fasta g) ≡ correct_fasta (without_counts g)
    go (some r) e o f = ap uncounted (fasta-checked g r e) ∙ sym (fasta-checked (without_counts g) r e)
    go none e (refused r) f = ap uncounted (fasta-not-opened g r e f) ∙ sym (fasta-not-opened (without_counts g) r e f)
    go none e (accepted set) f = at (index_check set g.index) refl
      where
        at : (c : Check) → index_check set g.index ≡ c → uncounted (correct_fasta g) ≡ correct_fasta (without_counts g)
        at (some r) h =
            ap uncounted (fasta-offer-wrong g set e f r (rw (offer_check, h))) ∙ sym (fasta-offer-wrong (without_counts g) set e f r (rw (offer_check, h)))
        at none h =
            ap uncounted (fasta-opened g set e f (rw (offer_check, h, p set f)))
            ∙ records-alike (offering [] g.counts set) (offering [] [] set) (entries_of g.job) (entries_of g.job)
            (result-counted set [] g.counts (entries_of g.job)) (longest-counted set [] g.counts (entries_of g.job))
            (report-counted set [] g.counts (entries_of g.job) []) (without_index g) (records g.input)
            ∙ sym (fasta-opened (without_counts g) set e f (rw (offer_check, h)))

-- ---- lists

all-at : {A : Type 0} (P : A → Type 0) (l : List A) (i : ℕ) (d : A) → All P l → i < length l → P (get_or l i d)
all-at P [] i d h lt = absurd (omega arith)
all-at P (a ∷ l) zero d (also p ps) lt = p
all-at P (a ∷ l) (suc i) d (also p ps) lt = all-at P l i d ps (omega arith)

pub regroup : (x y z u : List ℕ) → (x ++ (y ++ z)) ++ u ≡ x ++ (y ++ (z ++ u))
regroup x y z u = simp append_assoc

-- A line without byte 10, with its end, is a right batch.
one_batch : (l : List ℕ) → No 10 l → batch_right (l ++ (10 ∷ [])) ≡ true
unfolding batch_right lines lines_from
one_batch l h =
    let n = length-append l (10 ∷ []) in
    let e : length (l ++ (10 ∷ [])) - 1 ≡ length l + 0 = omega arith in
    let last : get_or (l ++ (10 ∷ [])) (length (l ++ (10 ∷ [])) - 1) 0 ≡ 10 = rw e (get_or-append-add l (10 ∷ []) 0 0) in
    let some_bytes : eqb (length (l ++ (10 ∷ []))) 0 ≡ false = ne_eqb (length (l ++ (10 ∷ []))) 0 (λ z. omega arith) in
    rw (some_bytes, last, line_read [] l [] h)

-- ---- an accepted call

module _ (g : Given) where
  abbrev set : KmerSet
  set = given_set g

  abbrev es : List Entry
  es = entries_of g.job

  abbrev rs : List Record
  rs = records g.input

  -- 6 and 18, of the file.
  abbrev file-six : Check
  file-six = unless (file_right g.input) 6

  abbrev eighteen : Check
  eighteen = at_place 18 (first_wrong false 0 (lines g.input))

  -- All checks before 11, in their order.
  unfoldable pub fasta_checks : Check
  fasta_checks = one g or_else (job_check g.job or_else (five g or_else (file-six or_else (eighteen or_else state_check g.set g.index g.counts))))

  pub fasta-in-one-row : correct_fasta g ≡ elim fasta_checks [ some r ↦ unchanged g r | none ↦ corrected_records set es g rs ]
  unfolding correct_fasta fasta_by fasta_check given_check input_check fasta_checks given_set
  fasta-in-one-row =
      let flat : fasta_check g or_else state_check g.set g.index g.counts ≡ fasta_checks = simp or_else-assoc in
      in-one-row (unchanged g) (λ s. corrected_records (offering g.index g.counts s) es g rs) (fasta_check g) g.set g.index g.counts
      ∙ ap (λ (c : Check). elim c [ some r ↦ unchanged g r | none ↦ corrected_records set es g rs ]) flat

  pub fasta-refused : (r : Refusal) → fasta_checks ≡ some r → correct_fasta g ≡ unchanged g r
  fasta-refused r e = fasta-in-one-row ∙ rw e

  pub fasta-passed : fasta_checks ≡ none → correct_fasta g ≡ corrected_records set es g rs
  fasta-passed e = fasta-in-one-row ∙ rw e

  -- Every check passed, and every text and pass result had room.
  pub record Accepted (r : Report) : Type 0 where
    pub job_passed : job_check g.job ≡ none
    pub right_file : file_right g.input ≡ true
    pub lines_right : first_wrong false 0 (lines g.input) ≡ none
    pub opens : Opens g
    pub fits : no_room_at set es 0 (length g.output) rs ≡ none
    pub reported : r ≡ fasta_report set es rs
    pub output : (correct_fasta g).output ≡ texts set es rs ++ replicate (length g.output - length (texts set es rs)) 0
    pub work : (correct_fasta g).work ≡ replicate (length g.work) 0

  module _ (r : Report) (a : (correct_fasta g).answer ≡ accepted r) where
    refuted : (q : Refusal) → (correct_fasta g).answer ≡ refused q → ⊥
    refuted q e = let s : refused q ≡ accepted r = sym e ∙ a in let z : ◌≡◌ {A = ℕ} 0 1 = cc in omega arith

    pub accepted-is : Accepted r
    unfolding unchanged no_room fasta_checks state_check opened
    accepted-is = go fasta_checks refl (no_room_at set es 0 (length g.output) rs) refl
      where
        go : (c : Check) → fasta_checks ≡ c → (n : Option ℕ) → no_room_at set es 0 (length g.output) rs ≡ n → Accepted r
        go (some q) f n h = absurd (refuted q (ap (λ (t : After). t.answer) (fasta-refused q f)))
        go none f (some i) h =
            absurd (refuted (record { number = 11; place = i })
            (ap (λ (t : After). t.answer) (fasta-passed f ∙ records-full set es g rs i h)))
        go none f none h =
            let is = fasta-passed f ∙ records-fit set es g rs h in
            let s : accepted (fasta_report set es rs) ≡ accepted r = sym (ap (λ (t : After). t.answer) is) ∙ a in
            let p = passed (one g) _ f in
            let j = passed (job_check g.job) _ p.1 in
            let v = passed (five g) _ j.1 in
            let x = passed file-six _ v.1 in
            let y = passed eighteen _ x.1 in
            let w = passed (set_check g.set) (offer_check (set_of g.set) g.index g.counts) y.1 in
            record {
              job_passed = j.0;
              right_file = unless-passed (file_right g.input) 6 x.0;
              lines_right = at_none 18 (first_wrong false 0 (lines g.input)) y.0;
              opens = record { opens = rw (opened, w.0); index_passes = passed-15 (set_of g.set) g.index g.counts w.1 };
              fits = h;
              reported = cc;
              output = ap (λ (t : After). t.output) is;
              work = ap (λ (t : After). t.work) is;
            }

    -- Every record is right: 18 passed.
    pub all_right : All Right rs
    unfolding records
    all_right = records-right false 0 (lines g.input) (lines-free g.input) accepted-is.lines_right

    few-records : length rs ≤ max_records
    unfolding file_right
    few-records =
        leb-true (length rs) max_records
        (both (eqb (length g.input) 0 || eqb (get_or g.input (length g.input - 1) 0) 10) (leb (length rs) max_records) accepted-is.right_file).1

    -- The text written.
    pub text-is : take r.written (correct_fasta g).output ≡ texts set es rs
    unfolding fasta_report with_written
    text-is =
        let t : List ℕ = texts set es rs in
        ap₂ (λ (n : ℕ) (l : List ℕ). take n l) (ap (λ (q : Report). q.written) accepted-is.reported) accepted-is.output
        ∙ take-append_seam t (replicate (length g.output - length t) 0)

    -- What is written fits, and no buffer changes its length.
    pub fasta-lengths : (r.written ≤ length g.output) × (length (correct_fasta g).output ≡ length g.output) × (length (correct_fasta g).work ≡ length g.work)
    unfolding fasta_report with_written
    fasta-lengths =
        let t : List ℕ = texts set es rs in
        let fits = texts-fit set es 0 (length g.output) rs accepted-is.fits in
        let n : ℕ = length g.output - length t in (
          omega (arith, ap (λ (q : Report). q.written) accepted-is.reported),
          ap length accepted-is.output ∙ length-append t (replicate n 0) ∙ omega (arith, length-replicate {A = ℕ} n 0),
          ap length accepted-is.work ∙ length-replicate {A = ℕ} (length g.work) 0,
        )

    -- Reading the output again gives the same names and the corrected reads; it meets neither 6 nor 18.
    pub round_trip : ReadAgain g r
    round_trip =
        record {
          records = ap records text-is ∙ again-records set es rs all_right;
          file = ap file_right text-is ∙ again-file set es rs all_right few-records;
          lines = ap (λ (t : List ℕ). first_wrong false 0 (lines t)) text-is ∙ again-lines set es rs all_right;
        }

    -- Demand 3, whole, of the records' reads through the job.
    pub fasta-demand3 : Demand3 set es (reads_of rs) r.turns r.lookups
    unfolding fasta_report with_written report given_set
    fasta-demand3 =
        rw accepted-is.reported
        (ceilings g.set (set_of g.set) accepted-is.opens.opens g.index g.counts es (job-right g.job accepted-is.job_passed).1 (reads_of rs))

    -- The report's numbers come from the reads' shares.
    pub fasta-summed : SumOf r (map (share_in g) (reads_of rs))
    unfolding fasta_report with_written share_in
    fasta-summed =
        let s = sum-of-shares set es [] (reads_of rs) in
        let a : Adds (report set es [] (reads_of rs)) (map (share_in g) (reads_of rs)) = s.adds in
        rw accepted-is.reported (record {
          adds = record {
            turns = a.turns;
            lookups = a.lookups;
            attempts = a.attempts;
            accepted = a.accepted;
            yield = a.yield;
            quotient = a.quotient;
            remainder = a.remainder;
            bases = a.bases;
          };
          support = s.support;
        })

    -- ---- each read as in a batch of its own

    module _ (i : ℕ) (l : i < length rs) where
      abbrev nameless : Record
      nameless = record { name = []; read = [] }

      abbrev read : List ℕ
      read = (record_at g i).read

      here : Right (record_at g i)
      unfolding record_at
      here = all-at Right rs i nameless all_right l

      -- At its place stands the record's text.
      pub text-stands : text_at g i ≡ text set es (record_at g i)
      unfolding text_at text_place record_at texts
      text-stands =
          let t = texts set es in
          let own : List ℕ = text set es (get_or rs i nameless) in
          let zeros : List ℕ = replicate (length g.output - length (t rs)) 0 in
          let parts : t rs ≡ t (take i rs) ++ (own ++ t (drop (suc i) rs)) =
          ap t (split_at rs i nameless l) ∙ texts-append set es (take i rs) (get_or rs i nameless ∷ drop (suc i) rs) in
          let is : (correct_fasta g).output ≡ t (take i rs) ++ (own ++ (t (drop (suc i) rs) ++ zeros)) =
          accepted-is.output ∙ ap (λ (x : List ℕ). x ++ zeros) parts ∙ regroup (t (take i rs)) own (t (drop (suc i) rs)) zeros in
          ap (λ (x : List ℕ). take (length own) (drop (length (t (take i rs))) x)) is
          ∙ ap (take (length own)) (drop-append_seam (t (take i rs)) (own ++ (t (drop (suc i) rs) ++ zeros)))
          ∙ take-append_seam own (t (drop (suc i) rs) ++ zeros)

      module _ (h : Given) (same : SameJob g h) (alone : h.input ≡ read ++ (10 ∷ [])) where
        -- The batch of its own has just that line.
        one_line : lines h.input ≡ read ∷ []
        unfolding lines lines_from
        one_line = ap lines alone ∙ line_read [] read [] here.read_free

        -- Each read is corrected as it would be in a batch of its own.
        pub as-alone : (q : Report) → (correct_batch h).answer ≡ accepted q → AsAlone g i h q
        unfolding text mended results share_in share report
        as-alone q b =
            let s = batch-accepted h q b in
            let x : List ℕ = result (given_set h) (entries_of h.job) read in
            let own : result set es read ≡ x = result-same g h same accepted-is.opens s.opens read in
            let q-is : q ≡ share_in h read = s.reported ∙ ap (report (given_set h) (entries_of h.job) (10 ∷ [])) one_line in
            let all : results (given_set h) (entries_of h.job) (10 ∷ []) (lines h.input) ≡ x ++ (10 ∷ []) =
            ap (results (given_set h) (entries_of h.job) (10 ∷ [])) one_line in
            let n : q.written - 1 ≡ length x = omega (arith, ap (λ (t : Report). t.written) s.reported, ap length all, length-append x (10 ∷ [])) in
            let zeros : List ℕ = replicate (length h.output - length (results (given_set h) (entries_of h.job) (10 ∷ []) (lines h.input))) 0 in
            let out : (correct_batch h).output ≡ x ++ ((10 ∷ []) ++ zeros) =
            s.output ∙ ap (λ (t : List ℕ). t ++ zeros) all ∙ append_assoc x (10 ∷ []) zeros in
            let line : take (q.written - 1) (correct_batch h).output ≡ x =
            ap₂ (λ (m : ℕ) (t : List ℕ). take m t) n out ∙ take-append_seam x ((10 ∷ []) ++ zeros) in
            record {
              text = text-stands ∙ ap (λ (t : List ℕ). ended ((record_at g i).name ∷ read_lines t)) (own ∙ sym line);
              counts = subst (SameCounts (share_in g read)) (sym q-is) (share-same g h same accepted-is.opens s.opens read);
              support = λ c. ap (λ (t : Report). t.support) (report-supported g h same accepted-is.opens s.opens c (10 ∷ []) (read ∷ []) ∙ sym q-is);
            }

        -- That call is accepted where its buffers meet 01's limits, what it offers passes 15 and 16, and every pass result with byte 10 fits its
        -- output.
        pub alone-accepted : buffers_right (length h.input) (length h.output) (length h.work) ≡ true
            → offer_check (set_of h.set) h.index h.counts ≡ none
            → longest set es read + 1 ≤ length h.output → (q : Report) × ((correct_batch h).answer ≡ accepted q)
        unfolding too_long
        alone-accepted fine offers room =
            let hs : KmerSet = given_set h in
            let he : List Entry = entries_of h.job in
            let oh : Opens h =
            record {
              opens = subst (λ (s : List ℕ). opened s ≡ accepted (set_of s)) same.set accepted-is.opens.opens;
              index_passes = passed-15 (set_of h.set) h.index h.counts offers;
            } in
            let passes : batch_checks h ≡ none = right_batch h fine (rw (← same.job) accepted-is.job_passed) (rw alone (one_batch read here.read_free)) oh.opens offers in
            let fits : longest hs he read + length {A = ℕ} (10 ∷ []) ≤ length h.output = omega (arith, longest-same g h same accepted-is.opens oh read, room) in
            let none-long : too_long hs he (10 ∷ []) 0 (length h.output) (lines h.input) ≡ none =
            ap (too_long hs he (10 ∷ []) 0 (length h.output)) one_line ∙ too-long-later hs he (10 ∷ []) 0 (length h.output) read [] fits in
            (report hs he (10 ∷ []) (lines h.input), batch-answers h passes none-long)
