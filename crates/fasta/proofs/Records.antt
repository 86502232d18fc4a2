-- A file record by record: what is done and what is left.
use Prim.Native.Nat.{ℕ, ◌+◌, ◌*◌, ◌-◌, ◌^◌, ◌≤◌, ◌<◌}
use native.Mathlib.Omega.{arith}
use native.Mathlib.Nat.{add-zero, zero-add, sub-zero}
use native.Mathlib.Numerals.{add-one}
use borrow.Author.Tests.{leb-true}
use mathlib.Core.Path.{◌≡◌, refl, sym, ap, ap₂, ◌∙◌, subst}
use mathlib.Core.Bool.{Bool, true, ◌||◌}
use mathlib.Core.Option.{none, some}
use mathlib.Core.Logic.{⊎_elim}
use mathlib.Core.List.{List, [], ◌∷◌, ◌++◌, append-nil}
use lib.ListN.{length, get_or, take, replicate}
use lib.Dec.{eqb, ltb, leb}
use lib.Seq.{length-take-le, take-length}
use Rattle.rules.specs.Refusal.{accepted}
use Rattle.rules.specs.Set.{KmerSet, offering}
use Rattle.rules.specs.Driver.{weaker}
use Rattle.rules.specs.Job.{Entry, entries_of, lines}
use Rattle.rules.specs.Counts.{sum, all_passes, turns, lookups, attempts, corrections, support_over, w_of}
use Rattle.rules.specs.Calls.{Given, After, max_methods, no_room, results, report}
use Rattle.rules_laws.proofs.Opened.{both as and-true}
use Rattle.rules_laws.proofs.Job.{entries_of-length}
use Rattle.rules_laws.proofs.Support.{weaker-none}
use Rattle.rules_laws.proofs.Calls.{sum_first, support-first}
use Rattle.rules_fasta.specs.Fasta.{Record, records_of, records, reads_of, max_records, file_right, text, texts, no_room_at, with_written, fasta_report, corrected_records}
use Rattle.rules_fasta.proofs.Text.{no-room-text, no-room-pass, room-later}
use Rattle.rules_fasta.proofs.Calls.{records-full, records-fit}
use Rattle.set.specs.Counted.{set_with}
use Rattle.support.specs.Support.{support_of}
use Rattle.turn.specs.declared.Counts.{Counts}
use Rattle.turn.specs.declared.Full.{Full}
use Rattle.std.specs.Prelude.{Option as Told, Ok, Err, Result}
use Rattle.refusal.specs.declared.Refusal.{Refusal}
use Rattle.report.specs.declared.Report.{Report}
use Rattle.correct.specs.Pass.{Tally, tally_of, Small}
use Rattle.refusal.specs.declared.Refusal.TheVariants.{NoRoom}
use Rattle.input.specs.Input.{Within}
use Rattle.through.specs.Through.{through}
use Rattle.report.specs.Answer.{report_of, answer_of, Exact}
use Rattle.report.specs.Ending.{Cleared, report_on}
use Rattle.report.proofs.Exact.{through_all, report-is}
use Rattle.turn.specs.Turn.{Fits, summed}
use Rattle.lines.proofs.Batch.{behind, behind-assoc, Weaker, nothing}
use Rattle.fasta_record.specs.Record as OfRecord
use Rattle.fasta_record.specs.Record.{record_through, RecordIs}

module _ (set : KmerSet) (es : List Entry) where
  -- All records: their texts, and what all passes of their reads count.
  abbrev all : List Record → Tally
  all rs =
      let p = through_all set es [] (reads_of rs) in
      record {
        bytes = texts set es rs;
        turns = p.turns;
        lookups = p.lookups;
        attempts = p.attempts;
        accepted = p.accepted;
        support = p.support;
        bases = p.bases;
      }

  all_first : (r : Record) (rs : List Record) → behind (record_through set es r) (all rs) ≡ all (r ∷ rs)
  unfolding through_all through texts reads_of
  all_first r rs = λ i. record {
    bytes = text set es r ++ texts set es rs;
    turns = sym (sum_first set es (turns set) r.read (reads_of rs)) i;
    lookups = sym (sum_first set es (lookups set) r.read (reads_of rs)) i;
    attempts = sym (sum_first set es (attempts set) r.read (reads_of rs)) i;
    accepted = sym (sum_first set es (corrections set) r.read (reads_of rs)) i;
    support = sym (support-first set es r.read (reads_of rs)) i;
    bases = sym (sum_first set es (w_of set) r.read (reads_of rs)) i;
  }

  all_none : (p : Tally) → behind p (all []) ≡ p
  unfolding through_all texts reads_of all_passes sum support_over
  all_none p = λ i. record {
    bytes = append-nil p.bytes i;
    turns = add-zero p.turns i;
    lookups = add-zero p.lookups i;
    attempts = add-zero p.attempts i;
    accepted = add-zero p.accepted i;
    support = weaker-none p.support i;
    bases = add-zero p.bases i;
  }

  -- n of the records are done, and the rest is left; o is the output, which has room for `room` bytes.
  pub record Going (room : ℕ) (rs rest : List Record) (n : ℕ) (done : Counts) (o : List ℕ) : Type 0 where
    pub many : n + length rest ≡ length rs
    pub length_is : length o ≡ room
    pub written : done.written ≤ length o
    pub left : no_room_at set es 0 room rs ≡ no_room_at set es n (room - done.written) rest
    pub whole : behind (tally_of done o) (all rest) ≡ all rs
    pub small : Small (max_methods * n) (tally_of done o)

  pub begin : (rs : List Record) (o : List ℕ) → Going (length o) rs rs 0 nothing o
  unfolding weaker
  begin rs o =
      record {
        many = zero-add (length rs);
        length_is = refl;
        written = omega arith;
        left = ap (λ (n : ℕ). no_room_at set es 0 n rs) (sym (sub-zero (length o)));
        whole = λ i. record {
          bytes = (all rs).bytes;
          turns = zero-add (all rs).turns i;
          lookups = zero-add (all rs).lookups i;
          attempts = zero-add (all rs).attempts i;
          accepted = zero-add (all rs).accepted i;
          support = (all rs).support;
          bases = zero-add (all rs).bases i;
        };
        small = record { turns = omega arith; lookups = omega arith; attempts = omega arith; accepted = omega arith; bases = omega arith };
      }

  module _ (room : ℕ) (rs : List Record) (name read : List ℕ) (rest : List Record) (n : ℕ) (done : Counts) (o o' : List ℕ)
      (g : Going room rs (record { name = name; read = read } ∷ rest) n done o) where
    abbrev r : Record
    r = record { name = name; read = read }

    record-full : (full : Full) → RecordIs set es name read done.written o o' (Err full) → no_room_at set es 0 room rs ≡ some n
    record-full full h =
        g.left
        ∙ ⊎_elim (λ l. no-room-pass set es n (room - done.written) r rest (omega (arith, l, g.length_is)))
        (λ l. no-room-text set es n (room - done.written) r rest (omega (arith, l, g.length_is))) h

    -- A record more.
    record-bytes : (m : Counts) (s : Told ℕ) → Weaker done m s → RecordIs set es name read done.written o o' (Ok m)
        → tally_of (summed done m s) o' ≡ behind (tally_of done o) (record_through set es r)
    record-bytes m s v h =
        let e = h.is in
        λ i. record {
          bytes = h.out i;
          turns = done.turns + (e i).turns;
          lookups = done.lookups + (e i).lookups;
          attempts = done.attempts + (e i).attempts;
          accepted = done.accepted + (e i).accepted;
          support = (v ∙ ap (λ (p : Tally). weaker (support_of done.support) p.support) e) i;
          bases = done.bases + (e i).bases;
        }

    record-done : (m : Counts) (s : Told ℕ) → Weaker done m s → length es ≤ max_methods → RecordIs set es name read done.written o o' (Ok m)
        → length o' ≡ length o → Going room rs rest (n + 1) (summed done m s) o'
    record-done m s v few h same =
        let left_is : room - done.written - length (text set es r) ≡ room - (done.written + m.written) = omega (arith, h.long) in
        let more = h.small in
        let t = g.small in
        let e = h.is in
        record {
          many = omega (arith, g.many);
          length_is = same ∙ g.length_is;
          written = omega (arith, h.long, h.fits, g.written);
          left = g.left
              ∙ room-later set es n (room - done.written) r rest (omega (arith, h.fits, g.length_is)) (omega (arith, h.passes, g.length_is))
              ∙ ap₂ (λ (i k : ℕ). no_room_at set es i k rest) (sym (add-one n)) left_is;
          whole = ap (λ (p : Tally). behind p (all rest)) (record-bytes m s v h)
              ∙ behind-assoc (tally_of done o) (record_through set es r) (all rest)
              ∙ ap (behind (tally_of done o)) (all_first r rest)
              ∙ g.whole;
          small = record {
            turns = omega (arith, more.turns, t.turns, few, ap (λ (p : Tally). p.turns) e);
            lookups = omega (arith, more.lookups, t.lookups, few, ap (λ (p : Tally). p.lookups) e);
            attempts = omega (arith, more.attempts, t.attempts, few, ap (λ (p : Tally). p.attempts) e);
            accepted = omega (arith, more.accepted, t.accepted, few, ap (λ (p : Tally). p.accepted) e);
            bases = omega (arith, more.bases, t.bases, few, ap (λ (p : Tally). p.bases) e);
          };
        }

  module _ (room : ℕ) (rs : List Record) (n : ℕ) (done : Counts) (o : List ℕ) (g : Going room rs [] n done o) where
    all_fit : no_room_at set es 0 room rs ≡ none
    unfolding no_room_at
    all_fit = g.left

    all_done : tally_of done o ≡ all rs
    all_done = sym (all_none (tally_of done o)) ∙ g.whole

-- ---- the end of the call

module _ (set : KmerSet) (es : List Entry) (g : Given) (rs : List Record) where
  -- Refusal 11.
  full-exact : (n : ℕ) {r : Result Report Refusal} {o w : List ℕ} → no_room_at set es 0 (length g.output) rs ≡ some n
      → (out : List ℕ) → length out ≡ length g.output → r ≡ Err (NoRoom n) → Cleared 0 out (length g.work) o w → Exact (corrected_records set es g rs) r o w
  unfolding no_room
  full-exact n e out same a h =
      let is = records-full set es g rs n e in
      record {
        answer = ap answer_of a ∙ ap (λ (x : After). x.answer) (sym is);
        output = h.output ∙ rw (sub-zero (length out), same, ap (λ (x : After). x.output) is);
        work = h.work ∙ ap (λ (x : After). x.work) (sym is);
      }

  -- The report is that of the reads, but for the bytes written.
  fasta-report : (done : Counts) (offered : Bool) (out : List ℕ) → offered ≡ ltb 0 (length set.counts) → done.written ≤ length out
      → tally_of done out ≡ all set es rs → report_of (report_on offered done) ≡ fasta_report set es rs
  unfolding fasta_report with_written through_all
  fasta-report done offered out f l e =
      let reads = reads_of rs in
      let bytes : List ℕ = results set es [] reads in
      let own : Counts = OfRecord.with_written done (length bytes) in
      let same : tally_of own bytes ≡ through_all set es [] reads =
      λ i. record {
        bytes = take-length bytes i;
        turns = (e i).turns;
        lookups = (e i).lookups;
        attempts = (e i).attempts;
        accepted = (e i).accepted;
        support = (e i).support;
        bases = (e i).bases;
      } in
      let told : report_of (report_on offered own) ≡ report set es [] reads = report-is set es [] g reads own offered bytes f (omega arith) same in
      let n : done.written ≡ length (texts set es rs) = sym (length-take-le done.written out l) ∙ ap (λ (p : Tally). length p.bytes) e in
      ap₂ with_written n told

  -- Accepted: out holds the texts when the rest is cleared.
  fits-exact : (done : Counts) (offered : Bool) (out : List ℕ) {r : Result Report Refusal} {o w : List ℕ} → offered ≡ ltb 0 (length set.counts) → no_room_at set es 0 (length g.output) rs ≡ none
      → tally_of done out ≡ all set es rs → done.written ≤ length out
      → length out ≡ length g.output → r ≡ Ok (report_on offered done) → Cleared done.written out (length g.work) o w → Exact (corrected_records set es g rs) r o w
  fits-exact done offered out f e s l same a h =
      let is = records-fit set es g rs e in
      let t : take done.written out ≡ texts set es rs = ap (λ (p : Tally). p.bytes) s in
      let left : length out - done.written ≡ length g.output - length (texts set es rs) =
      omega (arith, length-take-le done.written out l, ap length t) in
      record {
        answer = ap answer_of a ∙ ap accepted (fasta-report done offered out f l s) ∙ ap (λ (x : After). x.answer) (sym is);
        output = h.output ∙ ap₂ (λ (l : List ℕ) (n : ℕ). l ++ replicate n 0) t left ∙ ap (λ (x : After). x.output) (sym is);
        work = h.work ∙ ap (λ (x : After). x.work) (sym is);
      }

-- ---- a file that passed 6

few-records : (file : List ℕ) → file_right file ≡ true → length (records file) ≤ max_records
unfolding file_right
few-records file h =
    let parts = and-true (eqb (length file) 0 || eqb (get_or file (length file - 1) 0) 10) (leb (length (records file)) max_records) h in
    leb-true (length (records file)) max_records parts.1

-- ---- the call's file

module _ (g : Given) where
  abbrev set : KmerSet
  set = set_with g.set g.counts

  abbrev es : List Entry
  es = entries_of g.job

  abbrev pub going : List Record → ℕ → Counts → List ℕ → Type 0
  going = Going set es (length g.output) (records g.input)

  abbrev pub checked : Type 0
  checked = Within g.job (length g.input) (length g.output) (length g.work)

  abbrev exactly : Result Report Refusal → List ℕ → List ℕ → Type 0
  exactly = Exact (corrected_records set es g (records g.input))

  -- No record is done before the first name line.
  pub fasta-begun : (rest : List Record) → records_of (lines g.input) ≡ rest → going rest 0 nothing g.output
  unfolding records
  fasta-begun rest e =
      subst (λ (rs : List Record). Going set es (length g.output) (records g.input) rs 0 nothing g.output) e
      (begin set es (records g.input) g.output)

  -- What a read of length n is given.
  pub read-within : (n : ℕ) → n ≤ length g.input → (o w : List ℕ) → checked
      → length o ≡ length g.output → length w ≡ length g.work
      → Within g.job n (length o) (length w)
  read-within n l o w k same same-work =
      record {
        input = omega (arith, l, k.input);
        entries = k.entries;
        output = omega (arith, k.output);
        work = omega (arith, k.work);
        work_input = omega (arith, l, k.work_input);
      }

  module _ (name read : List ℕ) (rest : List Record) (n : ℕ) (done : Counts) (o o' : List ℕ)
      (i : going (record { name = name; read = read } ∷ rest) n done o) (same : length o' ≡ length o) where
    pub fasta-no-room : (full : Full) → RecordIs set es name read done.written o o' (Err full) → (v : List ℕ) {r : Refusal} {o'' w'' : List ℕ}
        → length v ≡ length g.work → (r ≡ NoRoom n) × Cleared 0 o' (length v) o'' w'' → exactly (Err r) o'' w''
    fasta-no-room full h v same-work c =
        full-exact set es g (records g.input) n
        (record-full set es (length g.output) (records g.input) name read rest n done o o' i full h)
        o' (same ∙ i.length_is) (ap (λ (r : Refusal). Err r) c.0) (rw same-work at c.1)

    pub fasta-next : (m : Counts) → RecordIs set es name read done.written o o' (Ok m) → (s : Told ℕ) → Weaker done m s → checked
        → going rest (n + 1) (summed done m s) o'
    fasta-next m h s v k =
        record-done set es (length g.output) (records g.input) name read rest n done o o' i
        m s v (omega (arith, entries_of-length g.job, k.entries)) h same

  module _ (rest : List Record) (n : ℕ) (done : Counts) (o : List ℕ) (i : going rest n done o) (k : checked) (b : file_right g.input ≡ true) where
    pub fasta-few : n ≤ max_records
    fasta-few = omega (arith, i.many, few-records g.input b)

    pub fasta-small : (done.written ≤ length o) × (done.accepted < 2 ^ 54)
    fasta-small = (i.written, omega (arith, i.small.accepted, fasta-few))

  pub fasta-fits : (rest : List Record) (n : ℕ) (x y : Counts) (s : Told ℕ) (o : List ℕ) → going rest n (summed x y s) o → checked → file_right g.input ≡ true → Fits x y
  fasta-fits rest n x y s o i k b =
      let few = fasta-few rest n (summed x y s) o i k b in
      let l = i.small in
      record {
        written = omega (arith, i.written, i.length_is, k.output);
        turns = omega (arith, l.turns);
        lookups = omega (arith, l.lookups);
        attempts = omega (arith, l.attempts);
        accepted = omega (arith, l.accepted);
        bases = omega (arith, l.bases);
      }

  pub fasta-accepted : (n : ℕ) (done : Counts) (o w : List ℕ) (offered : Bool) {r : Report} {o' w' : List ℕ} → going [] n done o
      → length w ≡ length g.work → offered ≡ ltb 0 (length g.counts)
      → (r ≡ report_on offered done) × Cleared done.written o (length w) o' w' → exactly (Ok r) o' w'
  unfolding offering
  fasta-accepted n done o w offered i same f a =
      fits-exact set es g (records g.input) done offered o f
      (all_fit set es (length g.output) (records g.input) n done o i)
      (all_done set es (length g.output) (records g.input) n done o i)
      i.written i.length_is (ap (λ (r : Report). Ok r) a.0) (rw same at a.1)
