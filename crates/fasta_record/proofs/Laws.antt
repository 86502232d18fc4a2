-- A read's way from the work buffer and back, and its record's text.
use Prim.Native.Nat.{ℕ, ◌+◌, ◌-◌, ◌/◌, ◌≤◌, ◌<◌}
use native.Mathlib.Omega.{arith}
use mathlib.Core.Path.{◌≡◌, refl, sym, ap, ap₂, ◌∙◌, subst}
use mathlib.Core.List.{List, [], ◌∷◌, ◌++◌}
use lib.ListN.{length, take, drop, length-append, length-drop}
use lib.Seq.{length-take-le, take-length, take-append-le}
use Rattle.rules.specs.Set.{KmerSet}
use Rattle.rules.specs.Job.{Entry, entry_count, entries_of, pass, result}
use Rattle.rules.specs.Counts.{sum, passes_of, support_over}
use Rattle.rules.specs.Calls.{longest}
use Rattle.rules_fasta.specs.Fasta.{Record, read_lines, ended, mended, text}
use Rattle.rules_fasta.proofs.Text.{text-length}
use Rattle.support.specs.Support.{support_of}
use Rattle.turn.specs.declared.Counts.{Counts}
use Rattle.turn.specs.declared.Full.{Full}
use Rattle.std.specs.Prelude.{Result, Ok, Err}
use Rattle.correct.specs.Pass.{Tally, tally_of, unchanged_by, Small}
use Rattle.through.specs.Through.{through, GoneOn, ThroughIs}
use Rattle.through.proofs.InTurn.{entries-all, entries_over}
use Rattle.record_text.specs.Text.{PutIs}
use Rattle.fasta_record.specs.Record.{with_written, Written}

-- Bytes that stand in two buffers.
same-pass : (n : Counts) (a b : List ℕ) → take n.written a ≡ take n.written b → tally_of n a ≡ tally_of n b
same-pass n a b e = λ i. record {
  bytes = e i;
  turns = n.turns;
  lookups = n.lookups;
  attempts = n.attempts;
  accepted = n.accepted;
  support = support_of n.support;
  bases = n.bases;
}

module _ (set : KmerSet) (job : List ℕ) (p : Tally) (room : ℕ) where
  -- The result in a part of the work buffer, and in the whole.
  pub gone-on-front : (part rest : List ℕ) (r : Result Counts Full) → GoneOn set job p room part r → GoneOn set job p room (part ++ rest) r
  gone-on-front part rest (Ok n) d =
      let e = same-pass n (part ++ rest) part (take-append-le n.written part rest d.1) in (
        e ∙ d.0,
        omega (arith, d.1, length-append part rest),
        d.2,
        subst (Small (entry_count job)) (sym e) d.3,
      )
  gone-on-front part rest (Err full) d = d

  -- The result copied from the output to the work buffer.
  pub gone-on-copied : (out work : List ℕ) (n : Counts) → GoneOn set job p room out (Ok n) → take n.written work ≡ take n.written out
      → length out ≤ length work → GoneOn set job p room work (Ok n)
  gone-on-copied out work n d c l =
      let e = same-pass n work out c in (
        e ∙ d.0,
        omega (arith, d.1),
        d.2,
        subst (Small (entry_count job)) (sym e) d.3,
      )

-- Without entries: the read stays where it is.
module _ (set : KmerSet) (job work : List ℕ) (len room : ℕ) (none : entry_count job ≡ 0) where
  no-entries : entries_of job ≡ []
  no-entries = entries-all job ∙ entries_over job 0 (omega arith)

  pub none-full : room < len → len ≤ length work → room < longest set (entries_of job) (take len work)
  unfolding longest
  none-full h l = rw no-entries (omega (arith, length-take-le len work l))

  pub none_done : len ≤ room → len ≤ length work → ThroughIs set (entries_of job) (take len work) room work (Ok (unchanged_by len))
  unfolding through passes_of sum support_over result longest
  none_done h l =
      rw no-entries (
        refl,
        l,
        omega (arith, length-take-le len work l),
        record { turns = omega arith; lookups = omega arith; attempts = omega arith; accepted = omega arith; bases = omega arith },
      )

-- The result is one of the pass results, or the read.
pub result-longest : (set : KmerSet) (es : List Entry) (read : List ℕ) → length (result set es read) ≤ longest set es read
unfolding result longest
result-longest set [] read = omega arith
result-longest set (e ∷ es) read = omega (arith, result-longest set es (pass set e read).bytes)

-- ---- a record

module _ (set : KmerSet) (es : List Entry) (name read w : List ℕ) (room : ℕ) (done : Counts) (t : ThroughIs set es read room w (Ok done)) where
  abbrev rec : Record
  rec = record { name = name; read = read }

  -- The result at the front of the work buffer.
  result-is : take done.written w ≡ result set es read
  unfolding through
  result-is = ap (λ (p : Tally). p.bytes) t.0

  written_is : done.written ≡ length (result set es read)
  written_is = sym (length-take-le done.written w t.1) ∙ ap length result-is

  pub record-short : done.written ≤ room
  record-short = omega (arith, written_is, result-longest set es read, t.2)

  pub text-is : text set es rec ≡ ended (name ∷ read_lines (take done.written w))
  unfolding text mended
  text-is = ap (λ (l : List ℕ). ended (name ∷ read_lines l)) (sym result-is)

  pub text-long : length (text set es rec) ≡ length name + 1 + (done.written + (done.written + 79) / 80)
  text-long = text-length set es rec ∙ ap (λ (n : ℕ). length name + 1 + (n + (n + 79) / 80)) (sym written_is)

  -- o is the output before, o₁ after the passes, o' with the text.
  pub record-done : (at n : ℕ) (o o₁ o' : List ℕ) (end : ℕ) → n ≡ length (text set es rec) → n ≤ length o - at → room ≡ length o - at
      → take at o₁ ≡ take at o → PutIs o₁ o' at (ended (name ∷ read_lines (take done.written w))) end → Written set es rec at o o' (with_written done n)
  unfolding through
  record-done at n o o₁ o' end long fits same front put =
      record {
        is = λ i. record {
          bytes = (ap (λ (m : ℕ). take m (text set es rec)) long ∙ take-length (text set es rec)) i;
          turns = (t.0 i).turns;
          lookups = (t.0 i).lookups;
          attempts = (t.0 i).attempts;
          accepted = (t.0 i).accepted;
          support = (t.0 i).support;
          bases = (t.0 i).bases;
        };
        long = long;
        out = ap (λ (m : ℕ). take m o') (let e : at + n ≡ end = omega (arith, put.end, long, ap length text-is) in e)
            ∙ put.out
            ∙ ap₂ (λ (l m : List ℕ). l ++ m) front (sym text-is);
        fits = omega (arith, long);
        passes = omega (arith, t.2);
        small = let s = subst (Small (length es)) t.0 t.3 in record { turns = s.turns; lookups = s.lookups; attempts = s.attempts; accepted = s.accepted; bases = s.bases };
      }

-- The part of the output from `at` on.
pub lent_length : (o : List ℕ) (at : ℕ) → length (take (length o - at) (drop at o)) ≡ length o - at
lent_length o at = length-take-le (length o - at) (drop at o) (omega (arith, length-drop at o))
