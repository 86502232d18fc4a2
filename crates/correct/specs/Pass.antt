-- A pass: what its answer means by the rules.
use Rattle.std.specs.Prelude.{ℕ, ◌+◌, ◌*◌, ◌≤◌, ◌<◌, ◌≡◌, List, length, take, None, Result, Ok, Err}
use Rattle.std.proofs.Math.Option.{Option, none}
use Rattle.rules.specs.Letters as letters
use Rattle.rules.specs.Set.{KmerSet, set_of, solid}
use Rattle.rules.specs.Scan.{ask}
use Rattle.rules.specs.Driver as rules
use Rattle.rules.specs.Job.{Entry, pass}
use Rattle.rules.specs.Counts.{w_of}
use Rattle.rules.specs.Calls.{max_read}
use Rattle.kmer.specs.declared.Kmer.{Kmer}
use Rattle.kmer.specs.Kmer.{kmer_of, HasLetters}
use Rattle.set.specs.declared.ready.KmerSet as opened
use Rattle.set.specs.declared.Asked.{Asked}
use Rattle.set.specs.Asked.{AskedIs}
use Rattle.support.specs.Support.{support_of}
use Rattle.turn.specs.declared.Counts.{Counts}
use Rattle.turn.specs.declared.Place.{Place}
use Rattle.turn.specs.declared.Full.{Full}

-- The first k-mer of the read, asked; as the rules' `begin`.
pub record Begun (set : opened.KmerSet) (read : List ℕ) (r : Place) : Type 0 where
  pub kmer : Kmer
  pub letters : HasLetters set.head.k (letters.kmer set.head.k (take set.head.k read)) kmer
  pub asked : Asked
  pub answer : AskedIs (ask (solid (set_of set.bytes.now)) (kmer_of kmer)) asked
  pub is : r ≡ record {
    kmer = kmer;
    previous = asked.solid;
    at = set.head.k;
    done = record { written = set.head.k; turns = 0; lookups = asked.lookups; attempts = 0; accepted = 0; support = None; bases = 0 };
  }

-- Nothing done to a read of that length.
abbrev pub unchanged_by : ℕ → Counts
unchanged_by n = record { written = n; turns = 0; lookups = 0; attempts = 0; accepted = 0; support = None; bases = 0 }

-- What passes come to: the bytes of the last one, the sums of what they count, their support, and the sum of their w_of.
pub record Tally : Type 0 where
  pub bytes : List ℕ
  pub turns : ℕ
  pub lookups : ℕ
  pub attempts : ℕ
  pub accepted : ℕ
  pub support : Option ℕ
  pub bases : ℕ

-- The rules' pass with its w_of.
abbrev pub with_bases : rules.Pass → ℕ → Tally
with_bases p w =
    record {
      bytes = p.bytes;
      turns = p.turns;
      lookups = p.lookups;
      attempts = p.attempts;
      accepted = p.accepted;
      support = p.support;
      bases = w;
    }

-- One pass: a read through an entry.
unfoldable pub one_pass : KmerSet → Entry → List ℕ → Tally
unfolding pass w_of
one_pass set e read = with_bases (pass set e read) (w_of set (record { entry = e; bytes = read }))

-- Counts, with the bytes at the front of the output.
abbrev pub tally_of : Counts → List ℕ → Tally
tally_of n out =
    record {
      bytes = take n.written out;
      turns = n.turns;
      lookups = n.lookups;
      attempts = n.attempts;
      accepted = n.accepted;
      support = support_of n.support;
      bases = n.bases;
    }

-- A read returned unchanged, counts zero.
abbrev pub returned : List ℕ → rules.Pass
returned read = record { bytes = read; turns = 0; lookups = 0; attempts = 0; accepted = 0; support = none }

-- The answer to a pass n: its counts, and its bytes at the front of the output; full where they are more than its room.
abbrev pub PassIs : ℕ → List ℕ → Tally → Result Counts Full → Type 0
PassIs room out n (Ok r) = (tally_of r out ≡ n) × (r.written ≤ length out)
PassIs room out n (Err full) = room < length n.bytes

-- The largest F of demand 3: GapSize's, at k = 31, confirm 255 and 16,777,216 keys.
abbrev pub max_f : ℕ
max_f = 402653997

-- What i passes can count, none of them fed more than 1,048,576 bytes: sums of it do not wrap.
pub record Small (i : ℕ) (p : Tally) : Type 0 where
  pub turns : p.turns ≤ i * (2 * max_read)
  pub lookups : p.lookups ≤ i * (1 + max_read * max_f)
  pub attempts : p.attempts ≤ i * (2 * max_read)
  pub accepted : p.accepted ≤ i * (2 * max_read)
  pub bases : p.bases ≤ i * max_read

pub record Passed (out out' : List ℕ) (n : Tally) (r : Result Counts Full) : Type 0 where
  pub is : PassIs (length out) out' n r
  pub room : length out' ≡ length out
  pub small : Small 1 n
