-- The theorem `samples`: the rules give what document 01 prints, by computation. Serves demand 2.
use Prim.Native.Nat.{ℕ}
use mathlib.Core.Path.{◌≡◌, refl}
use mathlib.Core.Option.{Option, none, some}
use mathlib.Core.List.{List, [], ◌∷◌, ◌++◌, map}
use lib.ListN.{replicate, set}
use Rattle.rules.specs.Letters.{Kmer, code, letter, complement, kmer, in_place}
use Rattle.rules.specs.Refusal.{Outcome, accepted, refused, ◌or_else◌, unless}
use Rattle.rules.specs.Set.{KmerSet, solid, check, opened}
use Rattle.rules.specs.Scan.{four_cost}
use Rattle.rules.specs.Solid.{solids_of}
use Rattle.rules.specs.Driver.{Pass}
use Rattle.rules.specs.Job.{Entry, entries_of, lines, pass, result}
use Rattle.rules.specs.Counts.{Fed, sum, all_passes, turns, lookups}
use Rattle.rules.specs.Calls.{Given, After, call_by, given_check, batch_right, correct_read, correct_batch}
use Rattle.rules.specs.Samples.{A, C, T, G, N, AACGTC, AACGCCG, AACTCCG, sample_set, sample_bytes, Sample, line, table, unknown_table, JobSample, job_line, job_table}
use Rattle.rules.specs.Scenarios.{OnSet, scenario_table}

-- A line as the rules have it: its bytes, turns and lookups computed.
pub by_rules : KmerSet → Sample → Sample
unfolding pass line
by_rules set s = (let p : Pass = pass set (record { method = s.method; confirm = s.confirm }) s.read in line s.method s.confirm s.read p.bytes p.turns p.lookups)

-- Every line of the table is as the rules have it.
pub samples : map (by_rules sample_set) table ≡ table
unfolding by_rules table sample_set
samples = refl

-- And every line of the reads with unknown letters, document 02, W5.
pub unknown_samples : map (by_rules sample_set) unknown_table ≡ unknown_table
unfolding by_rules unknown_table sample_set
unknown_samples = refl

-- A k-mer's unknown letters: ACN, NAN, NAC and G, which is ACG; and ANC and ACN moved right, a known A in front.
pub unknown_letters :
    map (λ (y : Kmer). y.unknown)
    (kmer 3 (A ∷ C ∷ N ∷ [])
    ∷ kmer 3 (N ∷ A ∷ N ∷ [])
    ∷ kmer 3 (N ∷ A ∷ C ∷ G ∷ [])
    ∷ in_place 3 (kmer 3 (A ∷ N ∷ C ∷ [])) []
    ∷ in_place 3 (kmer 3 (A ∷ C ∷ N ∷ [])) []
    ∷ [])
    ≡ 1 ∷ 5 ∷ 0 ∷ 1 ∷ 0 ∷ []
unfolding kmer in_place
unknown_letters = refl

-- Four successors cost 4 lookups if the last k − 1 letters are known, else none: NAC, ANC, ACN.
pub unknown_four :
    map (λ bs. four_cost 3 (solid sample_set) (kmer 3 bs)) ((N ∷ A ∷ C ∷ []) ∷ (A ∷ N ∷ C ∷ []) ∷ (A ∷ C ∷ N ∷ []) ∷ []) ≡ 4 ∷ 0 ∷ 0 ∷ []
unfolding four_cost kmer
unknown_four = refl

-- Such a k-mer counts as a k-mer of the read, and not as solid: AACTCCG, NACTCCG, AACNCCG, NNN, AA.
pub unknown_solids :
    map (solids_of sample_set) (AACTCCG ∷ (N ∷ A ∷ C ∷ T ∷ C ∷ C ∷ G ∷ []) ∷ (A ∷ A ∷ C ∷ N ∷ C ∷ C ∷ G ∷ []) ∷ (N ∷ N ∷ N ∷ []) ∷ (A ∷ A ∷ []) ∷ [])
    ≡ record { kmers = 5; solid = 5 }
    ∷ record { kmers = 5; solid = 4 }
    ∷ record { kmers = 5; solid = 2 }
    ∷ record { kmers = 1; solid = 0 }
    ∷ record { kmers = 0; solid = 0 }
    ∷ []
unfolding solids_of sample_set
unknown_solids = refl

pub by_rules_on : OnSet → OnSet
unfolding by_rules
by_rules_on o = record { set = o.set; sample = by_rules o.set o.sample }

-- Every line of the table of scenarios too.
pub scenarios : map by_rules_on scenario_table ≡ scenario_table
unfolding by_rules_on scenario_table
scenarios = refl

-- A line of the second table as the rules have it, but for its ceiling, which crates/rules_ceiling shows.
pub by_job : JobSample → JobSample
unfolding entries_of result sum all_passes turns lookups job_line
by_job s =
    let es : List Entry = entries_of s.job in
    let ps : List Fed = all_passes sample_set es (s.read ∷ []) in
    job_line s.job s.read (result sample_set es s.read) (sum (turns sample_set) ps) (sum (lookups sample_set) ps) s.ceiling

pub jobs : map by_job job_table ≡ job_table
unfolding by_job job_table sample_set
jobs = refl

-- The base pairs: A to T, C to G, T to A, G to C. Document 02, W2.
pub base_pairs : map (λ b. letter (complement (code b))) (A ∷ C ∷ T ∷ G ∷ []) ≡ T ∷ G ∷ A ∷ C ∷ []
unfolding letter complement code
base_pairs = refl

-- The set's bytes open with k = 3 and those five keys; the check words are 9 and 200.
pub sample_opens : (opened sample_bytes ≡ accepted sample_set) × (check sample_bytes 0 ≡ 9) × (check sample_bytes 1 ≡ 200)
unfolding opened check sample_bytes sample_set
sample_opens = (refl, refl, refl)

-- What it says of other bytes: none; a wrong check in block 1; k = 2; key 1 equal to key 0.
pub other_opens :
    (opened [] ≡ refused (record { number = 7; place = 0 }))
    × (opened (set sample_bytes 520 7) ≡ refused (record { number = 8; place = 1 }))
    × (opened (set (set sample_bytes 0 2) 504 8) ≡ refused (record { number = 9; place = 0 }))
    × (opened (set (set sample_bytes 520 6) 1016 183) ≡ refused (record { number = 10; place = 1 }))
unfolding opened sample_bytes
other_opens = (refl, refl, refl, refl)

-- ---- calls

-- A call by what its set's bytes open to: the sample's are opened above, and not again for every call below.
pub read_by : (g : Given) {o : Outcome KmerSet} → opened g.set ≡ o → correct_read g ≡ call_by o [] (g.input ∷ []) (given_check g) g
unfolding correct_read
read_by g e = λ i. call_by (e i) [] (g.input ∷ []) (given_check g) g

pub batch_by : (g : Given) {o : Outcome KmerSet} → opened g.set ≡ o
    → correct_batch g ≡ call_by o (10 ∷ []) (lines g.input) (given_check g or_else unless (batch_right g.input) 6) g
unfolding correct_batch
batch_by g e = λ i. call_by (e i) (10 ∷ []) (lines g.input) (given_check g or_else unless (batch_right g.input) 6) g

-- A call on a set's bytes: job and input, and the lengths of output and work, both filled with 1.
unfoldable pub given : List ℕ → List ℕ → List ℕ → ℕ → ℕ → Given
given bytes job input out work =
    record { set = bytes; index = []; counts = []; job = job; input = input; output = replicate out 1; work = replicate work 1 }

-- Job 3, 1 with lines AACGCCG and AA: both lines, 1 turn, 21 lookups, 11 bytes, and zeros behind them.
pub printed_case :
    correct_batch (given sample_bytes (3 ∷ 1 ∷ []) (AACGCCG ++ (10 ∷ A ∷ A ∷ 10 ∷ [])) 12 24)
    ≡ record {
      answer = accepted (record { written = 11; turns = 1; lookups = 21; attempts = 1; accepted = 1; yield = 1000; support = none; quotient = 5; remainder = 1; bases = 4 });
      output = A ∷ A ∷ C ∷ T ∷ C ∷ C ∷ G ∷ 10 ∷ A ∷ A ∷ 10 ∷ 0 ∷ [];
      work = replicate 24 0;
    }
unfolding call_by given_check batch_right lines given sample_set
printed_case = batch_by _ sample_opens.0

-- Every line is corrected, each to a read of its own: AACGC and AACGCCG under One.
pub both_lines :
    correct_batch (given sample_bytes (1 ∷ 1 ∷ []) (A ∷ A ∷ C ∷ G ∷ C ∷ 10 ∷ (AACGCCG ++ (10 ∷ []))) 14 28)
    ≡ record {
      answer = accepted (record { written = 14; turns = 6; lookups = 28; attempts = 2; accepted = 2; yield = 1000; support = none; quotient = 4; remainder = 4; bases = 6 });
      output = A ∷ A ∷ C ∷ T ∷ C ∷ 10 ∷ A ∷ A ∷ C ∷ T ∷ C ∷ C ∷ G ∷ 10 ∷ [];
      work = replicate 28 0;
    }
unfolding call_by given_check batch_right lines given sample_set
both_lines = batch_by _ sample_opens.0

-- What a call refuses: number and place.
unfoldable pub refusal_of : After → Option (ℕ × ℕ)
refusal_of a = elim a.answer [ accepted r ↦ none | refused r ↦ some (r.number, r.place) ]

-- Refusals 2 to 4 (1 needs more than a million bytes). 2 counts entries: 9 whole ones, or 8 and a half; 8 are accepted. 3 and 4 name the
-- first such entry, and 3 looks at all methods before 4 looks at any confirm. An entry without its second byte has confirm 0.
pub job_refusals :
    map (λ job. refusal_of (correct_read (given sample_bytes job AACGTC 9 18)))
    (replicate 18 1
    ∷ replicate 17 1
    ∷ replicate 16 1
    ∷ replicate 15 1
    ∷ (1 ∷ 1 ∷ 2 ∷ 1 ∷ 5 ∷ 1 ∷ 0 ∷ 1 ∷ [])
    ∷ (1 ∷ 0 ∷ 5 ∷ 1 ∷ [])
    ∷ (1 ∷ 0 ∷ 5 ∷ [])
    ∷ (1 ∷ 1 ∷ 2 ∷ 0 ∷ 3 ∷ 0 ∷ [])
    ∷ (1 ∷ 1 ∷ 2 ∷ [])
    ∷ (1 ∷ [])
    ∷ [])
    ≡ some (2, 0) ∷ some (2, 0) ∷ none ∷ some (4, 7) ∷ some (3, 2) ∷ some (3, 1) ∷ some (3, 1) ∷ some (4, 1) ∷ some (4, 1) ∷ some (4, 0) ∷ []
unfolding correct_read given sample_bytes refusal_of
job_refusals = refl

-- Refusals 5 to 11, each met once. 11 compares pass results: AACGTC fits 5 bytes after One alone, and not after Graph, which leaves it
-- as it is; a batch of one byte 10 has no room in no output.
pub refusals :
    map refusal_of
    (correct_read (given sample_bytes (1 ∷ 1 ∷ []) AACGTC 9 17)
    ∷ correct_batch (given sample_bytes (1 ∷ 1 ∷ []) AACGTC 9 18)
    ∷ correct_read (given [] (1 ∷ 1 ∷ []) AACGTC 9 18)
    ∷ correct_read (given (set sample_bytes 520 7) (1 ∷ 1 ∷ []) AACGTC 9 18)
    ∷ correct_read (given (set (set sample_bytes 0 2) 504 8) (1 ∷ 1 ∷ []) AACGTC 9 18)
    ∷ correct_read (given (set (set sample_bytes 520 6) 1016 183) (1 ∷ 1 ∷ []) AACGTC 9 18)
    ∷ correct_read (given sample_bytes (1 ∷ 1 ∷ []) AACGTC 5 12)
    ∷ correct_read (given sample_bytes (3 ∷ 1 ∷ 1 ∷ 1 ∷ []) AACGTC 5 12)
    ∷ correct_batch (given sample_bytes [] (A ∷ 10 ∷ 10 ∷ []) 2 6)
    ∷ correct_batch (given sample_bytes [] (10 ∷ []) 0 2)
    ∷ [])
    ≡ some (5, 0) ∷ some (6, 0) ∷ some (7, 0) ∷ some (8, 1) ∷ some (9, 0) ∷ some (10, 1)
    ∷ none ∷ some (11, 0) ∷ some (11, 1) ∷ some (11, 0) ∷ []
unfolding call_by given_check batch_right lines given sample_set refusal_of
refusals =
    λ i. map refusal_of
    (read_by (given sample_bytes (1 ∷ 1 ∷ []) AACGTC 9 17) sample_opens.0 i
    ∷ batch_by (given sample_bytes (1 ∷ 1 ∷ []) AACGTC 9 18) sample_opens.0 i
    ∷ read_by (given [] (1 ∷ 1 ∷ []) AACGTC 9 18) other_opens.0 i
    ∷ read_by (given (set sample_bytes 520 7) (1 ∷ 1 ∷ []) AACGTC 9 18) other_opens.1 i
    ∷ read_by (given (set (set sample_bytes 0 2) 504 8) (1 ∷ 1 ∷ []) AACGTC 9 18) other_opens.2 i
    ∷ read_by (given (set (set sample_bytes 520 6) 1016 183) (1 ∷ 1 ∷ []) AACGTC 9 18) other_opens.3 i
    ∷ read_by (given sample_bytes (1 ∷ 1 ∷ []) AACGTC 5 12) sample_opens.0 i
    ∷ read_by (given sample_bytes (3 ∷ 1 ∷ 1 ∷ 1 ∷ []) AACGTC 5 12) sample_opens.0 i
    ∷ batch_by (given sample_bytes [] (A ∷ 10 ∷ 10 ∷ []) 2 6) sample_opens.0 i
    ∷ batch_by (given sample_bytes [] (10 ∷ []) 0 2) sample_opens.0 i
    ∷ [])
