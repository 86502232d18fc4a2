-- Document 02, W8: computed samples. The table of supports, refusal 16 in its order, and whole calls with counts.
use Prim.Native.Nat.{ℕ}
use mathlib.Core.Path.{◌≡◌, refl}
use mathlib.Core.Option.{none, some}
use mathlib.Core.List.{List, [], ◌∷◌, ◌++◌, map}
use lib.ListN.{replicate}
use Rattle.rules.specs.Letters.{kmer}
use Rattle.rules.specs.Refusal.{accepted, refused, Check}
use Rattle.rules.specs.Set.{KmerSet, offering, lookup, count_of}
use Rattle.rules.specs.Index.{index_blocks}
use Rattle.rules.specs.Job.{Entry, entries_of, lines, result}
use Rattle.rules.specs.Report.{Report}
use Rattle.rules.specs.Calls.{Given, report, offer_check, call_by, given_check, batch_right, correct_read, correct_batch}
use Rattle.rules.specs.Samples.{A, C, T, G, AACGCCG, AACTCCG, sample_set, sample_bytes}
use Rattle.rules.specs.Supports.{Supported, support_table}
use Rattle.rules.proofs.Samples.{sample_opens, other_opens, read_by, batch_by, given, refusal_of}

-- ---- supports

-- A line of the table as the rules have it: its results, lookups and support computed.
pub by_report : Supported → Supported
unfolding entries_of result report
by_report s =
    let es : List Entry = entries_of s.job in
    let r : Report = report s.set es [] s.reads in
    record { set = s.set; job = s.job; reads = s.reads; results = map (result s.set es) s.reads; lookups = r.lookups; support = r.support }

pub supports : map by_report support_table ≡ support_table
unfolding by_report support_table
supports = refl

-- A k-mer's count is its canonical key's: ACT and its reverse complement AGT, CTC, whose key is GAG, and AAC; AAA is no key.
pub counts_of_kmers :
    map (λ bs. count_of (offering [] (10 ∷ 20 ∷ 30 ∷ 40 ∷ 50 ∷ []) sample_set) (kmer 3 bs))
    ((A ∷ C ∷ T ∷ []) ∷ (A ∷ G ∷ T ∷ []) ∷ (C ∷ T ∷ C ∷ []) ∷ (A ∷ A ∷ C ∷ []) ∷ (A ∷ A ∷ A ∷ []) ∷ [])
    ≡ 10 ∷ 10 ∷ 30 ∷ 40 ∷ 0 ∷ []
unfolding count_of lookup offering kmer sample_set
counts_of_kmers = refl

-- ---- calls

-- A set without keys.
pub no_keys : KmerSet
no_keys = record { k = 3; keys = []; index = []; counts = [] }

-- A call with an index and counts offered.
pub offer : List ℕ → List ℕ → Given → Given
offer index counts g = record { set = g.set; index = index; counts = counts; job = g.job; input = g.input; output = g.output; work = g.work }

-- The printed case with counts, and with the index too: everything but the support is as without.
pub printed_case_counted :
    correct_batch (offer (index_blocks sample_set) (10 ∷ 20 ∷ 30 ∷ 40 ∷ 50 ∷ []) (given sample_bytes (3 ∷ 1 ∷ []) (AACGCCG ++ (10 ∷ A ∷ A ∷ 10 ∷ [])) 12 24))
    ≡ record {
      answer = accepted (record { written = 11; turns = 1; lookups = 21; attempts = 1; accepted = 1; yield = 1000; support = some 10; quotient = 5; remainder = 1; bases = 4 });
      output = AACTCCG ++ (10 ∷ A ∷ A ∷ 10 ∷ 0 ∷ []);
      work = replicate 24 0;
    }
unfolding call_by given_check batch_right lines offer given index_blocks sample_set
printed_case_counted = batch_by _ sample_opens.0

-- 16 leaves every lent byte as it is.
pub sixteen :
    correct_read (offer [] (10 ∷ 20 ∷ 30 ∷ 40 ∷ []) (given sample_bytes (1 ∷ 1 ∷ []) (A ∷ A ∷ C ∷ G ∷ C ∷ []) 6 12))
    ≡ record { answer = refused (record { number = 16; place = 0 }); output = replicate 6 1; work = replicate 12 1 }
unfolding call_by given_check offer given sample_set
sixteen = read_by _ sample_opens.0

-- The number of a refusal, 0 if there is none.
unfoldable pub number_told : Check → ℕ
number_told none = 0
number_told (some r) = r.number

-- Counts of n − 1, n + 1 and n entries; one with no keys; none with no keys, which are not offered; 15 comes before 16.
pub counts_offered :
    map number_told
    (offer_check sample_set [] (replicate 4 10)
    ∷ offer_check sample_set [] (replicate 6 10)
    ∷ offer_check sample_set [] (replicate 5 10)
    ∷ offer_check no_keys [] (10 ∷ [])
    ∷ offer_check no_keys [] []
    ∷ offer_check sample_set (0 ∷ []) (replicate 4 10)
    ∷ offer_check sample_set (index_blocks sample_set) (replicate 4 10)
    ∷ [])
    ≡ 16 ∷ 16 ∷ 0 ∷ 16 ∷ 0 ∷ 15 ∷ 16 ∷ []
unfolding number_told offer_check index_blocks sample_set no_keys
counts_offered = refl

-- With counts of n − 1: 6 of a batch and the set's 7 come before 16; 16 comes before 11, which counts of n meet.
pub sixteen_in_turn :
    map refusal_of
    (correct_batch (offer [] (replicate 4 10) (given sample_bytes (1 ∷ 1 ∷ []) (A ∷ A ∷ C ∷ G ∷ C ∷ []) 6 12))
    ∷ correct_read (offer [] (replicate 4 10) (given [] (1 ∷ 1 ∷ []) (A ∷ A ∷ C ∷ G ∷ C ∷ []) 6 12))
    ∷ correct_read (offer [] (replicate 4 10) (given sample_bytes (1 ∷ 1 ∷ []) (A ∷ A ∷ C ∷ G ∷ C ∷ []) 2 10))
    ∷ correct_read (offer [] (replicate 5 10) (given sample_bytes (1 ∷ 1 ∷ []) (A ∷ A ∷ C ∷ G ∷ C ∷ []) 2 10))
    ∷ [])
    ≡ some (6, 0) ∷ some (7, 0) ∷ some (16, 0) ∷ some (11, 0) ∷ []
unfolding call_by given_check batch_right lines offer given sample_set refusal_of
sixteen_in_turn =
    λ i. map refusal_of
    (batch_by (offer [] (replicate 4 10) (given sample_bytes (1 ∷ 1 ∷ []) (A ∷ A ∷ C ∷ G ∷ C ∷ []) 6 12)) sample_opens.0 i
    ∷ read_by (offer [] (replicate 4 10) (given [] (1 ∷ 1 ∷ []) (A ∷ A ∷ C ∷ G ∷ C ∷ []) 6 12)) other_opens.0 i
    ∷ read_by (offer [] (replicate 4 10) (given sample_bytes (1 ∷ 1 ∷ []) (A ∷ A ∷ C ∷ G ∷ C ∷ []) 2 10)) sample_opens.0 i
    ∷ read_by (offer [] (replicate 5 10) (given sample_bytes (1 ∷ 1 ∷ []) (A ∷ A ∷ C ∷ G ∷ C ∷ []) 2 10)) sample_opens.0 i
    ∷ [])
