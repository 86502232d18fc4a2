-- Document 02, W7: the index, what its maker answers, refusal 15, and calls with an index, by computation. Serves W7's readings.
use Prim.Native.Nat.{ℕ}
use mathlib.Core.Path.{◌≡◌, refl}
use mathlib.Core.Option.{Option, none, some}
use mathlib.Core.List.{List, [], ◌∷◌, ◌++◌, map}
use lib.ListN.{length, replicate, set, take}
use Rattle.rules.specs.Refusal.{Outcome, accepted, refused}
use Rattle.rules.specs.Set.{KmerSet, offering, first_code, entry_in, lookup, block_word, opened}
use Rattle.rules.specs.Blocks.{blocks_for, set_blocks, Made, unmade, laid_into}
use Rattle.rules.specs.Index.{index_entry, index_entries, index_list, index_blocks, make_index, index_check}
use Rattle.rules.specs.Job.{lines}
use Rattle.rules.specs.Calls.{Given, call_by, given_check, batch_right, correct_read, correct_batch}
use Rattle.rules.specs.Samples.{A, C, G, AACGTC, AACGCCG, AACTCCG, sample_set, word_bytes, sample_bytes}
use Rattle.rules.proofs.Samples.{sample_opens, other_opens, read_by, batch_by, given, refusal_of}

-- ---- entries

-- A set.
pub with_keys : ℕ → List ℕ → KmerSet
with_keys k keys = record { k = k; keys = keys; index = []; counts = [] }

-- m is the smaller of 6 and k: how many entries there are at k = 1, 3, 5, 7 and 31, and how many blocks.
pub sizes :
    (map index_entries (1 ∷ 3 ∷ 5 ∷ 7 ∷ 31 ∷ []) ≡ 5 ∷ 65 ∷ 1025 ∷ 4097 ∷ 4097 ∷ [])
    × (map (λ k. blocks_for (index_entries k)) (1 ∷ 3 ∷ 5 ∷ 7 ∷ 31 ∷ []) ≡ 1 ∷ 2 ∷ 17 ∷ 66 ∷ 66 ∷ [])
unfolding index_entries
sizes = (refl, refl)

-- The first letters of G, of TCC and of AAAAAAC; at k = 7 the seventh letter is left out.
pub prefixes : (first_code 1 3 ≡ 3) × (first_code 3 37 ≡ 37) × (first_code 5 1023 ≡ 1023) × (map (first_code 7) (1 ∷ 3 ∷ 4 ∷ 16383 ∷ []) ≡ 0 ∷ 0 ∷ 1 ∷ 4095 ∷ [])
unfolding first_code
prefixes = (refl, refl, refl, refl)

-- All entries of A and G at k = 1, of the sample's keys 6, 23, 51, 58, 60 at k = 3, and of no key.
pub lists :
    (index_list (with_keys 1 (0 ∷ 3 ∷ [])) ≡ 0 ∷ 1 ∷ 1 ∷ 1 ∷ 2 ∷ [])
    × (index_list sample_set ≡ replicate 7 0 ++ replicate 17 1 ++ replicate 28 2 ++ replicate 7 3 ++ replicate 2 4 ++ replicate 4 5)
    × (index_list (with_keys 3 []) ≡ replicate 65 0)
unfolding index_list with_keys sample_set
lists = (refl, refl, refl)

-- At k = 5 a key is its own first letters; at k = 7 keys 5 and 6 have the same.
pub entries :
    (map (index_entry (with_keys 5 (3 ∷ 5 ∷ 6 ∷ 1023 ∷ []))) (0 ∷ 3 ∷ 4 ∷ 5 ∷ 6 ∷ 7 ∷ 1023 ∷ 1024 ∷ []) ≡ 0 ∷ 0 ∷ 1 ∷ 1 ∷ 2 ∷ 3 ∷ 3 ∷ 4 ∷ [])
    × (map (index_entry (with_keys 7 (3 ∷ 5 ∷ 6 ∷ 9 ∷ 16383 ∷ []))) (0 ∷ 1 ∷ 2 ∷ 3 ∷ 4 ∷ 4095 ∷ 4096 ∷ []) ≡ 0 ∷ 1 ∷ 3 ∷ 4 ∷ 4 ∷ 4 ∷ 5 ∷ [])
unfolding index_entry with_keys
entries = (refl, refl)

-- ---- blocks

-- The sample's index, two blocks: entries 0 to 62 and check word 113, entries 63 and 64, spare words and check word 12.
unfoldable pub sample_index : List ℕ
unfolding word_bytes
sample_index =
    word_bytes (replicate 7 0 ++ replicate 17 1 ++ replicate 28 2 ++ replicate 7 3 ++ replicate 2 4 ++ replicate 2 5 ++ (113 ∷ []))
    ++ word_bytes (5 ∷ 5 ∷ replicate 61 0 ++ (12 ∷ []))

-- The index of key 3 at k = 1.
pub one_index : List ℕ
unfolding word_bytes
one_index = word_bytes (0 ∷ 0 ∷ 0 ∷ 0 ∷ 1 ∷ replicate 58 0 ++ (2 ∷ []))

pub blocks_are : (index_blocks sample_set ≡ sample_index) × (index_blocks (with_keys 1 (3 ∷ [])) ≡ one_index)
unfolding index_blocks sample_set sample_index with_keys one_index
blocks_are = (refl, refl)

-- The whole index of A and G, and of no key at k = 1: entries from word 0 on, spare words zero, then the check word of block 0.
pub bytes :
    (index_blocks (with_keys 1 (0 ∷ 3 ∷ []))
    ≡ replicate 8 0 ++ (1 ∷ replicate 7 0) ++ (1 ∷ replicate 7 0) ++ (1 ∷ replicate 7 0) ++ (2 ∷ replicate 7 0) ++ replicate 464 0 ++ (6 ∷ replicate 7 0))
    × (index_blocks (with_keys 1 []) ≡ replicate 504 0 ++ (1 ∷ replicate 7 0))
unfolding index_blocks with_keys
bytes = (refl, refl)

-- What is read from the sample's index: entries 62 and 63 on either side of block 0's check word, entry 64, spare words, and the two check words.
pub words :
    (length sample_index ≡ 1024)
    × (map (entry_in sample_index) (0 ∷ 6 ∷ 7 ∷ 62 ∷ 63 ∷ 64 ∷ 65 ∷ 125 ∷ []) ≡ 0 ∷ 0 ∷ 1 ∷ 5 ∷ 5 ∷ 5 ∷ 0 ∷ 0 ∷ [])
    × (block_word sample_index 0 62 ≡ 5) × (block_word sample_index 0 63 ≡ 113) × (block_word sample_index 1 1 ≡ 5) × (block_word sample_index 1 2 ≡ 0)
    × (block_word sample_index 1 63 ≡ 12)
unfolding entry_in sample_index block_word
words = (refl, refl, refl, refl, refl, refl, refl)

-- ---- lookups

-- By the sample's index, each with the key's index among all five: ACT and its reverse complement AGT, CCG, CTC, AAC and TCC, whose canonical codes have other first letters than they themselves;
-- AAA and CCC, which are no keys; 70, which is no code of three letters.
pub lookups :
    map (lookup (offering sample_index [] sample_set)) (6 ∷ 14 ∷ 23 ∷ 25 ∷ 1 ∷ 37 ∷ 0 ∷ 21 ∷ 70 ∷ [])
    ≡ some 0 ∷ some 0 ∷ some 1 ∷ some 2 ∷ some 3 ∷ some 4 ∷ none ∷ none ∷ none ∷ []
unfolding lookup offering sample_index sample_set
lookups = refl

-- At k = 7, 5, its reverse complement 16042, and 6 are found among the keys of their first letters; 10 is not.
pub lookups_of_seven :
    (let seven : KmerSet = with_keys 7 (3 ∷ 5 ∷ 6 ∷ 9 ∷ 16383 ∷ []) in map (lookup (offering (index_blocks seven) [] seven)) (3 ∷ 5 ∷ 16042 ∷ 6 ∷ 9 ∷ 10 ∷ []))
    ≡ some 0 ∷ some 1 ∷ some 1 ∷ some 2 ∷ some 3 ∷ none ∷ []
unfolding lookup offering index_blocks with_keys
lookups_of_seven = refl

-- ---- the maker

-- By what the set's bytes open to.
made_by : (bytes buffer : List ℕ) {o : Outcome KmerSet} → opened bytes ≡ o
    → make_index bytes buffer ≡ elim o [ refused r ↦ unmade buffer r | accepted set ↦ laid_into buffer (index_blocks set) ]
unfolding make_index
made_by bytes buffer e = λ i. elim (e i) [ refused r ↦ unmade buffer r | accepted set ↦ laid_into buffer (index_blocks set) ]

-- The answer is the length of the blocks, not the buffer's; the buffer's rest is zero; a buffer that fits exactly does.
pub made :
    (make_index sample_bytes (replicate 1026 1) ≡ record { answer = accepted 1024; buffer = sample_index ++ (0 ∷ 0 ∷ []) })
    × (make_index sample_bytes (replicate 1024 1) ≡ record { answer = accepted 1024; buffer = sample_index })
    × (make_index (set_blocks 1 []) (replicate 513 1) ≡ record { answer = accepted 512; buffer = replicate 504 0 ++ (1 ∷ replicate 8 0) })
unfolding make_index sample_index set_blocks sample_set
made = (made_by sample_bytes (replicate 1026 1) sample_opens.0, made_by sample_bytes (replicate 1024 1) sample_opens.0, refl)

-- A buffer one byte too short gives 14 and stays as it is.
pub too_short : make_index sample_bytes (replicate 1023 1) ≡ record { answer = refused (record { number = 14; place = 0 }); buffer = replicate 1023 1 }
unfolding laid_into index_blocks sample_set
too_short = made_by sample_bytes (replicate 1023 1) sample_opens.0

-- What the maker refuses, number and place, and the buffer.
pub refusal_made : Made → Option (ℕ × ℕ) × List ℕ
refusal_made m = (elim m.answer [ accepted n ↦ none | refused r ↦ some (r.number, r.place) ], m.buffer)

-- A buffer of three bytes stays. The set's refusals come first: no bytes; a wrong check in block 1; k = 2; key 1 equal to key 0. Then 14.
pub refusals :
    map (λ bytes. refusal_made (make_index bytes (1 ∷ 2 ∷ 3 ∷ [])))
    ([] ∷ set sample_bytes 520 7 ∷ set (set sample_bytes 0 2) 504 8 ∷ set (set sample_bytes 520 6) 1016 183 ∷ sample_bytes ∷ [])
    ≡ (some (7, 0), 1 ∷ 2 ∷ 3 ∷ []) ∷ (some (8, 1), 1 ∷ 2 ∷ 3 ∷ []) ∷ (some (9, 0), 1 ∷ 2 ∷ 3 ∷ []) ∷ (some (10, 1), 1 ∷ 2 ∷ 3 ∷ [])
    ∷ (some (14, 0), 1 ∷ 2 ∷ 3 ∷ []) ∷ []
unfolding refusal_made laid_into index_blocks unmade sample_set
refusals =
    λ i. refusal_made (made_by [] (1 ∷ 2 ∷ 3 ∷ []) other_opens.0 i)
    ∷ refusal_made (made_by (set sample_bytes 520 7) (1 ∷ 2 ∷ 3 ∷ []) other_opens.1 i)
    ∷ refusal_made (made_by (set (set sample_bytes 0 2) 504 8) (1 ∷ 2 ∷ 3 ∷ []) other_opens.2 i)
    ∷ refusal_made (made_by (set (set sample_bytes 520 6) 1016 183) (1 ∷ 2 ∷ 3 ∷ []) other_opens.3 i)
    ∷ refusal_made (made_by sample_bytes (1 ∷ 2 ∷ 3 ∷ []) sample_opens.0 i)
    ∷ []

-- ---- an index offered with the sample's set

pub refusal_offered : List ℕ → Option (ℕ × ℕ)
unfolding index_check sample_set
refusal_offered index = elim (index_check sample_set index) [ none ↦ none | some r ↦ some (r.number, r.place) ]

-- The right one, and none: an empty index counts as not offered.
pub passing : map refusal_offered (sample_index ∷ [] ∷ []) ≡ none ∷ none ∷ []
unfolding refusal_offered sample_index
passing = refl

-- Another first byte, a wrong spare byte, another check word; one byte, or a block, too few; one byte, a block of zeros, or a further block with its right check
-- word too many; the set's own bytes; the index of a set without key 60, of no key, and of another k; one byte.
pub wrong :
    map refusal_offered
    (set sample_index 0 1
    ∷ set sample_index 536 1
    ∷ set sample_index 1016 13
    ∷ take 1023 sample_index
    ∷ take 512 sample_index
    ∷ (sample_index ++ (0 ∷ []))
    ∷ (sample_index ++ replicate 512 0)
    ∷ (sample_index ++ replicate 504 0 ++ (3 ∷ replicate 7 0))
    ∷ sample_bytes
    ∷ index_blocks (with_keys 3 (6 ∷ 23 ∷ 51 ∷ 58 ∷ []))
    ∷ index_blocks (with_keys 3 [])
    ∷ index_blocks (with_keys 1 (0 ∷ 3 ∷ []))
    ∷ (0 ∷ [])
    ∷ [])
    ≡ replicate 13 (some (15, 0))
unfolding refusal_offered sample_index sample_bytes index_blocks with_keys
wrong = refl

-- ---- calls

-- A call with an index offered.
pub offer : List ℕ → Given → Given
offer index g = record { set = g.set; index = index; counts = g.counts; job = g.job; input = g.input; output = g.output; work = g.work }

-- With its index the printed case is as it is without: bytes, turns, lookups.
pub printed_case_indexed :
    correct_batch (offer sample_index (given sample_bytes (3 ∷ 1 ∷ []) (AACGCCG ++ (10 ∷ A ∷ A ∷ 10 ∷ [])) 12 24))
    ≡ record {
      answer = accepted (record { written = 11; turns = 1; lookups = 21; attempts = 1; accepted = 1; yield = 1000; support = none; quotient = 5; remainder = 1; bases = 4 });
      output = AACTCCG ++ (10 ∷ A ∷ A ∷ 10 ∷ 0 ∷ []);
      work = replicate 24 0;
    }
unfolding call_by given_check batch_right lines offer given sample_set sample_index
printed_case_indexed = batch_by (offer sample_index (given sample_bytes (3 ∷ 1 ∷ []) (AACGCCG ++ (10 ∷ A ∷ A ∷ 10 ∷ [])) 12 24)) sample_opens.0

one_opens : opened (set_blocks 1 (3 ∷ [])) ≡ accepted (with_keys 1 (3 ∷ []))
unfolding opened set_blocks with_keys
one_opens = refl

-- k = 1, key 3: GCAG, with its index and with an empty one, which is not offered. C is solid, since its canonical code is that of G. m is 1.
pub one_letter_indexed :
    map (λ index. correct_read (offer index (given (set_blocks 1 (3 ∷ [])) (1 ∷ 1 ∷ []) (G ∷ C ∷ A ∷ G ∷ []) 4 8))) (one_index ∷ [] ∷ [])
    ≡ replicate 2 (record {
      answer = accepted (record { written = 4; turns = 3; lookups = 8; attempts = 1; accepted = 0; yield = 0; support = none; quotient = 2; remainder = 2; bases = 3 });
      output = G ∷ C ∷ A ∷ G ∷ [];
      work = replicate 8 0;
    })
unfolding call_by given_check offer given with_keys one_index
one_letter_indexed =
    λ i. map (λ index. read_by (offer index (given (set_blocks 1 (3 ∷ [])) (1 ∷ 1 ∷ []) (G ∷ C ∷ A ∷ G ∷ []) 4 8)) one_opens i) (one_index ∷ [] ∷ [])

-- An index cut by a byte: 15 leaves every lent byte as it is.
pub fifteen :
    correct_read (offer (take 1023 sample_index) (given sample_bytes (1 ∷ 1 ∷ []) AACGTC 9 18))
    ≡ record { answer = refused (record { number = 15; place = 0 }); output = replicate 9 1; work = replicate 18 1 }
unfolding call_by given_check offer given sample_set sample_index
fifteen = read_by (offer (take 1023 sample_index) (given sample_bytes (1 ∷ 1 ∷ []) AACGTC 9 18)) sample_opens.0

-- Other wrong ones offered with a call: with another byte, longer by a block of zeros, of another set.
pub offered :
    map (λ index. refusal_of (correct_read (offer index (given sample_bytes (1 ∷ 1 ∷ []) AACGTC 9 18))))
    (set sample_index 8 1 ∷ (sample_index ++ replicate 512 0) ∷ index_blocks (with_keys 3 (6 ∷ 23 ∷ 51 ∷ 58 ∷ [])) ∷ [])
    ≡ replicate 3 (some (15, 0))
unfolding refusal_of call_by given_check offer given sample_set sample_index index_blocks with_keys
offered =
    λ i. map (λ index. refusal_of (read_by (offer index (given sample_bytes (1 ∷ 1 ∷ []) AACGTC 9 18)) sample_opens.0 i))
    (set sample_index 8 1 ∷ (sample_index ++ replicate 512 0) ∷ index_blocks (with_keys 3 (6 ∷ 23 ∷ 51 ∷ 58 ∷ [])) ∷ [])

-- With a wrong index: 5, and 6 of a batch, come before 15, and so do the set's 7 and 10; 15 comes before 11, which the right index meets.
pub fifteen_in_turn :
    map refusal_of
    (correct_read (offer (0 ∷ []) (given sample_bytes (1 ∷ 1 ∷ []) AACGTC 9 17))
    ∷ correct_batch (offer (0 ∷ []) (given sample_bytes (1 ∷ 1 ∷ []) AACGTC 9 18))
    ∷ correct_read (offer (0 ∷ []) (given [] (1 ∷ 1 ∷ []) AACGTC 9 18))
    ∷ correct_read (offer (0 ∷ []) (given (set (set sample_bytes 520 6) 1016 183) (1 ∷ 1 ∷ []) AACGTC 9 18))
    ∷ correct_read (offer (0 ∷ []) (given sample_bytes (3 ∷ 1 ∷ []) AACGTC 5 12))
    ∷ correct_batch (offer (0 ∷ []) (given sample_bytes [] (A ∷ 10 ∷ 10 ∷ []) 2 6))
    ∷ correct_batch (offer sample_index (given sample_bytes [] (A ∷ 10 ∷ 10 ∷ []) 2 6))
    ∷ [])
    ≡ some (5, 0) ∷ some (6, 0) ∷ some (7, 0) ∷ some (10, 1) ∷ some (15, 0) ∷ some (15, 0) ∷ some (11, 1) ∷ []
unfolding refusal_of call_by given_check batch_right lines offer given sample_set sample_index
fifteen_in_turn =
    λ i. map refusal_of
    (read_by (offer (0 ∷ []) (given sample_bytes (1 ∷ 1 ∷ []) AACGTC 9 17)) sample_opens.0 i
    ∷ batch_by (offer (0 ∷ []) (given sample_bytes (1 ∷ 1 ∷ []) AACGTC 9 18)) sample_opens.0 i
    ∷ read_by (offer (0 ∷ []) (given [] (1 ∷ 1 ∷ []) AACGTC 9 18)) other_opens.0 i
    ∷ read_by (offer (0 ∷ []) (given (set (set sample_bytes 520 6) 1016 183) (1 ∷ 1 ∷ []) AACGTC 9 18)) other_opens.3 i
    ∷ read_by (offer (0 ∷ []) (given sample_bytes (3 ∷ 1 ∷ []) AACGTC 5 12)) sample_opens.0 i
    ∷ batch_by (offer (0 ∷ []) (given sample_bytes [] (A ∷ 10 ∷ 10 ∷ []) 2 6)) sample_opens.0 i
    ∷ batch_by (offer sample_index (given sample_bytes [] (A ∷ 10 ∷ 10 ∷ []) 2 6)) sample_opens.0 i
    ∷ [])
