-- Document 02, W11, by computation: records, refusals 6, 18 and 11 with their places, lines of 80, the report, and every byte of both buffers.
use Prim.Native.Nat.{ℕ, zero, suc}
use mathlib.Core.Path.{◌≡◌, refl}
use mathlib.Core.Bool.{true, false}
use mathlib.Core.Option.{none, some}
use mathlib.Core.List.{List, [], ◌∷◌, ◌++◌, map}
use lib.ListN.{replicate}
use Rattle.rules.specs.Refusal.{Outcome, accepted, refused}
use Rattle.rules.specs.Set.{KmerSet, opened}
use Rattle.rules.specs.Job.{entries_of}
use Rattle.rules.specs.Calls.{Given, longest, unchanged}
use Rattle.rules.specs.Samples.{A, C, T, G, sample_set, sample_bytes}
use Rattle.rules.proofs.Samples.{sample_opens, other_opens, given, refusal_of}
use Rattle.rules_fasta.specs.Fasta.{records, file_right, text, fasta_by, correct_fasta}

-- A call by what its set's bytes open to.
fasta_for : (g : Given) {o : Outcome KmerSet} → opened g.set ≡ o → correct_fasta g ≡ fasta_by o g
unfolding correct_fasta
fasta_for g e = λ i. fasta_by (e i) g

-- A name line of `>` and a letter, with its end.
abbrev pub named : ℕ → List ℕ
named b = 62 ∷ b ∷ 10 ∷ []

-- ---- records and the report

-- Records a: AACG and C, so AACGC; b: no sequence line; c: CCGA. Counts 30 behind a's correction, 20 behind c's. One, c 1.
abbrev pub three_records : Given
three_records =
    record {
      set = sample_bytes;
      index = [];
      counts = 30 ∷ 20 ∷ 5 ∷ 5 ∷ 5 ∷ [];
      job = 1 ∷ 1 ∷ [];
      input = named 97 ++ (A ∷ A ∷ C ∷ G ∷ 10 ∷ C ∷ 10 ∷ named 98 ++ (named 99 ++ (C ∷ C ∷ G ∷ A ∷ 10 ∷ [])));
      output = replicate 23 1;
      work = replicate 46 1;
    }

-- Names stay, each read is corrected, b has its name line alone; the counts are sums, the support is the least.
pub three_corrected :
    correct_fasta three_records
    ≡ record {
      answer = accepted (record { written = 21; turns = 4; lookups = 23; attempts = 2; accepted = 2; yield = 1000; support = some 20; quotient = 7; remainder = 2; bases = 3 });
      output = named 97 ++ (A ∷ A ∷ C ∷ T ∷ C ∷ 10 ∷ named 98 ++ (named 99 ++ (C ∷ C ∷ G ∷ G ∷ A ∷ 10 ∷ 0 ∷ 0 ∷ [])));
      work = replicate 46 0;
    }
unfolding fasta_by sample_set
three_corrected = fasta_for three_records sample_opens.0

-- Without methods: the output of a file, in a buffer of n bytes.
abbrev pub laid_out : ℕ → List ℕ → Given
laid_out n file = given sample_bytes [] file n 400

-- Lines of no bytes before, between and behind all others are skipped; names may hold more of `>`; byte 13 is a byte of its line; a file of no
-- bytes, or of empty lines alone, has no records.
pub taken :
    map (λ file. (correct_fasta (laid_out 12 file)).output)
    ((10 ∷ 10 ∷ named 97 ++ (10 ∷ A ∷ A ∷ 10 ∷ 10 ∷ 10 ∷ C ∷ 10 ∷ 10 ∷ named 98 ++ (10 ∷ [])))
    ∷ (62 ∷ 62 ∷ 97 ∷ 62 ∷ 10 ∷ A ∷ 10 ∷ [])
    ∷ (62 ∷ 97 ∷ 13 ∷ 10 ∷ A ∷ A ∷ 13 ∷ 10 ∷ [])
    ∷ []
    ∷ (10 ∷ 10 ∷ [])
    ∷ [])
    ≡ (named 97 ++ (A ∷ A ∷ C ∷ 10 ∷ named 98 ++ replicate 2 0))
    ∷ (62 ∷ 62 ∷ 97 ∷ 62 ∷ 10 ∷ A ∷ 10 ∷ replicate 5 0)
    ∷ (62 ∷ 97 ∷ 13 ∷ 10 ∷ A ∷ A ∷ 13 ∷ 10 ∷ replicate 4 0)
    ∷ replicate 12 0
    ∷ replicate 12 0
    ∷ []
unfolding fasta_by given sample_set
taken =
    λ i. map (λ file. (fasta_for (laid_out 12 file) sample_opens.0 i).output)
    ((10 ∷ 10 ∷ named 97 ++ (10 ∷ A ∷ A ∷ 10 ∷ 10 ∷ 10 ∷ C ∷ 10 ∷ 10 ∷ named 98 ++ (10 ∷ [])))
    ∷ (62 ∷ 62 ∷ 97 ∷ 62 ∷ 10 ∷ A ∷ 10 ∷ [])
    ∷ (62 ∷ 97 ∷ 13 ∷ 10 ∷ A ∷ A ∷ 13 ∷ 10 ∷ [])
    ∷ []
    ∷ (10 ∷ 10 ∷ [])
    ∷ [])

-- No records: nothing is written, and all counts are 0.
pub no_records :
    (correct_fasta (given sample_bytes (1 ∷ 1 ∷ []) [] 0 0)).answer
    ≡ accepted (record { written = 0; turns = 0; lookups = 0; attempts = 0; accepted = 0; yield = 0; support = none; quotient = 0; remainder = 0; bases = 0 })
unfolding fasta_by given sample_set
no_records = λ i. (fasta_for (given sample_bytes (1 ∷ 1 ∷ []) [] 0 0) sample_opens.0 i).answer

-- ---- lines of 80

-- A name line of 100 bytes, and n letters in one line.
abbrev pub long : ℕ → List ℕ
long n = 62 ∷ (replicate 99 97 ++ (10 ∷ (replicate n A ++ (10 ∷ []))))

-- The name line whole; 0 letters give no line, 80 one, 160 two; the last may be shorter.
pub widths :
    map (λ n. map (text sample_set []) (records (long n))) (0 ∷ 1 ∷ 79 ∷ 80 ∷ 81 ∷ 160 ∷ [])
    ≡ map (λ lines. (62 ∷ (replicate 99 97 ++ (10 ∷ lines))) ∷ [])
    ([]
    ∷ (A ∷ 10 ∷ [])
    ∷ (replicate 79 A ++ (10 ∷ []))
    ∷ (replicate 80 A ++ (10 ∷ []))
    ∷ (replicate 80 A ++ (10 ∷ A ∷ 10 ∷ []))
    ∷ (replicate 80 A ++ (10 ∷ (replicate 80 A ++ (10 ∷ []))))
    ∷ [])
unfolding text records
widths = refl

-- ---- 6 and 18

-- n records of a name line `>` alone.
pub bare : ℕ → List ℕ
bare zero = []
bare (suc n) = 62 ∷ 10 ∷ bare n

-- 1,024 records are right, 1,025 are not, and one record of 1,025 lines is.
pub record_limit : map file_right (bare 1024 ∷ bare 1025 ∷ (62 ∷ replicate 1025 10) ∷ []) ≡ true ∷ false ∷ true ∷ []
unfolding file_right bare
record_limit = refl

-- On no set, so that all that is taken is told as 7.
abbrev pub unset : List ℕ → Given
unset file = given [] (1 ∷ 1 ∷ []) file 9 30

-- 6 before 18: no final byte 10. 18 before 7: a sequence line before the first name line, lines of no bytes counted; so is one of a byte 13 alone;
-- one that holds `>`, at its end, behind lines of no bytes and another record; the first of two. A name line may hold more of `>`.
pub file_refusals :
    map (λ file. refusal_of (correct_fasta (unset file)))
    ((A ∷ [])
    ∷ (A ∷ 10 ∷ [])
    ∷ (10 ∷ 10 ∷ A ∷ 10 ∷ named 97)
    ∷ (13 ∷ 10 ∷ named 97)
    ∷ (named 97 ++ (10 ∷ A ∷ 10 ∷ named 98 ++ (10 ∷ 10 ∷ A ∷ 62 ∷ 10 ∷ [])))
    ∷ (10 ∷ A ∷ 10 ∷ named 97 ++ (A ∷ 62 ∷ 10 ∷ []))
    ∷ (10 ∷ 62 ∷ 62 ∷ 10 ∷ A ∷ 10 ∷ [])
    ∷ [])
    ≡ some (6, 0) ∷ some (18, 0) ∷ some (18, 2) ∷ some (18, 0) ∷ some (18, 6) ∷ some (18, 1) ∷ some (7, 0) ∷ []
unfolding fasta_by given refusal_of
file_refusals =
    λ i. map (λ file. refusal_of (fasta_for (unset file) other_opens.0 i))
    ((A ∷ [])
    ∷ (A ∷ 10 ∷ [])
    ∷ (10 ∷ 10 ∷ A ∷ 10 ∷ named 97)
    ∷ (13 ∷ 10 ∷ named 97)
    ∷ (named 97 ++ (10 ∷ A ∷ 10 ∷ named 98 ++ (10 ∷ 10 ∷ A ∷ 62 ∷ 10 ∷ [])))
    ∷ (10 ∷ A ∷ 10 ∷ named 97 ++ (A ∷ 62 ∷ 10 ∷ []))
    ∷ (10 ∷ 62 ∷ 62 ∷ 10 ∷ A ∷ 10 ∷ [])
    ∷ [])

-- 18 changes no byte; 5 comes before 6; 15, then 16, before 11.
pub in_turn :
    map correct_fasta
    (unset (A ∷ 10 ∷ [])
    ∷ given [] (1 ∷ 1 ∷ []) (A ∷ []) 9 17
    ∷ record { set = sample_bytes; index = 0 ∷ []; counts = 9 ∷ []; job = []; input = named 97; output = []; work = replicate 6 1 }
    ∷ record { set = sample_bytes; index = []; counts = 9 ∷ []; job = []; input = named 97; output = []; work = replicate 6 1 }
    ∷ [])
    ≡ unchanged (unset (A ∷ 10 ∷ [])) (record { number = 18; place = 0 })
    ∷ unchanged (given [] (1 ∷ 1 ∷ []) (A ∷ []) 9 17) (record { number = 5; place = 0 })
    ∷ record { answer = refused (record { number = 15; place = 0 }); output = []; work = replicate 6 1 }
    ∷ record { answer = refused (record { number = 16; place = 0 }); output = []; work = replicate 6 1 }
    ∷ []
unfolding fasta_by given unchanged sample_set
in_turn =
    λ i. fasta_for (unset (A ∷ 10 ∷ [])) other_opens.0 i
    ∷ fasta_for (given [] (1 ∷ 1 ∷ []) (A ∷ []) 9 17) other_opens.0 i
    ∷ fasta_for (record { set = sample_bytes; index = 0 ∷ []; counts = 9 ∷ []; job = []; input = named 97; output = []; work = replicate 6 1 }) sample_opens.0 i
    ∷ fasta_for (record { set = sample_bytes; index = []; counts = 9 ∷ []; job = []; input = named 97; output = []; work = replicate 6 1 }) sample_opens.0 i
    ∷ []

-- ---- 11

-- Records a: AACC, which One mends to AACTC, so a text of 9 bytes; b: AA, a text of 6.
abbrev pub two_records : List ℕ
two_records = named 97 ++ (A ∷ A ∷ C ∷ C ∷ 10 ∷ named 98 ++ (A ∷ A ∷ 10 ∷ []))

-- The texts: 15 bytes are just enough, with 14 there is no room for b, 9 hold just a, 8 not even that.
pub text_exact :
    map (λ out. refusal_of (correct_fasta (given sample_bytes (1 ∷ 1 ∷ []) two_records out 30))) (15 ∷ 14 ∷ 9 ∷ 8 ∷ [])
    ≡ none ∷ some (11, 1) ∷ some (11, 1) ∷ some (11, 0) ∷ []
unfolding fasta_by given sample_set refusal_of
text_exact =
    λ i. map (λ out. refusal_of (fasta_for (given sample_bytes (1 ∷ 1 ∷ []) two_records out 30) sample_opens.0 i)) (15 ∷ 14 ∷ 9 ∷ 8 ∷ [])

-- 11 leaves output and work all zero.
pub text_short :
    correct_fasta (given sample_bytes (1 ∷ 1 ∷ []) two_records 14 30)
    ≡ record { answer = refused (record { number = 11; place = 1 }); output = replicate 14 0; work = replicate 30 0 }
unfolding fasta_by given sample_set
text_short = fasta_for (given sample_bytes (1 ∷ 1 ∷ []) two_records 14 30) sample_opens.0

-- AACAAAAAATCC, 12 letters, is left as it is by One with confirm 255, and Graph then makes AACTCC of it: a text of 9 bytes with the name `>`, behind
-- that of a record of 2.
abbrev pub shrinks : List ℕ
shrinks = 62 ∷ 10 ∷ 62 ∷ 10 ∷ A ∷ A ∷ C ∷ A ∷ A ∷ A ∷ A ∷ A ∷ A ∷ T ∷ C ∷ C ∷ 10 ∷ []

-- A pass result longer than what is left before the record's name line is 11 though the text would fit: 14 bytes are just enough, 13 are not.
pub pass_exact :
    map (λ out. refusal_of (correct_fasta (given sample_bytes (1 ∷ 255 ∷ 3 ∷ 1 ∷ []) shrinks out 34))) (14 ∷ 13 ∷ [])
    ≡ none ∷ some (11, 1) ∷ []
unfolding fasta_by given sample_set refusal_of
pass_exact =
    λ i. map (λ out. refusal_of (fasta_for (given sample_bytes (1 ∷ 255 ∷ 3 ∷ 1 ∷ []) shrinks out 34) sample_opens.0 i)) (14 ∷ 13 ∷ [])

pub shrunk :
    (map (text sample_set (entries_of (1 ∷ 255 ∷ 3 ∷ 1 ∷ []))) (records shrinks) ≡ (62 ∷ 10 ∷ []) ∷ (62 ∷ 10 ∷ A ∷ A ∷ C ∷ T ∷ C ∷ C ∷ 10 ∷ []) ∷ [])
    × (map (λ r. longest sample_set (entries_of (1 ∷ 255 ∷ 3 ∷ 1 ∷ [])) r.read) (records shrinks) ≡ 0 ∷ 12 ∷ [])
unfolding text longest sample_set entries_of records
shrunk = (refl, refl)
