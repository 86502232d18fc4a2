-- Document 02, W12: other programs' mends.
use Rattle.std.specs.Prelude.{ℕ, zero, suc, ◌+◌, ◌*◌, ◌-◌, ◌/◌, ◌≤◌, ◌<◌, ◌≡◌, Bool, true, false, ◌&&◌, ◌↔◌, List, [], ◌++◌, length, get_or, take, drop, eqb, ltb, leb}
use Rattle.std.proofs.Math.Option.{Option, none, some}
use Rattle.rules.specs.Letters.{Kmer, kmer}
use Rattle.rules.specs.Refusal.{Outcome, accepted, refused, Check, ◌or_else◌, unless, at_place, first_failing}
use Rattle.rules.specs.Set.{KmerSet, is_none, solid, opened}
use Rattle.rules.specs.Scan.{ask}
use Rattle.rules.specs.Index.{same_bytes}
use Rattle.rules.specs.Calls.{max_read}

-- A sheet: a read, the partner's corrected read, the edits' numbers, and all letters in one list.
pub record Sheet : Type 0 where
  pub read : List ℕ
  pub mended : List ℕ
  pub numbers : List ℕ
  pub letters : List ℕ

abbrev pub sheet : List ℕ → List ℕ → List ℕ → List ℕ → Sheet
sheet read mended numbers letters = record { read = read; mended = mended; numbers = numbers; letters = letters }

-- ---- edits

-- How many edits there are; the last may have fewer than three numbers.
unfoldable pub count : Sheet → ℕ
count s = (length s.numbers + 2) / 3

-- An edit is three numbers: position (from 0), bases taken, letters given.
unfoldable pub position : Sheet → ℕ → ℕ
position s i = get_or s.numbers (3 * i) 0

unfoldable pub taken : Sheet → ℕ → ℕ
taken s i = get_or s.numbers (3 * i + 1) 0

unfoldable pub given : Sheet → ℕ → ℕ
given s i = get_or s.numbers (3 * i + 2) 0

-- An edit's end in the read.
unfoldable pub end_of : Sheet → ℕ → ℕ
unfolding position taken
end_of s i = position s i + taken s i

-- The letters that the edits before i give.
unfoldable pub letters_to : Sheet → ℕ → ℕ
unfolding given
letters_to s zero = 0
letters_to s (suc i) = letters_to s i + given s i

-- ---- the read with all edits made

-- The bases kept before edit i begin behind the edit before it.
unfoldable pub kept_from : Sheet → ℕ → ℕ
unfolding end_of
kept_from s zero = 0
kept_from s (suc i) = end_of s i

unfoldable pub kept : Sheet → ℕ → List ℕ
unfolding kept_from position
kept s i = take (position s i - kept_from s i) (drop (kept_from s i) s.read)

-- An edit's letters.
unfoldable pub letters_of : Sheet → ℕ → List ℕ
unfolding letters_to given
letters_of s i = take (given s i) (drop (letters_to s i) s.letters)

-- As far as the letters of the edit before i.
unfoldable pub made_to : Sheet → ℕ → List ℕ
unfolding kept letters_of
made_to s zero = []
made_to s (suc i) = made_to s i ++ (kept s i ++ letters_of s i)

-- The bases behind the last edit.
unfoldable pub rest : Sheet → List ℕ
unfolding kept_from count
rest s = drop (kept_from s (count s)) s.read

unfoldable pub made : Sheet → List ℕ
unfolding made_to count rest
made s = made_to s (count s) ++ rest s

-- Where edit i's letters begin in it, or would.
unfoldable pub start : Sheet → ℕ → ℕ
unfolding made_to kept
start s i = length (made_to s i) + length (kept s i)

-- The k-mer of the last k of the first n bases.
unfoldable pub kmer_to : ℕ → List ℕ → ℕ → Kmer
unfolding kmer
kmer_to k bases n = kmer k (take k (drop (n - k) bases))

-- ---- the judgements

-- Of two edits that don't strictly rise or that overlap (the later begins before the earlier's end), the later offends.
unfoldable pub behind : Sheet → ℕ → Bool
unfolding position end_of
behind s zero = true
behind s (suc i) = ltb (position s i) (position s (suc i)) && leb (end_of s i) (position s (suc i))

-- First: three numbers, position at least k, end at most the read's length less 1, letters not past the list's end, rising and apart.
unfoldable pub formed : ℕ → Sheet → ℕ → Bool
unfolding position end_of letters_to behind
formed k s i =
    leb (3 * i + 3) (length s.numbers)
    && leb k (position s i)
    && ltb (end_of s i) (length s.read)
    && leb (letters_to s (suc i)) (length s.letters)
    && behind s i

-- Second: in the read with all edits made each k-mer is solid whose last base is the one before the edit, one of its letters, or the one
-- after. One that holds an unknown letter isn't (W5).
unfoldable pub supported : ℕ → (ℕ → Bool) → Sheet → ℕ → Bool
unfolding is_none first_failing ask kmer_to made start given
supported k sol s i = is_none (first_failing (λ n. (ask sol (kmer_to k (made s) n)).answer) (start s i) (given s i + 2))

-- Third: the edits turn the first into the second, byte for byte; letters left over are a joining that differs.
unfoldable pub joins : Sheet → Bool
unfolding same_bytes made letters_to count
joins s = same_bytes (made s) s.mended && eqb (letters_to s (count s)) (length s.letters)

-- The number of edits, if the joining differs.
unfoldable pub differs : Sheet → Option ℕ
unfolding joins count
differs s = elim (joins s) [ true ↦ none | false ↦ some (count s) ]

-- 19: the first offending edit of the first failing judgement, or the number of edits if only the joining differs.
unfoldable pub judge : ℕ → (ℕ → Bool) → Sheet → Check
unfolding at_place first_failing formed supported differs count ◌or_else◌
judge k sol s =
    at_place 19 (first_failing (formed k s) 0 (count s))
    or_else (let c = at_place 19 (first_failing (supported k sol s) 0 (count s)) in c)
    or_else (let c = at_place 19 (differs s) in c)

-- ---- the call

-- 1 for either read, then 7 to 10 for the set, then 19. No refusal means that the sheet is accepted.
unfoldable pub check_by : Outcome KmerSet → Sheet → Check
unfolding unless ◌or_else◌ judge
check_by opening s =
    unless (leb (length s.read) max_read) 1
    or_else unless (leb (length s.mended) max_read) 1
    or_else elim opening [ refused r ↦ some r | accepted set ↦ judge set.k (solid set) s ]

unfoldable pub check_edits : List ℕ → Sheet → Check
unfolding check_by opened
check_edits bytes s = check_by (opened bytes) s

-- ---- what a sheet must be, whoever made it

pub record Right (k : ℕ) (sol : ℕ → Bool) (s : Sheet) : Type 0 where
  -- three numbers for each edit
  pub whole : length s.numbers ≡ 3 * count s
  pub low : (i : ℕ) → i < count s → k ≤ position s i
  -- the read's last base is not taken
  pub high : (i : ℕ) → i < count s → position s i + taken s i < length s.read
  -- positions rising and not overlapping, of any two edits
  pub rising : (i j : ℕ) → i < j → j < count s → position s i < position s j
  pub apart : (i j : ℕ) → i < j → j < count s → position s i + taken s i ≤ position s j
  -- as many letters given as there are: none is missing, none left over
  pub all_letters : letters_to s (count s) ≡ length s.letters
  -- where the last base is the one before an edit, one of its letters, or the one after: no letter of the k-mer is unknown, and it is solid
  pub solid_there : (i n : ℕ) → i < count s → start s i ≤ n → n ≤ start s i + given s i + 1
      → ((kmer_to k (made s) n).unknown ≡ 0) × (sol (kmer_to k (made s) n).code ≡ true)
  -- the edits turn the first into the second
  pub joined : made s ≡ s.mended

-- Both reads are within the limit, the set opens, and the sheet is right.
pub record Acceptable (bytes : List ℕ) (s : Sheet) : Type 0 where
  pub read_fits : length s.read ≤ max_read
  pub mended_fits : length s.mended ≤ max_read
  pub set : KmerSet
  pub opens : opened bytes ≡ accepted set
  pub right : Right set.k (solid set) s

-- The theorem `accepted-right`: acceptance means just that, and each sheet with these properties is accepted.
abbrev pub AcceptedRight : Type 0
AcceptedRight = (bytes : List ℕ) (s : Sheet) → (check_edits bytes s ≡ none) ↔ Acceptable bytes s
