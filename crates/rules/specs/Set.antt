-- Document 01, "Records", Set, and refusals 7 to 10; document 02, W7: a lookup may go by an index, W8: it answers the key's index, and keys
-- may have counts.
use Rattle.std.specs.Prelude.{ℕ, zero, suc, ◌+◌, ◌*◌, ◌-◌, ◌/◌, ◌%◌, ◌^◌, min, Bool, true, false, not, ◌&&◌, ◌||◌, List, [], ◌∷◌, length, get_or, drop, eqb, ltb, leb}
use Rattle.std.proofs.Math.Option.{Option, none, some}
use Rattle.std.proofs.Math.Seq.{slice}
use Rattle.rules.specs.Letters.{Kmer, canonical}
use Rattle.rules.specs.Refusal.{Outcome, accepted, refused, Check, ◌or_else◌, unless, at_place, first_failing}

-- The largest k and the largest n.
abbrev pub max_k : ℕ
max_k = 31

abbrev pub max_keys : ℕ
max_keys = 16777216

-- ---- words

-- A little-endian number of m bytes.
unfoldable pub little : ℕ → List ℕ → ℕ
little zero bs = 0
little (suc m) bs = get_or bs 0 0 + 256 * little m (drop 1 bs)

-- Word i of a list of bytes: little-endian, 64 bits.
unfoldable pub word : List ℕ → ℕ → ℕ
unfolding little
word bytes i = little 8 (drop (8 * i) bytes)

-- Word i of block b: a block is 512 bytes, 63 words and a check word.
unfoldable pub block_word : List ℕ → ℕ → ℕ → ℕ
unfolding word
block_word bytes b i = word bytes (64 * b + i)

-- ---- a set and its lookups

-- A set: k, its keys, and what is offered with it: the bytes of an index, and the keys' counts (empty: not offered).
pub record KmerSet : Type 0 where
  pub k : ℕ
  pub keys : List ℕ
  pub index : List ℕ
  pub counts : List ℕ

-- The set with an index and counts offered.
unfoldable pub offering : List ℕ → List ℕ → KmerSet → KmerSet
offering index counts set = record { k = set.k; keys = set.keys; index = index; counts = counts }

-- m is the smaller of 6 and k.
abbrev pub first_letters : ℕ → ℕ
first_letters k = min 6 k

-- The code of the first m letters of y's k letters.
unfoldable pub first_code : ℕ → ℕ → ℕ
first_code k y = y / 4 ^ (k - first_letters k)

-- Entry v as the bytes of an index say it: 63 entries to a block.
unfoldable pub entry_in : List ℕ → ℕ → ℕ
unfolding block_word
entry_in index v = block_word index (v / 63) (v % 63)

-- Entries v and v + 1 of the offered index, v being the code of a canonical code's first m letters.
unfoldable pub range_start : KmerSet → ℕ → ℕ
unfolding first_code entry_in
range_start s key = entry_in s.index (first_code s.k key)

unfoldable pub range_end : KmerSet → ℕ → ℕ
unfolding first_code entry_in
range_end s key = entry_in s.index (suc (first_code s.k key))

-- The number of the first key that a lookup of a canonical code looks at, and the keys that it looks at: all; with an index only those
-- numbered from entry v up to, not including, entry v + 1.
unfoldable pub first_for : KmerSet → ℕ → ℕ
unfolding range_start
first_for s key = elim s.index [ [] ↦ 0 | b ∷ bs ↦ range_start s key ]

unfoldable pub keys_for : KmerSet → ℕ → List ℕ
unfolding range_start range_end
keys_for s key = elim s.index [ [] ↦ s.keys | b ∷ bs ↦ slice (range_start s key) (range_end s key) s.keys ]

-- The number of a key in a list whose first has number i, or none.
unfoldable pub number_from : ℕ → ℕ → List ℕ → Option ℕ
number_from i key [] = none
number_from i key (x ∷ xs) = elim (eqb key x) [ true ↦ some i | false ↦ number_from (suc i) key xs ]

-- A lookup of a code answers the index among the n of the key that is its canonical code, or that there is none.
unfoldable pub lookup : KmerSet → ℕ → Option ℕ
unfolding canonical number_from first_for keys_for
lookup s y = (let key : ℕ = canonical s.k y in number_from (first_for s key) key (keys_for s key))

-- No index was found.
unfoldable pub is_none : Option ℕ → Bool
is_none none = true
is_none (some i) = false

-- A code is solid when its canonical code is a key; asking once is one lookup.
unfoldable pub solid : KmerSet → ℕ → Bool
unfolding lookup is_none
solid s y = not (is_none (lookup s y))

-- A k-mer's count is its canonical key's.
unfoldable pub count_of : KmerSet → Kmer → ℕ
unfolding lookup
count_of s y = elim (lookup s y.code) [ none ↦ 0 | some i ↦ get_or s.counts i 0 ]

-- ---- blocks

-- How many whole blocks there are.
unfoldable pub blocks : List ℕ → ℕ
blocks bytes = length bytes / 512

-- The first m words of block b, added.
unfoldable pub sum_words : List ℕ → ℕ → ℕ → ℕ
unfolding block_word
sum_words bytes b zero = 0
sum_words bytes b (suc i) = sum_words bytes b i + block_word bytes b i

-- Block b's check: its 63 words plus its number plus 1, the sum wrapping at 2^64.
unfoldable pub check : List ℕ → ℕ → ℕ
unfolding sum_words
check bytes b = (sum_words bytes b 63 + b + 1) % 2 ^ 64

-- Block 0: word 0 is k, word 1 is n, the rest zero.
unfoldable pub header_k : List ℕ → ℕ
unfolding block_word
header_k bytes = block_word bytes 0 0

unfoldable pub header_n : List ℕ → ℕ
unfolding block_word
header_n bytes = block_word bytes 0 1

-- Word i of the key blocks, check words not counted.
unfoldable pub key_word : List ℕ → ℕ → ℕ
unfolding block_word
key_word bytes i = block_word bytes (1 + i / 63) (i % 63)

-- m keys from word i of the key blocks on.
unfoldable pub keys_from : List ℕ → ℕ → ℕ → List ℕ
unfolding key_word
keys_from bytes i zero = []
keys_from bytes i (suc m) = key_word bytes i ∷ keys_from bytes (suc i) m

-- The set that a list of bytes says: k, and the first n words of the key blocks; nothing is offered with it.
unfoldable pub set_of : List ℕ → KmerSet
unfolding header_k header_n keys_from
set_of bytes = record { k = header_k bytes; keys = keys_from bytes 0 (header_n bytes); index = []; counts = [] }

-- ---- opening

-- Refused with 7: length 0 or not a multiple of 512.
unfoldable pub length_right : List ℕ → Bool
length_right bytes = ltb 0 (length bytes) && eqb (length bytes % 512) 0

-- Refused with 8: a wrong check.
unfoldable pub check_right : List ℕ → ℕ → Bool
unfolding check
check_right bytes b = eqb (block_word bytes b 63) (check bytes b)

-- k is odd, from 1 to 31.
abbrev pub k_right : ℕ → Bool
k_right k = eqb (k % 2) 1 && leb k max_k

-- Refused with 9: k not odd from 1 to 31, n too large, a header word not zero, or a wrong block count (1 + ceil(n/63) is right).
unfoldable pub header_right : List ℕ → Bool
unfolding header_k header_n first_failing is_none blocks
header_right bytes =
    k_right (header_k bytes)
    && leb (header_n bytes) max_keys
    && is_none (first_failing (λ i. eqb (block_word bytes 0 i) 0) 2 61)
    && eqb (blocks bytes) (1 + (header_n bytes + 62) / 63)

-- Refused with 10: a key not canonical, too large or not rising, or a spare word not zero.
unfoldable pub key_right : List ℕ → ℕ → Bool
unfolding key_word canonical header_k header_n
key_right bytes i =
    elim (ltb i (header_n bytes)) [
      | true ↦ eqb (canonical (header_k bytes) (key_word bytes i)) (key_word bytes i)
          && ltb (key_word bytes i) (4 ^ header_k bytes)
          && (eqb i 0 || ltb (key_word bytes (i - 1)) (key_word bytes i))
      | false ↦ eqb (key_word bytes i) 0
    ]

-- The checks of a set, in order, each with its place.
unfoldable pub set_check : List ℕ → Check
unfolding unless at_place first_failing length_right check_right header_right key_right blocks ◌or_else◌
set_check bytes =
    unless (length_right bytes) 7
    or_else (let c = at_place 8 (first_failing (check_right bytes) 0 (blocks bytes)) in c)
    or_else (let c = unless (header_right bytes) 9 in c)
    or_else (let c = at_place 10 (first_failing (key_right bytes) 0 (63 * (blocks bytes - 1))) in c)

-- Opening a list of bytes: k and the n keys, or the refusal.
unfoldable pub opened : List ℕ → Outcome KmerSet
unfolding set_check set_of
opened bytes = elim (set_check bytes) [ none ↦ accepted (set_of bytes) | some r ↦ refused r ]
