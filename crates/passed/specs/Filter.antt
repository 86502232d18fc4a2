-- The bit filter: two bits in each of two words of a code, and the (k−1)-mers of a walk put in.
use Rattle.std.specs.Prelude.{ℕ, ◌*◌, ◌-◌, ◌/◌, ◌%◌, ◌^◌, ◌≡◌, Bool, true, false, List, [], ◌∷◌, ◌++◌, length, get_or}
use Rattle.std.specs.Int.Bits.{bit_and, bit_or, bit_xor}
use Rattle.rules.specs.Letters.{Kmer, met}
use Rattle.passed.specs.declared.Met.{Met}

-- A k-mer's first k − 1 letters, and its last.
abbrev pub all_but_last : Kmer → ℕ
all_but_last y = y.code / 4

abbrev pub suffix : ℕ → Kmer → ℕ
suffix k y = y.code % 4 ^ (k - 1)

-- A code, mixed and spread out.
abbrev pub mixed : ℕ → ℕ
mixed code = bit_xor (code % 4294967296 * 2654435761) (code / 2 ^ 32 * 2246822519)

abbrev pub hash_of : ℕ → ℕ
hash_of code = bit_xor (mixed code) (mixed code / 2 ^ 29) % 4294967296 * 3266489917

-- The place of a word among len.
abbrev pub slot_of : ℕ → ℕ → ℕ
slot_of hash len = bit_and hash (len - 1)

-- Two bits of a word.
abbrev pub bits_of : ℕ → ℕ
bits_of hash = bit_or (1 * 2 ^ (hash % 64) % 2 ^ 64) (1 * 2 ^ (hash / 2 ^ 6 % 64) % 2 ^ 64)

-- These bits are set in that word.
unfoldable pub Has : List ℕ → ℕ → ℕ → Type 0
Has filter hash bits = bit_and (get_or filter (slot_of hash (length filter)) 0) bits ≡ bits

-- All bits of a code are set.
pub record In (filter : List ℕ) (code : ℕ) : Type 0 where
  pub one : Has filter (hash_of code / 2 ^ 42) (bits_of (hash_of code / 2 ^ 18))
  pub other : Has filter (hash_of code) (bits_of (hash_of code / 2 ^ 30))

-- Bits are set, and none is cleared. The answer is no only where they were not all set.
pub record BitsSet (filter filter' : List ℕ) (hash bits : ℕ) (r : Bool) : Type 0 where
  pub same : length filter' ≡ length filter
  pub now_has : Has filter' hash bits
  pub kept : (h b : ℕ) → Has filter h b → Has filter' h b
  pub new : r ≡ false → Has filter hash bits → ⊥

-- A code is put in, and none goes out. The answer is no only where it was not in.
pub record Noted (filter filter' : List ℕ) (code : ℕ) (r : Bool) : Type 0 where
  pub same : length filter' ≡ length filter
  pub now_in : In filter' code
  pub kept : (z : ℕ) → In filter z → In filter' z
  pub new : r ≡ false → In filter code → ⊥

-- The filter has the first and the last k − 1 letters of all k-mers passed, and w, the last of the latest; before is false only if none of
-- them begins with w.
pub record Covers (k : ℕ) (filter : List ℕ) (ys : List Kmer) (w : ℕ) (before : Bool) : Type 0 where
  pub begins : (z : Kmer) → met z ys ≡ true → In filter (all_but_last z)
  pub ends : (z : Kmer) → met z ys ≡ true → In filter (suffix k z)
  pub latest : In filter w
  pub new : before ≡ false → (z : Kmer) → met z ys ≡ true → all_but_last z ≡ w → ⊥

-- x is the only k-mer passed.
pub record Begun (k : ℕ) (filter filter' : List ℕ) (x : Kmer) (before : Bool) : Type 0 where
  pub same : length filter' ≡ length filter
  pub covers : Covers k filter' (x ∷ []) (suffix k x) before

-- Whether the next k-mer is one of those passed, and it is passed too.
pub record Asked (k : ℕ) (filter filter' : List ℕ) (ys : List Kmer) (y : Kmer) (r : Met) : Type 0 where
  pub is : r.repeats ≡ met y ys
  pub same : length filter' ≡ length filter
  pub covers : Covers k filter' (ys ++ (y ∷ [])) (suffix k y) r.maybe
