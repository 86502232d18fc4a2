-- Document 01, "Records", Letters; document 02, W5: letters that are unknown.
use Rattle.std.specs.Prelude.{ℕ, zero, suc, ◌+◌, ◌*◌, ◌-◌, ◌/◌, ◌%◌, ◌^◌, Bool, true, false, ◌&&◌, ◌||◌, List, [], ◌∷◌, ◌++◌, get_or, eqb}
use Rattle.std.specs.Int.Count.{ones_in}

-- y is one of the list.
unfoldable pub among : ℕ → List ℕ → Bool
among y [] = false
among y (x ∷ xs) = eqb y x || among y xs

-- Only A, C, G, T, U and their lower case have a code.
unfoldable pub has_code : ℕ → Bool
unfolding among
has_code b = among b (65 ∷ 67 ∷ 71 ∷ 84 ∷ 85 ∷ 97 ∷ 99 ∷ 103 ∷ 116 ∷ 117 ∷ [])

-- Such a byte b has code (b/2) mod 4, so A, C, T, G are 0, 1, 2, 3. Any other is an unknown letter, said by 4.
unfoldable pub code : ℕ → ℕ
unfolding has_code
code b = elim (has_code b) [ true ↦ b / 2 % 4 | false ↦ 4 ]

-- Codes become letters A, C, T, G.
unfoldable pub letter : ℕ → ℕ
letter a = get_or (65 ∷ 67 ∷ 84 ∷ 71 ∷ []) a 0

-- Entry k of the table of masks is 4^k − 1 (entry 0 is 0).
unfoldable pub mask : ℕ → ℕ
mask k = 4 ^ k - 1

-- A k-mer: its code is base four, first letter highest, 0 in an unknown letter's place; unknown is base two, a 1 for each unknown letter.
pub record Kmer : Type 0 where
  pub code : ℕ
  pub unknown : ℕ

-- No letter of y is unknown.
unfoldable pub all_known : Kmer → Bool
all_known y = eqb y.unknown 0

-- Equal k-mers: the same letters, all known. One that holds an unknown letter is equal to none.
unfoldable pub same : Kmer → Kmer → Bool
unfolding all_known
same y z = all_known y && all_known z && eqb y.code z.code

-- y is equal to one of the list.
unfoldable pub met : Kmer → List Kmer → Bool
unfolding same
met y [] = false
met y (z ∷ zs) = same y z || met y zs

-- A number of k digits in a base, its first digit dropped and a last.
unfoldable pub push : ℕ → ℕ → ℕ → ℕ → ℕ
push base k y a = (base * y + a) % base ^ k

-- y+b for b's code a, 4 being an unknown letter: the first of y's k letters dropped, a last.
unfoldable pub add : ℕ → Kmer → ℕ → Kmer
unfolding push
add k y a = record { code = push 4 k y.code (a % 4); unknown = push 2 k y.unknown (a / 4) }

-- y moves right one letter, a known A in front.
unfoldable pub drop_last : Kmer → Kmer
drop_last y = record { code = y.code / 4; unknown = y.unknown / 2 }

-- y+b for a byte b.
abbrev pub add_base : ℕ → Kmer → ℕ → Kmer
add_base k y b = add k y (code b)

-- Bases added by + one after the other.
unfoldable pub add_all : ℕ → Kmer → List ℕ → Kmer
unfolding add code
add_all k y [] = y
add_all k y (b ∷ bs) = add_all k (add_base k y b) bs

-- The k-mer of a list of bases.
unfoldable pub kmer : ℕ → List ℕ → Kmer
unfolding add_all
kmer k bs = add_all k (record { code = 0; unknown = 0 }) bs

-- The last letter of y.
unfoldable pub last_letter : Kmer → ℕ
unfolding letter
last_letter y = letter (y.code % 4)

-- The last m letters of y, places beyond its first letter giving A.
unfoldable pub last : ℕ → Kmer → List ℕ
unfolding last_letter drop_last
last zero y = []
last (suc m) y = last m (drop_last y) ++ (last_letter y ∷ [])

-- Letters in place of y's last one: y moves right one letter, an A in front, and takes the letters by +.
unfoldable pub in_place : ℕ → Kmer → List ℕ → Kmer
unfolding add_all drop_last
in_place k y letters = add_all k (drop_last y) letters

-- Complement exchanges A/T and C/G.
unfoldable pub complement : ℕ → ℕ
complement a = get_or (2 ∷ 3 ∷ 0 ∷ 1 ∷ []) a 0

-- Reverse complement of y's k letters: complemented, and the order turned, so that y's last letter comes first.
unfoldable pub revcomp : ℕ → ℕ → ℕ
unfolding complement
revcomp zero y = 0
revcomp (suc k) y = complement (y % 4) * 4 ^ k + revcomp k (y / 4)

-- An even count of one bits, of the 2k that k letters have.
unfoldable pub even_ones : ℕ → ℕ → Bool
unfolding ones_in
even_ones k y = eqb (ones_in (2 * k) y % 2) 0

-- Of a k-mer and its reverse complement the canonical one has an even count of one bits; k is odd, so there is just one.
unfoldable pub canonical : ℕ → ℕ → ℕ
unfolding revcomp even_ones
canonical k y = elim (even_ones k y) [ true ↦ y | false ↦ revcomp k y ]
