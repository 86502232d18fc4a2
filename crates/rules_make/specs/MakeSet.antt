-- Document 02, W3: the set file made from k-mer counts as text; and W8: the list of the kept keys' counts beside it.
use Rattle.std.specs.Prelude.{ℕ, suc, ◌+◌, ◌*◌, ◌-◌, min, Bool, true, false, ◌&&◌, ◌||◌, not, List, [], ◌∷◌, length, get_or, take, eqb, ltb, leb}
use Rattle.std.proofs.Math.Option.{Option, none, some}
use Rattle.std.proofs.Math.Seq.{slice}
use Rattle.rules.specs.Letters.{kmer, canonical}
use Rattle.rules.specs.Refusal.{Refusal, Outcome, accepted, refused, Check, ◌or_else◌, unless}
use Rattle.rules.specs.Set.{max_keys, k_right}
use Rattle.rules.specs.Blocks.{set_blocks, fits, filled}

-- ---- the text's lines

-- A byte in front of the first line.
unfoldable pub in_front : ℕ → List (List ℕ) → List (List ℕ)
in_front b [] = (b ∷ []) ∷ []
in_front b (line ∷ rest) = (b ∷ line) ∷ rest

-- The lines, each with the byte 10 that ends it; what stands behind the last byte 10 is a line without one.
unfoldable pub text_lines : List ℕ → List (List ℕ)
unfolding in_front
text_lines [] = []
text_lines (b ∷ bs) = elim (eqb b 10) [ true ↦ (b ∷ []) ∷ text_lines bs | false ↦ in_front b (text_lines bs) ]

-- ---- a line's form

-- One of the letters A, C, G, T.
unfoldable pub is_letter : ℕ → Bool
is_letter b = eqb b 65 || eqb b 67 || eqb b 71 || eqb b 84

unfoldable pub is_digit : ℕ → Bool
is_digit b = leb 48 b && leb b 57

-- Every byte passes the test.
unfoldable pub all : (ℕ → Bool) → List ℕ → Bool
all ok [] = true
all ok (b ∷ bs) = ok b && all ok bs

-- What stands between the comma and the line's last byte.
unfoldable pub digits : ℕ → List ℕ → List ℕ
digits k line = slice (k + 1) (length line - 1) line

-- A line is k letters from A, C, G, T, a comma, and a count of 1 to 10 digits, ended by byte 10.
unfoldable pub form_right : ℕ → List ℕ → Bool
unfolding all is_letter is_digit digits
form_right k line =
    leb 1 (length (digits k line)) && leb (length (digits k line)) 10
    && all is_letter (take k line)
    && eqb (get_or line k 0) 44
    && all is_digit (digits k line)
    && eqb (get_or line (length line - 1) 0) 10

-- ---- a line's code and count

-- The number of a list of digits, behind a number that the digits before them gave.
unfoldable pub number : ℕ → List ℕ → ℕ
number before [] = before
number before (d ∷ ds) = number (10 * before + (d - 48)) ds

unfoldable pub line_count : ℕ → List ℕ → ℕ
unfolding number digits
line_count k line = number 0 (digits k line)

-- The canonical code of a line's k letters.
unfoldable pub line_key : ℕ → List ℕ → ℕ
unfolding canonical kmer
line_key k line = canonical k (kmer k (take k line)).code

-- Lines whose count is below the least count are passed over.
unfoldable pub kept : ℕ → ℕ → List ℕ → Bool
unfolding line_count
kept k least line = leb least (line_count k line)

unfoldable pub kept_lines : ℕ → ℕ → List (List ℕ) → List (List ℕ)
unfolding kept
kept_lines k least [] = []
kept_lines k least (line ∷ rest) = elim (kept k least line) [ true ↦ line ∷ kept_lines k least rest | false ↦ kept_lines k least rest ]

-- The codes of lines.
unfoldable pub line_keys : ℕ → List (List ℕ) → List ℕ
unfolding line_key
line_keys k [] = []
line_keys k (line ∷ rest) = line_key k line ∷ line_keys k rest

-- The keys that a text gives: the kept lines' canonical codes in file order.
unfoldable pub text_keys : ℕ → ℕ → List ℕ → List ℕ
unfolding line_keys kept_lines text_lines
text_keys k least text = line_keys k (kept_lines k least (text_lines text))

-- The largest 32-bit number: larger counts are held at it.
abbrev pub max_count : ℕ
max_count = 4294967295

-- The counts of lines.
unfoldable pub line_counts : ℕ → List (List ℕ) → List ℕ
unfolding line_count
line_counts k [] = []
line_counts k (line ∷ rest) = min (line_count k line) max_count ∷ line_counts k rest

-- The counts that a text gives: one for each kept key, in the keys' order.
unfoldable pub text_counts : ℕ → ℕ → List ℕ → List ℕ
unfolding line_counts kept_lines text_lines
text_counts k least text = line_counts k (kept_lines k least (text_lines text))

-- ---- 12 and 13

-- Refusal r at a place unless the test holds.
unfoldable pub unless_at : Bool → ℕ → ℕ → Check
unless_at true r place = none
unless_at false r place = some (record { number = r; place = place })

-- A code rises strictly above the kept one before it; the first kept one may be any.
unfoldable pub rises_from : Option ℕ → ℕ → Bool
rises_from none key = true
rises_from (some before) key = ltb before key

-- A line: 12 when it breaks the form, passed over or not; then 13 when its code is kept and doesn't rise.
unfoldable pub line_check : ℕ → ℕ → ℕ → Option ℕ → List ℕ → Check
unfolding unless_at form_right kept line_key rises_from ◌or_else◌
line_check k least place before line =
    unless_at (form_right k line) 12 place or_else (let c = unless_at (not (kept k least line) || rises_from before (line_key k line)) 13 place in c)

-- The last kept code, a line later.
unfoldable pub last_kept : ℕ → ℕ → Option ℕ → List ℕ → Option ℕ
unfolding kept line_key
last_kept k least before line = elim (kept k least line) [ true ↦ some (line_key k line) | false ↦ before ]

-- The lines in file order, from line `place` on, behind the last kept code.
unfoldable pub lines_check : ℕ → ℕ → ℕ → Option ℕ → List (List ℕ) → Check
unfolding line_check last_kept ◌or_else◌
lines_check k least place before [] = none
lines_check k least place before (line ∷ rest) =
    line_check k least place before line or_else (let c = lines_check k least (suc place) (last_kept k least before line) rest in c)

-- ---- the call

-- 9 for a k outside 01's limits before any line, 12 and 13 line by line, 9 for too many keys after the last line.
unfoldable pub text_check : List ℕ → ℕ → ℕ → Check
unfolding lines_check text_lines text_keys unless ◌or_else◌
text_check text k least =
    unless (k_right k) 9
    or_else (let c = lines_check k least 0 none (text_lines text) in c)
    or_else (let c = unless (leb (length (text_keys k least text)) max_keys) 9 in c)

-- What the call answers, the length of the blocks in bytes or a refusal; every byte of the lent blocks and every number of the lent counts afterwards.
pub record SetMade : Type 0 where
  pub answer : Outcome ℕ
  pub blocks : List ℕ
  pub counts : List ℕ

-- A refusal leaves both unchanged.
unfoldable pub set_unmade : List ℕ → List ℕ → Refusal → SetMade
set_unmade blocks counts r = record { answer = refused r; blocks = blocks; counts = counts }

-- Bytes laid into the lent blocks and a list into the lent counts, the rest of both zeroed; 14 when either is too short, checked last.
unfoldable pub both_laid : List ℕ → List ℕ → List ℕ → List ℕ → SetMade
unfolding set_unmade fits filled
both_laid blocks counts bytes list =
    elim (fits blocks bytes && fits counts list) [
      | true ↦ record { answer = accepted (length bytes); blocks = filled blocks bytes; counts = filled counts list }
      | false ↦ set_unmade blocks counts (record { number = 14; place = 0 })
    ]

-- The set file and the counts of its keys made from a text, for k and the least count, in lent blocks and a lent list of counts.
unfoldable pub make_set : List ℕ → ℕ → ℕ → List ℕ → List ℕ → SetMade
unfolding text_check text_keys text_counts set_blocks set_unmade both_laid
make_set text k least blocks counts =
    elim (text_check text k least) [
      | some r ↦ set_unmade blocks counts r
      | none ↦ both_laid blocks counts (set_blocks k (text_keys k least text)) (text_counts k least text)
    ]
