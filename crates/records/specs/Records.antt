-- What the functions ask and give, in the rules' terms.
use Rattle.std.specs.Prelude.{ℕ, ◌+◌, ◌≤◌, ◌≡◌, true, false, List, [], ◌∷◌, ◌++◌, length, take, ltb, Result, Ok, Err, Option, None, Some}
use denote.Ref.{Bor}
use Rattle.input.specs.declared.BatchLines.{BatchLines}
use Rattle.input.specs.Input.{bytes_left, lines_left}
use Rattle.std.proofs.Math.Option as Math
use Rattle.std.proofs.Math.Option.{some}
use Rattle.rules.specs.Refusal.{Check, ◌or_else◌, unless, at_place}
use Rattle.rules.specs.Job.{lines}
use Rattle.rules_fasta.specs.Fasta.{Record, is_name, joined, records_of, file_right, first_wrong}
use Rattle.records.specs.declared.Joined.{Joined}
use Rattle.records.specs.declared.Seen.{Seen}

-- 6, then 18.
abbrev pub file_check : List ℕ → Check
file_check file = unless (file_right file) 6 or_else at_place 18 (first_wrong false 0 (lines file))

-- The number of the lines seen, or of the first wrong one.
abbrev pub line_of : Result ℕ ℕ → ℕ
line_of (Ok i) = i
line_of (Err i) = i

-- 18, by what is seen of the first lines and by those that are left.
abbrev pub wrong_behind : Seen → List (List ℕ) → Math.Option ℕ
wrong_behind s ls = elim s.lines [ Ok i ↦ first_wrong (ltb 0 s.records) i ls | Err i ↦ some i ]

-- A line more: whatever lines are left behind it, records and 18 are as before.
pub record SeenWith (s : Seen) (line : List ℕ) (r : Seen) : Type 0 where
  pub counted : (ls : List (List ℕ)) → r.records + length (records_of ls) ≡ s.records + length (records_of (line ∷ ls))
  pub judged : (ls : List (List ℕ)) → wrong_behind r ls ≡ wrong_behind s (line ∷ ls)
  pub few : r.records ≤ s.records + 1
  pub near : line_of r.lines ≤ line_of s.lines + 1

-- All lines are seen but those that are left.
pub record SeenIn (file : List ℕ) (left : List (List ℕ)) (s : Seen) : Type 0 where
  pub counted : length (records_of (lines file)) ≡ s.records + length (records_of left)
  pub judged : first_wrong false 0 (lines file) ≡ wrong_behind s left
  pub few : s.records + length left ≤ length (lines file)
  pub near : line_of s.lines + length left ≤ length (lines file)

-- The records from a name line on, by the lines behind it; none where there is no name line.
abbrev pub records_at : Option (Bor (List ℕ)) → List (List ℕ) → List Record
records_at None ls = []
records_at (Some name) ls = record { name = name.now; read = joined ls } ∷ records_of ls

abbrev pub name_length : Option (Bor (List ℕ)) → ℕ
name_length None = 0
name_length (Some name) = length name.now

-- The line answered starts with `>`; where none is, no line is left.
abbrev pub StopsAt : Option (Bor (List ℕ)) → List (List ℕ) → Type 0
StopsAt None left = left ≡ []
StopsAt (Some name) left = is_name name.now ≡ true

-- Some bytes, and then those left.
abbrev pub EndsWith : List ℕ → List ℕ → Type 0
EndsWith bytes left = (before : List ℕ) × (bytes ≡ before ++ left)

-- The lines up to the next name line stand joined at the front of the work buffer; that line is answered, and those behind it are left.
pub record JoinedIs (old new : BatchLines) (work : List ℕ) (r : Joined) : Type 0 where
  pub read : take r.read work ≡ joined (lines_left old)
  pub rest : records_of (lines_left old) ≡ records_at r.name (lines_left new)
  pub short : r.read + name_length r.name + length (bytes_left new) ≤ length (bytes_left old)
  pub stops : StopsAt r.name (lines_left new)
  pub inside : EndsWith (bytes_left old) (bytes_left new)
