-- Document 01, "Sample reads", the program: what it prints for the files that it reads; document 02, W1.
use Rattle.std.specs.Prelude.{ℕ, zero, suc, ◌+◌, ◌/◌, ◌%◌, true, false, List, [], ◌∷◌, ◌++◌, length, take, replicate, eqb, ltb, leb}
use Rattle.std.proofs.Math.Option.{Option, none, some}
use Rattle.rules.specs.Refusal.{Refusal, accepted, refused}
use Rattle.rules.specs.Report.{Report}
use Rattle.rules.specs.Calls.{Given, After, correct_batch}

-- ---- text, as bytes

-- The byte of a digit.
abbrev pub digit : ℕ → ℕ
digit d = 48 + d

-- The decimal digits of a number, most significant first: those of its tenth and then the last one. A number has no more digits than `steps`, which
-- begins at the number itself.
unfoldable pub decimal_in : ℕ → ℕ → List ℕ
decimal_in zero n = digit n ∷ []
decimal_in (suc steps) n =
    elim (ltb n 10) [
      | true ↦ digit n ∷ []
      | false ↦ decimal_in steps (n / 10) ++ (digit (n % 10) ∷ [])
    ]

unfoldable pub decimal : ℕ → List ℕ
unfolding decimal_in
decimal n = decimal_in n n

-- `bad file`
abbrev pub bad_file_word : List ℕ
bad_file_word = 98 ∷ 97 ∷ 100 ∷ 32 ∷ 102 ∷ 105 ∷ 108 ∷ 101 ∷ []

-- `refused `
abbrev pub refused_word : List ℕ
refused_word = 114 ∷ 101 ∷ 102 ∷ 117 ∷ 115 ∷ 101 ∷ 100 ∷ 32 ∷ []

-- ` place `
abbrev pub place_word : List ℕ
place_word = 32 ∷ 112 ∷ 108 ∷ 97 ∷ 99 ∷ 101 ∷ 32 ∷ []

-- `turns `
abbrev pub turns_word : List ℕ
turns_word = 116 ∷ 117 ∷ 114 ∷ 110 ∷ 115 ∷ 32 ∷ []

-- ` lookups `
abbrev pub lookups_word : List ℕ
lookups_word = 32 ∷ 108 ∷ 111 ∷ 111 ∷ 107 ∷ 117 ∷ 112 ∷ 115 ∷ 32 ∷ []

-- ` written `
abbrev pub written_word : List ℕ
written_word = 32 ∷ 119 ∷ 114 ∷ 105 ∷ 116 ∷ 116 ∷ 101 ∷ 110 ∷ 32 ∷ []

-- ---- what is printed for an answer

-- `bad file`, on a line.
abbrev pub bad_file : List ℕ
bad_file = bad_file_word ++ (10 ∷ [])

-- `refused R place P`
unfoldable pub refusal_line : Refusal → List ℕ
unfolding decimal
refusal_line r = (refused_word ++ decimal r.number) ++ ((place_word ++ decimal r.place) ++ (10 ∷ []))

-- `turns T lookups L written w_of`
unfoldable pub counts_line : Report → List ℕ
unfolding decimal
counts_line r =
    (turns_word ++ decimal r.turns)
    ++ ((lookups_word ++ decimal r.lookups) ++ ((written_word ++ decimal r.written) ++ (10 ∷ [])))

-- Accepted: the bytes written, which are the corrected lines, and the counts. Refused: the refusal only.
unfoldable pub printed_for : After → List ℕ
unfolding refusal_line counts_line
printed_for after =
    elim after.answer [
      | accepted r ↦ take r.written after.output ++ counts_line r
      | refused r ↦ refusal_line r
    ]

-- ---- the files

-- A file is its bytes, or none where it is missing or cannot be read to its end.
pub record Files : Type 0 where
  pub set : Option (List ℕ)
  pub job : Option (List ℕ)
  pub batch : Option (List ℕ)

-- Not over a number of bytes, or none.
unfoldable pub up_to : ℕ → Option (List ℕ) → Option (List ℕ)
up_to most none = none
up_to most (some bytes) = elim (leb (length bytes) most) [ true ↦ some bytes | false ↦ none ]

unfoldable pub zeros : ℕ → List ℕ
zeros n = replicate n 0

-- The batch call on the bytes of set, job and batch; none for a job of an odd count of bytes. An empty one has no methods.
unfoldable pub call_on : List ℕ → List ℕ → List ℕ → Option Given
unfolding zeros
call_on set job batch =
    elim (eqb (length job % 2) 0) [
      | true ↦ some (record { set = set; index = []; counts = []; job = job; input = batch; output = zeros 32768; work = zeros 65536 })
      | false ↦ none
    ]

-- The call that the files make: solid.set of 65,536 bytes at most, job of 64, batch of 16,384.
unfoldable pub call_of : Files → Option Given
unfolding up_to call_on
call_of files =
    elim (up_to 65536 files.set) [
      | none ↦ none
      | some set ↦ elim (up_to 64 files.job) [
        | none ↦ none
        | some job ↦ elim (up_to 16384 files.batch) [
          | none ↦ none
          | some batch ↦ call_on set job batch
        ]
      ]
    ]

-- What the program prints: `bad file` only, or what it prints for the call's answer.
unfoldable pub printed : Files → List ℕ
unfolding call_of printed_for correct_batch
printed files =
    elim (call_of files) [
      | none ↦ bad_file
      | some given ↦ printed_for (correct_batch given)
    ]
