-- Document 02, W11: FASTA in and out. Records of a file, refusals 6, 18 and 11, the text of a record, and what the call answers and leaves in the
-- lent buffers.
use Rattle.std.specs.Prelude.{ℕ, zero, suc, ◌-◌, Bool, not, ◌&&◌, ◌||◌, get_or, take, drop, eqb, leb}
use Rattle.std.proofs.Math.Bool.{true, false}
use Rattle.std.proofs.Math.Option.{Option, none, some}
use mathlib.Core.List.{List, [], ◌∷◌, ◌++◌, map}
use Rattle.std.proofs.Math.ListN.{length, replicate}
use Rattle.std.proofs.Math.Dec.{ltb}
use Rattle.rules.specs.Letters.{among}
use Rattle.rules.specs.Refusal.{Outcome, accepted, refused, Check, ◌or_else◌, unless, at_place}
use Rattle.rules.specs.Set.{KmerSet, offering, opened}
use Rattle.rules.specs.Job.{Entry, entries_of, lines, result}
use Rattle.rules.specs.Report.{Report}
use Rattle.rules.specs.Calls.{Given, After, unchanged, no_room, longest, report, given_check, offer_check}

-- ---- reading a file

-- `>`
abbrev pub mark : ℕ
mark = 62

-- A name line starts with `>`.
unfoldable pub is_name : List ℕ → Bool
is_name [] = false
is_name (b ∷ bs) = eqb b mark

-- A record: its name line, and its sequence lines, if any, joined without their ends.
pub record Record : Type 0 where
  pub name : List ℕ
  pub read : List ℕ

-- The lines up to the next name line, joined; a line of no bytes adds nothing.
unfoldable pub joined : List (List ℕ) → List ℕ
unfolding is_name
joined [] = []
joined (l ∷ ls) = elim (is_name l) [ true ↦ [] | false ↦ l ++ joined ls ]

-- Each name line begins a record.
unfoldable pub records_of : List (List ℕ) → List Record
unfolding is_name joined
records_of [] = []
records_of (l ∷ ls) = elim (is_name l) [ true ↦ record { name = l; read = joined ls } ∷ records_of ls | false ↦ records_of ls ]

-- The records of a file.
unfoldable pub records : List ℕ → List Record
unfolding records_of lines
records file = records_of (lines file)

-- The reads of a list of records.
unfoldable pub reads_of : List Record → List (List ℕ)
reads_of rs = map (λ r. r.read) rs

-- ---- refused because of the file

abbrev pub max_records : ℕ
max_records = 1024

-- 6: the file ends with byte 10 or is empty, and has no more than 1,024 records.
unfoldable pub file_right : List ℕ → Bool
unfolding records
file_right file =
    (eqb (length file) 0 || eqb (get_or file (length file - 1) 0) 10)
    && leb (length (records file)) max_records

-- A sequence line, one with bytes that is no name line, stands behind a name line and holds no `>`. Named: a name line has come.
unfoldable pub line_right : Bool → List ℕ → Bool
unfolding is_name among
line_right named [] = true
line_right named (b ∷ bs) = is_name (b ∷ bs) || (named && not (among mark (b ∷ bs)))

-- 18: the first line, from number i on, that is not so; skipped lines counted.
unfoldable pub first_wrong : Bool → ℕ → List (List ℕ) → Option ℕ
unfolding line_right is_name
first_wrong named i [] = none
first_wrong named i (l ∷ ls) = elim (line_right named l) [ true ↦ first_wrong (named || is_name l) (suc i) ls | false ↦ some i ]

-- Checks 1 to 5, the file being the batch, then 6, then 18.
unfoldable pub fasta_check : Given → Check
unfolding given_check unless file_right at_place first_wrong lines ◌or_else◌
fasta_check g =
    given_check g
    or_else (let six = unless (file_right g.input) 6 in six)
    or_else (let eighteen = at_place 18 (first_wrong false 0 (lines g.input)) in eighteen)

-- ---- the output's text

-- Lines of 80 letters, the last possibly shorter, none for an empty read. The fuel never runs out where it is the read's length.
unfoldable pub cut : ℕ → List ℕ → List (List ℕ)
cut zero read = []
cut (suc fuel) [] = []
cut (suc fuel) (b ∷ bs) = take 80 (b ∷ bs) ∷ cut fuel (drop 80 (b ∷ bs))

unfoldable pub read_lines : List ℕ → List (List ℕ)
unfolding cut
read_lines read = cut (length read) read

-- Lines, each with its byte 10.
unfoldable pub ended : List (List ℕ) → List ℕ
ended [] = []
ended (l ∷ ls) = l ++ (10 ∷ ended ls)

-- A report with another number of bytes written.
unfoldable pub with_written : ℕ → Report → Report
with_written bytes r =
    record {
      written = bytes;
      turns = r.turns;
      lookups = r.lookups;
      attempts = r.attempts;
      accepted = r.accepted;
      yield = r.yield;
      support = r.support;
      quotient = r.quotient;
      remainder = r.remainder;
      bases = r.bases;
    }

module _ (set : KmerSet) (es : List Entry) where
  -- A record with its read corrected.
  unfoldable pub mended : Record → Record
  unfolding result
  mended r = record { name = r.name; read = result set es r.read }

  -- A record's text: its name line unchanged and the corrected read's lines, each with its byte 10.
  unfoldable pub text : Record → List ℕ
  unfolding ended read_lines mended
  text r = ended (r.name ∷ read_lines (mended r).read)

  -- The bytes written.
  unfoldable pub texts : List Record → List ℕ
  unfolding text
  texts [] = []
  texts (r ∷ rs) = text r ++ texts rs

  -- 11: the first record, from number i on, whose text or one of whose pass results (the read, if no methods) is longer than what is left before
  -- its name line.
  unfoldable pub no_room_at : ℕ → ℕ → List Record → Option ℕ
  unfolding text longest
  no_room_at i left [] = none
  no_room_at i left (r ∷ rs) =
      elim (ltb left (length (text r)) || ltb left (longest set es r.read)) [
        | true ↦ some i
        | false ↦ no_room_at (suc i) (left - length (text r)) rs
      ]

  -- The report: that of the records' reads, but for the bytes written.
  unfoldable pub fasta_report : List Record → Report
  unfolding with_written texts report reads_of
  fasta_report rs = with_written (length (texts rs)) (report set es [] (reads_of rs))

  -- With an opened set: 11, or the texts with the rest of the output zero and the whole work buffer zero.
  unfoldable pub corrected_records : Given → List Record → After
  unfolding no_room_at texts fasta_report no_room
  corrected_records g rs =
      elim (no_room_at 0 (length g.output) rs) [
        | some i ↦ no_room g i
        | none ↦ record {
          answer = accepted (fasta_report rs);
          output = texts rs ++ replicate (length g.output - length (texts rs)) 0;
          work = replicate (length g.work) 0;
        }
      ]

-- ---- the call

-- After the checks of the input come the set's, 7 to 10, then those of what is offered, 15 and 16, then 11.
unfoldable pub fasta_by : Outcome KmerSet → Given → After
unfolding fasta_check unchanged offer_check offering corrected_records entries_of records
fasta_by opening g =
    elim (fasta_check g) [
      | some r ↦ unchanged g r
      | none ↦ elim opening [
        | refused r ↦ unchanged g r
        | accepted set ↦ elim (offer_check set g.index g.counts) [
          | some r ↦ unchanged g r
          | none ↦ corrected_records (offering g.index g.counts set) (entries_of g.job) g (records g.input)
        ]
      ]
    ]

unfoldable pub correct_fasta : Given → After
unfolding fasta_by opened
correct_fasta g = fasta_by (opened g.set) g
