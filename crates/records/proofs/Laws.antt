-- A file line by line.
use Prim.Native.Nat.{ℕ, ◌+◌, ◌-◌, ◌≤◌, ◌<◌}
use native.Mathlib.Omega.{arith}
use native.Mathlib.Numerals.{add-one}
use borrow.Author.Tests.{le-leb, lt-leb, eq-eqb, ne_eqb}
use mathlib.Core.Path.{◌≡◌, refl, sym, ap, ◌∙◌}
use mathlib.Core.Bool.{Bool, true, false, not, ◌&&◌, ◌||◌}
use mathlib.Core.Option.{none, some}
use Rattle.std.specs.Prelude.{Option, Some, None, Ok, Err, nat_eq, slice_get}
use Rattle.std.specs.Option.{option_copied, option_eq}
use denote.Ref.{Bor}
use mir.Val.{bool_byte}
use Rattle.std.specs.List.{list_any}
use Rattle.std.proofs.lemmas.Grind.{common_steps}
use mathlib.Core.List.{List, [], ◌∷◌, ◌++◌, append_assoc}
use lib.Dec.{eqb, ltb}
use lib.ListN.{length, get_or}
use Rattle.rules.specs.Letters.{among}
use Rattle.rules.specs.Refusal.{unless, at_place, ◌or_else◌}
use Rattle.rules.specs.Job.{lines_from, lines}
use Rattle.rules_fasta.specs.Fasta.{mark, is_name, joined, records_of, records, max_records, file_right, line_right, first_wrong}
use Rattle.refusal.specs.declared.Refusal.TheVariants.{Batch, Sequence}
use Rattle.refusal.specs.Refusal.{refusal_of}
use Rattle.records.specs.declared.Seen.{Seen}
use Rattle.records.specs.Records.{file_check, EndsWith, SeenWith, SeenIn}

-- ---- `>` in a line

pub among-any : (y : ℕ) (line : List ℕ) → among y line ≡ list_any (λ x. nat_eq x y) line
unfolding among
among-any y [] = refl
among-any y (x ∷ xs) = grind (arith, common_steps, among-any y xs)

-- ---- a line by its first byte

pub name-first : (l : List ℕ) (first : Option (Bor ℕ)) (wanted : Bor ℕ) → option_copied first ≡ slice_get l 0 → wanted.now ≡ mark
    → is_name l ≡ option_eq (λ x y. nat_eq x.now y.now) first (Some wanted)
unfolding is_name
name-first [] None w e m = refl
name-first [] (Some x) w e m = absurd (cc)
name-first (b ∷ bs) None w e m = absurd (cc)
name-first (b ∷ bs) (Some x) w e m = let same : x.now ≡ b = cc in rw (same, m)

pub right-none : (named : Bool) (l : List ℕ) → length l ≡ 0 → line_right named l ≡ true
unfolding line_right
right-none named [] h = refl
right-none named (b ∷ bs) h = absurd (omega arith)

pub right-some : (named : Bool) (l : List ℕ) → 0 < length l → line_right named l ≡ (is_name l || (named && not (among mark l)))
unfolding line_right
right-some named [] h = absurd (omega arith)
right-some named (b ∷ bs) h = refl

-- ---- a line more is seen

-- A record more where the line is a name line.
pub counted-line : (l : List ℕ) (ls : List (List ℕ)) → length (records_of (l ∷ ls)) ≡ bool_byte (is_name l) + length (records_of ls)
unfolding records_of
counted-line l ls = go (is_name l) refl
  where
    go : (t : Bool) → is_name l ≡ t → length (records_of (l ∷ ls)) ≡ bool_byte (is_name l) + length (records_of ls)
    go true e = rw (records_of, e) (omega arith)
    go false e = rw (records_of, e) (omega arith)

-- 18 at a line and behind it.
module _ (named : Bool) (i : ℕ) (l : List ℕ) (ls : List (List ℕ)) where
  pub wrong-here : line_right named l ≡ false → first_wrong named i (l ∷ ls) ≡ some i
  unfolding first_wrong
  wrong-here e = rw (first_wrong, e)

  pub wrong-later : line_right named l ≡ true → first_wrong named i (l ∷ ls) ≡ first_wrong (named || is_name l) (i + 1) ls
  unfolding first_wrong
  wrong-later e = rw (first_wrong, e, add-one)

-- ---- a read joined, by its first line

module _ (l : List ℕ) (ls : List (List ℕ)) where
  module _ (e : is_name l ≡ true) where
    pub join_stops : joined (l ∷ ls) ≡ []
    unfolding joined
    join_stops = rw (joined, e)

    pub record-begins : records_of (l ∷ ls) ≡ record { name = l; read = joined ls } ∷ records_of ls
    unfolding records_of
    record-begins = rw (records_of, e)

  module _ (e : is_name l ≡ false) where
    pub join_more : joined (l ∷ ls) ≡ l ++ joined ls
    unfolding joined
    join_more = rw (joined, e)

    pub record_same : records_of (l ∷ ls) ≡ records_of ls
    unfolding records_of
    record_same = rw (records_of, e)

pub no_read : joined [] ≡ []
unfolding joined
no_read = refl

pub no_records : records_of [] ≡ []
unfolding records_of
no_records = refl

-- A line with its byte 10 comes off what is left.
pub ends-behind : (bytes left line behind : List ℕ) → EndsWith bytes left → left ≡ line ++ (10 ∷ behind) → EndsWith bytes behind
ends-behind bytes left line behind (before, e) off = (
  before ++ (line ++ (10 ∷ [])),
  e
      ∙ ap (λ (bs : List ℕ). before ++ bs) (off ∙ sym (append_assoc line (10 ∷ []) behind))
      ∙ sym (append_assoc before (line ++ (10 ∷ [])) behind),
)

-- ---- checks 6 and 18

pub no-file : (file : List ℕ) → length file ≡ 0 → none ≡ file_check file
unfolding file_right records records_of lines lines_from first_wrong unless at_place ◌or_else◌
no-file [] e = refl
no-file (b ∷ bs) e = absurd (omega arith)

module _ (file : List ℕ) (some_bytes : length file ≡ 0 → ⊥) where
  abbrev last : ℕ
  last = get_or file (length file - 1) 0

  pub no_end : (last ≡ 10 → ⊥) → file_right file ≡ false
  unfolding file_right
  no_end ne = rw (ne_eqb (length file) 0 some_bytes, ne_eqb last 10 ne)

  module _ (e : last ≡ 10) where
    pub many-records : max_records < length (records file) → file_right file ≡ false
    unfolding file_right
    many-records m = rw (ne_eqb (length file) 0 some_bytes, eq-eqb last 10 e, lt-leb (length (records file)) max_records m)

    pub few-records : length (records file) ≤ max_records → file_right file ≡ true
    unfolding file_right
    few-records m = rw (ne_eqb (length file) 0 some_bytes, eq-eqb last 10 e, le-leb (length (records file)) max_records m)

-- What is seen of all lines.
module _ (file : List ℕ) (s : Seen) (all : SeenIn file [] s) where
  pub seen-records : length (records file) ≡ s.records
  unfolding records records_of
  seen-records = omega (arith, all.counted)

  pub seen-right : (i : ℕ) → s.lines ≡ Ok i → first_wrong false 0 (lines file) ≡ none
  unfolding first_wrong
  seen-right i e = all.judged ∙ rw e

  pub seen-wrong : (i : ℕ) → s.lines ≡ Err i → first_wrong false 0 (lines file) ≡ some i
  seen-wrong i e = all.judged ∙ rw e

-- No line is seen yet, or one more.
pub seen_none : (file : List ℕ) → SeenIn file (lines file) (record { records = 0; lines = Ok 0 })
seen_none file = record { counted = omega arith; judged = refl; few = omega arith; near = omega arith }

pub seen-on : (file line : List ℕ) (rest : List (List ℕ)) (s r : Seen) → SeenIn file (line ∷ rest) s → SeenWith s line r → SeenIn file rest r
seen-on file line rest s r i w =
    record {
      counted = i.counted ∙ sym (w.counted rest);
      judged = i.judged ∙ sym (w.judged rest);
      few = omega (arith, i.few, w.few);
      near = omega (arith, i.near, w.near);
    }

-- n are the records with line l.
module _ (s : Seen) (l : List ℕ) (n i : ℕ) (w : n ≡ s.records + bool_byte (is_name l)) where
  counted : (ls : List (List ℕ)) → n + length (records_of ls) ≡ s.records + length (records_of (l ∷ ls))
  counted ls = omega (arith, w, counted-line l ls)

  few : n ≤ s.records + 1
  few = grind (arith, common_steps)

  named : (ltb 0 s.records || is_name l) ≡ ltb 0 n
  named = grind (arith, common_steps)

  pub see-right : s.lines ≡ Ok i → line_right (ltb 0 s.records) l ≡ true → SeenWith s l (record { records = n; lines = Ok (i + 1) })
  see-right e r =
      record {
        counted = counted;
        judged = λ ls. sym (rw e (wrong-later (ltb 0 s.records) i l ls r ∙ ap (λ (t : Bool). first_wrong t (i + 1) ls) named));
        few = few;
        near = rw e (omega arith);
      }

  pub see-wrong : s.lines ≡ Ok i → line_right (ltb 0 s.records) l ≡ false → SeenWith s l (record { records = n; lines = Err i })
  see-wrong e r =
      record { counted = counted; judged = λ ls. sym (rw e (wrong-here (ltb 0 s.records) i l ls r)); few = few; near = rw e (omega arith) }

  pub see-after : s.lines ≡ Err i → SeenWith s l (record { records = n; lines = Err i })
  see-after e = record { counted = counted; judged = λ ls. rw e; few = few; near = rw e (omega arith) }

module _ (file : List ℕ) where
  pub told-6 : file_right file ≡ false → some (refusal_of Batch) ≡ file_check file
  unfolding unless ◌or_else◌
  told-6 e = rw e

  module _ (e : file_right file ≡ true) where
    pub told-18 : (line : ℕ) → first_wrong false 0 (lines file) ≡ some line → some (refusal_of (Sequence line)) ≡ file_check file
    unfolding unless at_place ◌or_else◌
    told-18 line w = rw (e, w)

    pub told_none : first_wrong false 0 (lines file) ≡ none → none ≡ file_check file
    unfolding unless at_place ◌or_else◌
    told_none w = rw (e, w)
