-- Document 02, W11: records of right lines, a read in lines of 80, and the output's text read again.
use Prim.Native.Nat.{ℕ, zero, suc, ◌+◌, ◌-◌, ◌/◌, ◌≤◌, ◌<◌}
use native.Mathlib.Omega.{arith}
use borrow.Author.Tests.{le-leb, lt-ltb, le-ltb, ltb-false, ne_eqb, not-true}
use mathlib.Core.Path.{◌≡◌, refl, sym, ap, ap₂, ◌∙◌}
use mathlib.Core.Bool.{Bool, true, false, not, ◌&&◌, ◌||◌, false≢true}
use mathlib.Core.Option.{none, some, none-ne-some}
use mathlib.Core.List.{List, [], ◌∷◌, ◌++◌, map, append-nil, append_assoc}
use lib.ListN.{length, get_or, take, drop, length-append, length-take, length-drop, length-map, take-append-drop}
use lib.Seq.{get_or-append-add}
use lib.Dec.{eqb, ltb}
use Rattle.rules.specs.Letters.{among, code}
use Rattle.rules.specs.Set.{KmerSet}
use Rattle.rules.specs.Graph.{All, end, also}
use Rattle.rules.specs.Job.{Entry, lines, lines_from, result}
use Rattle.rules.specs.Calls.{longest}
use Rattle.rules_laws.proofs.Job.{all_append}
use Rattle.rules_fasta.specs.Fasta.{mark, is_name, Record, joined, records_of, records, max_records, file_right, line_right, first_wrong, cut, read_lines, ended, mended, text, texts, no_room_at}
use Rattle.rules_fasta.proofs.Lines.{No, no-append, no-take, no_drop, no-first, line_read}
use Rattle.rules_fasta.proofs.Written.{result-free}

-- ---- records of right lines

-- What is known of a record once 6 and 18 are passed.
pub record Right (r : Record) : Type 0 where
  pub named : is_name r.name ≡ true
  pub name_free : No 10 r.name
  pub read_free : No 10 r.read
  pub no_mark : No mark r.read

-- 18 passed at a line, and behind it.
pub right-step : (named : Bool) (i : ℕ) (l : List ℕ) (ls : List (List ℕ)) → first_wrong named i (l ∷ ls) ≡ none
    → (line_right named l ≡ true) × (first_wrong (named || is_name l) (suc i) ls ≡ none)
unfolding first_wrong
right-step named i l ls h = go (line_right named l) refl
  where
    go : (t : Bool) → line_right named l ≡ t → (line_right named l ≡ true) × (first_wrong (named || is_name l) (suc i) ls ≡ none)
    go true e = (e, rw (first_wrong, e) at h)
    go false e = absurd (none-ne-some i (sym (rw (first_wrong, e) at h)))

-- A sequence line that is right holds no `>`.
right-free : (named : Bool) (l : List ℕ) → is_name l ≡ false → line_right named l ≡ true → No mark l
unfolding line_right among
right-free named [] n h = refl
right-free named (b ∷ bs) n h = go named (rw n at h)
  where
    go : (t : Bool) → (t && not (among mark (b ∷ bs))) ≡ true → among mark (b ∷ bs) ≡ false
    go true e = not-true (among mark (b ∷ bs)) e
    go false e = absurd (false≢true e)

joined-right : (named : Bool) (i : ℕ) (ls : List (List ℕ)) → All (No 10) ls → first_wrong named i ls ≡ none → No 10 (joined ls) × No mark (joined ls)
unfolding joined among
joined-right named i [] h w = (refl, refl)
joined-right named i (l ∷ ls) (also h hs) w =
    let s = right-step named i l ls w in
    go (is_name l) refl s.0 (joined-right (named || is_name l) (suc i) ls hs s.1)
  where
    go : (t : Bool) → is_name l ≡ t → line_right named l ≡ true → No 10 (joined ls) × No mark (joined ls)
        → No 10 (joined (l ∷ ls)) × No mark (joined (l ∷ ls))
    go true e r i = rw (joined, e) (refl, refl)
    go false e r i = rw (joined, e) (no-append 10 l (joined ls) h i.0, no-append mark l (joined ls) (right-free named l e r) i.1)

pub records-right : (named : Bool) (i : ℕ) (ls : List (List ℕ)) → All (No 10) ls → first_wrong named i ls ≡ none → All Right (records_of ls)
unfolding records_of
records-right named i [] h w = end
records-right named i (l ∷ ls) (also h hs) w =
    let s = right-step named i l ls w in
    go (is_name l) refl (records-right (named || is_name l) (suc i) ls hs s.1) (joined-right (named || is_name l) (suc i) ls hs s.1)
  where
    go : (t : Bool) → is_name l ≡ t → All Right (records_of ls) → No 10 (joined ls) × No mark (joined ls) → All Right (records_of (l ∷ ls))
    go true e a j = rw (records_of, e) (also (record { named = e; name_free = h; read_free = j.0; no_mark = j.1 }) a)
    go false e a j = rw (records_of, e) a

-- 18 passes a name line.
name-passed : (named : Bool) (i : ℕ) (l : List ℕ) (ls : List (List ℕ)) → is_name l ≡ true → first_wrong named i (l ∷ ls) ≡ first_wrong true (suc i) ls
unfolding first_wrong line_right
name-passed named i [] ls e = absurd (false≢true e)
name-passed named i (b ∷ bs) ls e =
    let right : line_right named (b ∷ bs) ≡ true = rw (line_right, e) in
    rw (first_wrong, right) (ap (λ (t : Bool). first_wrong (named || t) (suc i) ls) e ∙ go named)
  where
    go : (t : Bool) → first_wrong (t || true) (suc i) ls ≡ first_wrong true (suc i) ls
    go true = refl
    go false = refl

-- ---- a read in lines of 80

-- Any larger fuel gives the same lines.
cut-fuel : (f g : ℕ) (read : List ℕ) → length read ≤ f → length read ≤ g → cut f read ≡ cut g read
unfolding cut
cut-fuel zero zero read h i = refl
cut-fuel zero (suc g) [] h i = refl
cut-fuel zero (suc g) (b ∷ bs) h i = absurd (omega arith)
cut-fuel (suc f) zero [] h i = refl
cut-fuel (suc f) zero (b ∷ bs) h i = absurd (omega arith)
cut-fuel (suc f) (suc g) [] h i = refl
cut-fuel (suc f) (suc g) (b ∷ bs) h i =
    let l = length-drop 80 (b ∷ bs) in
    ap (λ (t : List (List ℕ)). take 80 (b ∷ bs) ∷ t) (cut-fuel f g (drop 80 (b ∷ bs)) (omega arith) (omega arith))

-- The first 80 letters, then the lines of the others.
pub read-lines-step : (read : List ℕ) → 0 < length read → read_lines read ≡ take 80 read ∷ read_lines (drop 80 read)
unfolding read_lines cut
read-lines-step [] h = absurd (omega arith)
read-lines-step (b ∷ bs) h =
    let l = length-drop 80 (b ∷ bs) in
    ap (λ (t : List (List ℕ)). take 80 (b ∷ bs) ∷ t) (cut-fuel (length bs) (length (drop 80 (b ∷ bs))) (drop 80 (b ∷ bs)) (omega arith) (omega arith))

pub read-lines-end : (read : List ℕ) → length read ≡ 0 → read_lines read ≡ []
unfolding read_lines cut
read-lines-end [] h = refl
read-lines-end (b ∷ bs) h = absurd (omega arith)

cut-free : (x f : ℕ) (read : List ℕ) → No x read → All (No x) (cut f read)
unfolding cut
cut-free x zero read h = end
cut-free x (suc f) [] h = end
cut-free x (suc f) (b ∷ bs) h = also (no-take x 80 (b ∷ bs) h) (cut-free x f (drop 80 (b ∷ bs)) (no_drop x 80 (b ∷ bs) h))

-- The lines of a read without `>`, joined, are the read; they begin no record; and 18 passes them behind a name line.
module _ (rest : List (List ℕ)) where
  cut-joined : (f : ℕ) (read : List ℕ) → length read ≤ f → No mark read → joined (cut f read ++ rest) ≡ read ++ joined rest
  unfolding cut joined is_name
  cut-joined zero [] h n = refl
  cut-joined zero (b ∷ bs) h n = absurd (omega arith)
  cut-joined (suc f) [] h n = refl
  cut-joined (suc f) (b ∷ bs) h n =
      let l = length-drop 80 (b ∷ bs) in
      let i = cut-joined f (drop 80 (b ∷ bs)) (omega arith) (no_drop mark 80 (b ∷ bs) n) in
      rw (joined, is_name, no-first mark b bs n)
      (ap (λ (t : List ℕ). take 80 (b ∷ bs) ++ t) i
      ∙ sym (append_assoc (take 80 (b ∷ bs)) (drop 80 (b ∷ bs)) (joined rest))
      ∙ ap (λ (t : List ℕ). t ++ joined rest) (take-append-drop 80 (b ∷ bs)))

  cut-no-record : (f : ℕ) (read : List ℕ) → No mark read → records_of (cut f read ++ rest) ≡ records_of rest
  unfolding cut records_of is_name
  cut-no-record zero read n = refl
  cut-no-record (suc f) [] n = refl
  cut-no-record (suc f) (b ∷ bs) n = rw (records_of, is_name, no-first mark b bs n) (cut-no-record f (drop 80 (b ∷ bs)) (no_drop mark 80 (b ∷ bs) n))

  cut_right : (f i : ℕ) (read : List ℕ) → No mark read → ((j : ℕ) → first_wrong true j rest ≡ none) → first_wrong true i (cut f read ++ rest) ≡ none
  unfolding cut first_wrong line_right is_name
  cut_right zero i read n h = h i
  cut_right (suc f) i [] n h = h i
  cut_right (suc f) i (b ∷ bs) n h =
      rw (first_wrong, line_right, no-first mark b bs n, no-take mark 80 (b ∷ bs) n)
      (cut_right f (suc i) (drop 80 (b ∷ bs)) (no_drop mark 80 (b ∷ bs) n) h)

-- A byte 10 for each line of up to 80.
cut-length : (f : ℕ) (read : List ℕ) → length read ≤ f → length (ended (cut f read)) ≡ length read + (length read + 79) / 80
unfolding cut ended
cut-length zero [] h = refl
cut-length zero (b ∷ bs) h = absurd (omega arith)
cut-length (suc f) [] h = refl
cut-length (suc f) (b ∷ bs) h =
    let d = length-drop 80 (b ∷ bs) in
    let t = length-take 80 (b ∷ bs) in
    let i = cut-length f (drop 80 (b ∷ bs)) (omega arith) in
    length-append (take 80 (b ∷ bs)) (10 ∷ ended (cut f (drop 80 (b ∷ bs)))) ∙ omega arith

pub read-lines-length : (read : List ℕ) → length (ended (read_lines read)) ≡ length read + (length read + 79) / 80
unfolding read_lines
read-lines-length read = cut-length (length read) read (omega arith)

-- ---- lines with their ends

pub ended-append : (ls ms : List (List ℕ)) → ended (ls ++ ms) ≡ ended ls ++ ended ms
unfolding ended
ended-append [] ms = refl
ended-append (l ∷ ls) ms =
    ap (λ (t : List ℕ). l ++ (10 ∷ t)) (ended-append ls ms) ∙ sym (append_assoc l (10 ∷ ended ls) (ended ms))

-- Lines without byte 10, each with its end, read again.
pub lines-ended : (ls : List (List ℕ)) → All (No 10) ls → lines (ended ls) ≡ ls
unfolding lines ended lines_from
lines-ended [] end = refl
lines-ended (l ∷ ls) (also h hs) = line_read [] l (ended ls) h ∙ ap (λ (t : List (List ℕ)). l ∷ t) (lines-ended ls hs)

-- Lines that are some end with byte 10.
last_of : (l : List ℕ) (ls : List (List ℕ)) → get_or (ended (l ∷ ls)) (length (ended (l ∷ ls)) - 1) 0 ≡ 10
unfolding ended
last_of l [] =
    let e : length (l ++ (10 ∷ [])) - 1 ≡ length l + 0 = omega (arith, length-append l (10 ∷ [])) in
    rw e (get_or-append-add l (10 ∷ []) 0 0)
last_of l (m ∷ ls) =
    let x : List ℕ = ended (m ∷ ls) in
    let n : length x ≡ suc (length x - 1) = omega (arith, length-append m (10 ∷ ended ls)) in
    let e : length (l ++ (10 ∷ x)) - 1 ≡ length l + suc (length x - 1) = omega (arith, length-append l (10 ∷ x)) in
    ap (λ (i : ℕ). get_or (l ++ (10 ∷ x)) i 0) e ∙ get_or-append-add l (10 ∷ x) (suc (length x - 1)) 0 ∙ last_of m ls

-- Empty, or with a final byte 10.
abbrev pub Ended : List ℕ → Type 0
Ended bytes = (eqb (length bytes) 0 || eqb (get_or bytes (length bytes - 1) 0) 10) ≡ true

pub ends-right : (ls : List (List ℕ)) → Ended (ended ls)
unfolding ended
ends-right [] = refl
ends-right (l ∷ ls) =
    let some_bytes : eqb (length (ended (l ∷ ls))) 0 ≡ false = ne_eqb (length (ended (l ∷ ls))) 0 (λ e. omega (arith, length-append l (10 ∷ ended ls))) in
    rw (some_bytes, last_of l ls)

-- ---- the output

module _ (set : KmerSet) (es : List Entry) where
  abbrev fixed : List ℕ → List ℕ
  fixed read = result set es read

  -- All lines of the output.
  out_lines : List Record → List (List ℕ)
  out_lines [] = []
  out_lines (r ∷ rs) = (r.name ∷ read_lines (fixed r.read)) ++ out_lines rs

  texts-lines : (rs : List Record) → texts set es rs ≡ ended (out_lines rs)
  unfolding texts text mended out_lines
  texts-lines [] = refl
  texts-lines (r ∷ rs) =
      ap (λ (t : List ℕ). ended (r.name ∷ read_lines (fixed r.read)) ++ t) (texts-lines rs)
      ∙ sym (ended-append (r.name ∷ read_lines (fixed r.read)) (out_lines rs))

  pub texts-append : (rs qs : List Record) → texts set es (rs ++ qs) ≡ texts set es rs ++ texts set es qs
  unfolding texts
  texts-append [] qs = refl
  texts-append (r ∷ rs) qs =
      ap (λ (t : List ℕ). text set es r ++ t) (texts-append rs qs) ∙ sym (append_assoc (text set es r) (texts set es rs) (texts set es qs))

  -- A record's text is its name, its corrected read, and a byte 10 for each line.
  pub text-length : (r : Record) → length (text set es r) ≡ length r.name + 1 + (length (fixed r.read) + (length (fixed r.read) + 79) / 80)
  unfolding text mended ended
  text-length r =
      length-append r.name (10 ∷ ended (read_lines (fixed r.read))) ∙ omega (arith, read-lines-length (fixed r.read))

  -- Corrected reads hold neither byte 10 nor `>`, since neither is a letter.
  fixed-free : (r : Record) → Right r → No 10 (fixed r.read) × No mark (fixed r.read)
  unfolding code
  fixed-free r h = (result-free 10 refl set es r.read h.read_free, result-free mark refl set es r.read h.no_mark)

  out-free : (rs : List Record) → All Right rs → All (No 10) (out_lines rs)
  unfolding out_lines read_lines
  out-free [] end = end
  out-free (r ∷ rs) (also h hs) =
      also h.name_free (all_append (No 10) (cut-free 10 (length (fixed r.read)) (fixed r.read) (fixed-free r h).0) (out-free rs hs))

  -- The next record's name line ends a read.
  out-joined : (rs : List Record) → All Right rs → joined (out_lines rs) ≡ []
  unfolding out_lines joined
  out-joined [] end = refl
  out-joined (r ∷ rs) (also h hs) = rw (joined, h.named)

  out-records : (rs : List Record) → All Right rs → records_of (out_lines rs) ≡ map (mended set es) rs
  unfolding out_lines records_of mended read_lines
  out-records [] end = refl
  out-records (r ∷ rs) (also h hs) =
      let x : List ℕ = fixed r.read in
      let free = fixed-free r h in
      let j : joined (read_lines x ++ out_lines rs) ≡ x =
      cut-joined (out_lines rs) (length x) x (omega arith) free.1 ∙ ap (λ (t : List ℕ). x ++ t) (out-joined rs hs) ∙ append-nil x in
      rw (records_of, h.named)
      (ap₂ (λ (t : List ℕ) (l : List Record). record { name = r.name; read = t } ∷ l) j
      (cut-no-record (out_lines rs) (length x) x free.1 ∙ out-records rs hs))

  out-right : (named : Bool) (i : ℕ) (rs : List Record) → All Right rs → first_wrong named i (out_lines rs) ≡ none
  unfolding out_lines first_wrong read_lines
  out-right named i [] end = refl
  out-right named i (r ∷ rs) (also h hs) =
      let x : List ℕ = fixed r.read in
      name-passed named i r.name (read_lines x ++ out_lines rs) h.named
      ∙ cut_right (out_lines rs) (length x) (suc i) x (fixed-free r h).1 (λ j. out-right true j rs hs)

  -- ---- reading the output again

  out-lines : (rs : List Record) → All Right rs → lines (texts set es rs) ≡ out_lines rs
  out-lines rs h = ap lines (texts-lines rs) ∙ lines-ended (out_lines rs) (out-free rs h)

  -- The same names and the corrected reads.
  pub again-records : (rs : List Record) → All Right rs → records (texts set es rs) ≡ map (mended set es) rs
  unfolding records
  again-records rs h = ap records_of (out-lines rs h) ∙ out-records rs h

  pub again-lines : (rs : List Record) → All Right rs → first_wrong false 0 (lines (texts set es rs)) ≡ none
  again-lines rs h = ap (first_wrong false 0) (out-lines rs h) ∙ out-right false 0 rs h

  pub again-file : (rs : List Record) → All Right rs → length rs ≤ max_records → file_right (texts set es rs) ≡ true
  unfolding file_right
  again-file rs h few =
      let n : length (records (texts set es rs)) ≡ length rs = ap length (again-records rs h) ∙ length-map rs (mended set es) in
      let e = ap (λ (t : List ℕ). eqb (length t) 0 || eqb (get_or t (length t - 1) 0) 10) (texts-lines rs) ∙ ends-right (out_lines rs) in
      rw (e, n, le-leb (length rs) max_records few)

  -- ---- 11 at the first record from number i on, or what is left for the later ones

  pub no-room-text : (i left : ℕ) (r : Record) (rs : List Record) → left < length (text set es r) → no_room_at set es i left (r ∷ rs) ≡ some i
  unfolding no_room_at
  no-room-text i left r rs h = rw (no_room_at, lt-ltb left (length (text set es r)) h)

  pub no-room-pass : (i left : ℕ) (r : Record) (rs : List Record) → left < longest set es r.read → no_room_at set es i left (r ∷ rs) ≡ some i
  unfolding no_room_at
  no-room-pass i left r rs h = go (ltb left (length (text set es r))) refl
    where
      go : (t : Bool) → ltb left (length (text set es r)) ≡ t → no_room_at set es i left (r ∷ rs) ≡ some i
      go true e = rw (no_room_at, e)
      go false e = rw (no_room_at, e, lt-ltb left (longest set es r.read) h)

  pub room-later : (i left : ℕ) (r : Record) (rs : List Record) → length (text set es r) ≤ left → longest set es r.read ≤ left
      → no_room_at set es i left (r ∷ rs) ≡ no_room_at set es (suc i) (left - length (text set es r)) rs
  unfolding no_room_at
  room-later i left r rs h l = rw (no_room_at, le-ltb left (length (text set es r)) h, le-ltb left (longest set es r.read) l)

  -- No 11: a record's text and its pass results fit, and the others behind it.
  pub room_next : (i left : ℕ) (r : Record) (rs : List Record) → no_room_at set es i left (r ∷ rs) ≡ none
      → (length (text set es r) ≤ left) × (longest set es r.read ≤ left) × (no_room_at set es (suc i) (left - length (text set es r)) rs ≡ none)
  unfolding no_room_at
  room_next i left r rs h = go (ltb left (length (text set es r))) refl (ltb left (longest set es r.read)) refl
    where
      go : (a : Bool) → ltb left (length (text set es r)) ≡ a → (b : Bool) → ltb left (longest set es r.read) ≡ b
          → (length (text set es r) ≤ left) × (longest set es r.read ≤ left) × (no_room_at set es (suc i) (left - length (text set es r)) rs ≡ none)
      go true e b f = absurd (none-ne-some i (sym (rw (no_room_at, e) at h)))
      go false e true f = absurd (none-ne-some i (sym (rw (no_room_at, e, f) at h)))
      go false e false f = (ltb-false left (length (text set es r)) e, ltb-false left (longest set es r.read) f, rw (no_room_at, e, f) at h)

  pub texts-fit : (i left : ℕ) (rs : List Record) → no_room_at set es i left rs ≡ none → length (texts set es rs) ≤ left
  unfolding texts
  texts-fit i left [] h = omega arith
  texts-fit i left (r ∷ rs) h =
      let w = room_next i left r rs h in
      omega (arith, w.0, texts-fit (suc i) (left - length (text set es r)) rs w.2, length-append (text set es r) (texts set es rs))
