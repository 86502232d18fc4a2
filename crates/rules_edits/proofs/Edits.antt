-- W12, the theorem `accepted-right`: a sheet is accepted exactly when it has the properties, whoever made it.
use Prim.Native.Nat.{ℕ, zero, suc, ◌+◌, ◌*◌, ◌-◌, ◌≤◌, ◌<◌}
use native.Mathlib.Omega.{arith}
use native.Mathlib.Nat.{le_refl}
use borrow.Author.Tests.{eqb-true, eqb-false, eq-eqb, ltb-true, lt-ltb, leb-true, le-leb}
use mathlib.Core.Path.{◌≡◌, refl, sym, ap, ◌∙◌, subst}
use mathlib.Core.Bool.{Bool, true, false, ◌&&◌, true≢false}
use mathlib.Core.Option.{Option, none, some}
use mathlib.Core.List.{List, ◌++◌}
use lib.ListN.{length, take, drop, length-append, length-drop}
use lib.Seq.{length-take-le}
use lib.Dec.{eqb, ltb, leb}
use Rattle.rules.specs.Refusal.{Outcome, accepted, refused, Check, ◌or_else◌, unless, at_place, first_failing}
use Rattle.rules.specs.Set.{KmerSet, is_none, solid, opened}
use Rattle.rules.specs.Scan.{ask}
use Rattle.rules.specs.Index.{same_bytes}
use Rattle.rules.specs.Calls.{max_read}
use Rattle.rules_laws.proofs.Opened.{both, passed, unless-passed, at_none}
use Rattle.rules_laws.proofs.Keys.{none-fails, is-none}
use Rattle.rules_laws.proofs.Keys.{none-failing}
use Rattle.rules_laws.proofs.Index.{bytes_same, bytes-are}
use Rattle.rules_laws.proofs.Scan.{ask-known, ask-is}
use Rattle.rules_edits.specs.Edits.{Sheet, count, position, given, end_of, letters_to, kept_from, kept, letters_of, made_to, rest, made, start, kmer_to, behind, formed, supported, joins, differs, judge, check_by, check_edits, Right, Acceptable, AcceptedRight}

-- ---- tests

both-and : {p q : Bool} → p ≡ true → q ≡ true → p && q ≡ true
both-and {p} {q} e f = rw (e, f)

some-none : {A : Type 0} {a : A} → some a ≡ none → ⊥
some-none e = let z : ◌≡◌ {A = ℕ} 0 1 = cc in omega arith

-- ---- the judgements as facts

-- The first judgement of edit i.
pub record Formed (k : ℕ) (s : Sheet) (i : ℕ) : Type 0 where
  pub numbers : 3 * i + 3 ≤ length s.numbers
  pub low : k ≤ position s i
  pub high : end_of s i < length s.read
  pub letters : letters_to s (suc i) ≤ length s.letters
  pub behind_last : behind s i ≡ true

module _ (k : ℕ) (s : Sheet) (i : ℕ) where
  pub formed-facts : formed k s i ≡ true → Formed k s i
  unfolding formed
  formed-facts h =
      let one = leb (3 * i + 3) (length s.numbers) in
      let two = leb k (position s i) in
      let three = ltb (end_of s i) (length s.read) in
      let four = leb (letters_to s (suc i)) (length s.letters) in
      let d = both (one && two && three && four) (behind s i) h in
      let c = both (one && two && three) four d.0 in
      let b = both (one && two) three c.0 in
      let a = both one two b.0 in
      record {
        numbers = leb-true (3 * i + 3) (length s.numbers) a.0;
        low = leb-true k (position s i) a.1;
        high = ltb-true (end_of s i) (length s.read) b.1;
        letters = leb-true (letters_to s (suc i)) (length s.letters) c.1;
        behind_last = d.1;
      }

  pub facts-formed : Formed k s i → formed k s i ≡ true
  unfolding formed
  facts-formed f =
      both-and
      (both-and (both-and (both-and (le-leb _ _ f.numbers) (le-leb _ _ f.low)) (lt-ltb _ _ f.high)) (le-leb _ _ f.letters))
      f.behind_last

pub behind-facts : (s : Sheet) (i : ℕ) → behind s (suc i) ≡ true → (position s i < position s (suc i)) × (end_of s i ≤ position s (suc i))
unfolding behind
behind-facts s i h =
    let b = both (ltb (position s i) (position s (suc i))) (leb (end_of s i) (position s (suc i))) h in
    (ltb-true _ _ b.0, leb-true _ _ b.1)

facts-behind : (s : Sheet) (i : ℕ) → position s i < position s (suc i) → end_of s i ≤ position s (suc i) → behind s (suc i) ≡ true
unfolding behind
facts-behind s i h g = both-and (lt-ltb _ _ h) (le-leb _ _ g)

-- All three judgements.
pub record Judged (k : ℕ) (sol : ℕ → Bool) (s : Sheet) : Type 0 where
  pub first : (i : ℕ) → i < count s → Formed k s i
  pub second : (i : ℕ) → i < count s → supported k sol s i ≡ true
  pub third : joins s ≡ true

differs_none : (s : Sheet) → differs s ≡ none → joins s ≡ true
unfolding differs
differs_none s h = go (joins s) refl
  where
    go : (b : Bool) → joins s ≡ b → joins s ≡ true
    go true e = e
    go false e = absurd (some-none (rw (e, differs) at h))

joins-differs : (s : Sheet) → joins s ≡ true → differs s ≡ none
unfolding differs
joins-differs s h = rw (h, differs)

all_pass : (a b c : Option ℕ) → a ≡ none → b ≡ none → c ≡ none → at_place 19 a or_else at_place 19 b or_else at_place 19 c ≡ none
unfolding ◌or_else◌ at_place
all_pass a b c e f g = rw (e, f, g)

module _ (k : ℕ) (sol : ℕ → Bool) (s : Sheet) where
  pub judge-judged : judge k sol s ≡ none → Judged k sol s
  unfolding judge
  judge-judged h =
      let first = first_failing (formed k s) 0 (count s) in
      let second = first_failing (supported k sol s) 0 (count s) in
      let a = passed (at_place 19 first) (at_place 19 second or_else at_place 19 (differs s)) h in
      let b = passed (at_place 19 second) (at_place 19 (differs s)) a.1 in
      record {
        first = λ i lt. formed-facts k s i (none-fails (formed k s) 0 (count s) (at_none 19 first a.0) i (omega arith) (omega arith));
        second = λ i lt. none-fails (supported k sol s) 0 (count s) (at_none 19 second b.0) i (omega arith) (omega arith);
        third = differs_none s (at_none 19 (differs s) b.1);
      }

  pub judged-judge : Judged k sol s → judge k sol s ≡ none
  unfolding judge
  judged-judge j =
      all_pass (first_failing (formed k s) 0 (count s)) (first_failing (supported k sol s) 0 (count s)) (differs s)
      (none-failing (formed k s) 0 (count s) (λ i le lt. facts-formed k s i (j.first i (omega arith))))
      (none-failing (supported k sol s) 0 (count s) (λ i le lt. j.second i (omega arith)))
      (joins-differs s j.third)

-- ---- judged is right

module _ (k : ℕ) (sol : ℕ → Bool) (s : Sheet) where
  -- of two edits in their order the later lies behind the earlier
  pub in_order : ((i : ℕ) → i < count s → Formed k s i) → (i j : ℕ) → i < j → j < count s → (position s i < position s j) × (end_of s i ≤ position s j)
  in_order h i zero lt l = absurd (omega arith)
  in_order h i (suc j) lt l = go (eqb i j) refl (λ lt'. in_order h i j lt' (omega arith))
    where
      b : (position s j < position s (suc j)) × (end_of s j ≤ position s (suc j))
      b = behind-facts s j (h (suc j) l).behind_last

      go : (q : Bool) → eqb i j ≡ q → (i < j → (position s i < position s j) × (end_of s i ≤ position s j))
          → (position s i < position s (suc j)) × (end_of s i ≤ position s (suc j))
      go true e r =
          subst (λ (x : ℕ). (position s x < position s (suc j)) × (end_of s x ≤ position s (suc j))) (sym (eqb-true i j e)) b
      go false e r =
          let n : i ≡ j → ⊥ = λ x. true≢false (sym (eq-eqb i j x) ∙ e) in
          let t = r (omega arith) in
          (omega (arith, t.0, b.0), omega (arith, t.1, b.0))

  whole_numbers : ((i : ℕ) → i < count s → Formed k s i) → length s.numbers ≡ 3 * count s
  unfolding count
  whole_numbers h = go (count s) refl
    where
      go : (c : ℕ) → count s ≡ c → length s.numbers ≡ 3 * count s
      go zero e = omega arith
      go (suc c) e = let f = (h c (omega arith)).numbers in omega arith

  -- Which k-mers of the read with all edits made are solid.
  abbrev there : ℕ → Bool
  there n = (ask sol (kmer_to k (made s) n)).answer

  supported-there : (i : ℕ) → supported k sol s i ≡ true → (n : ℕ) → start s i ≤ n → n ≤ start s i + given s i + 1
      → ((kmer_to k (made s) n).unknown ≡ 0) × (sol (kmer_to k (made s) n).code ≡ true)
  unfolding supported
  supported-there i h n le lt =
      let yes : there n ≡ true = none-fails there (start s i) (given s i + 2)
      (is-none (first_failing there (start s i) (given s i + 2)) h) n le (omega arith) in
      let known = ask-known sol (kmer_to k (made s) n) yes in
      (known, sym (ask-is sol (kmer_to k (made s) n) known) ∙ yes)

  pub judged-right : Judged k sol s → Right k sol s
  unfolding end_of joins
  judged-right j =
      let w = both (same_bytes (made s) s.mended) (eqb (letters_to s (count s)) (length s.letters)) j.third in
      record {
        whole = whole_numbers j.first;
        low = λ i lt. (j.first i lt).low;
        high = λ i lt. (j.first i lt).high;
        rising = λ i m lt l. (in_order j.first i m lt l).0;
        apart = λ i m lt l. (in_order j.first i m lt l).1;
        all_letters = eqb-true _ _ w.1;
        solid_there = λ i n lt. supported-there i (j.second i lt) n;
        joined = bytes-are (made s) s.mended w.0;
      }

  -- ---- right is judged

  -- letters given only grow
  pub letters-grow : (i j : ℕ) → i ≤ j → letters_to s i ≤ letters_to s j
  unfolding letters_to
  letters-grow i zero le = let e : i ≡ 0 = omega arith in rw e (le_refl 0)
  letters-grow i (suc j) le = go (eqb i (suc j)) refl (λ l. letters-grow i j l)
    where
      go : (q : Bool) → eqb i (suc j) ≡ q → (i ≤ j → letters_to s i ≤ letters_to s j) → letters_to s i ≤ letters_to s (suc j)
      go true e r = rw (eqb-true i (suc j) e) (le_refl (letters_to s (suc j)))
      go false e r =
          let n : i ≡ suc j → ⊥ = λ x. true≢false (sym (eq-eqb i (suc j) x) ∙ e) in
          let l : i ≤ j = omega arith in
          omega (arith, r l)

  right-behind : Right k sol s → (i : ℕ) → i < count s → behind s i ≡ true
  unfolding behind end_of
  right-behind r zero lt = refl
  right-behind r (suc i) lt = facts-behind s i (r.rising i (suc i) (omega arith) lt) (r.apart i (suc i) (omega arith) lt)

  right-formed : Right k sol s → (i : ℕ) → i < count s → Formed k s i
  unfolding end_of
  right-formed r i lt =
      record {
        numbers = omega (arith, r.whole);
        low = r.low i lt;
        high = r.high i lt;
        letters = omega (arith, letters-grow (suc i) (count s) lt, r.all_letters);
        behind_last = right-behind r i lt;
      }

  right_there : Right k sol s → (i n : ℕ) → i < count s → start s i ≤ n → n ≤ start s i + given s i + 1 → there n ≡ true
  right_there r i n lt le l =
      let y = r.solid_there i n lt le l in
      ask-is sol (kmer_to k (made s) n) y.0 ∙ y.1

  right-supported : Right k sol s → (i : ℕ) → i < count s → supported k sol s i ≡ true
  unfolding supported is_none
  right-supported r i lt =
      rw (none-failing there (start s i) (given s i + 2) (λ n le l. right_there r i n lt le (omega arith)))

  pub right-judged : Right k sol s → Judged k sol s
  unfolding joins
  right-judged r =
      record {
        first = right-formed r;
        second = right-supported r;
        third = both-and (subst (λ (x : List ℕ). same_bytes (made s) x ≡ true) r.joined (bytes_same (made s))) (eq-eqb _ _ r.all_letters);
      }

  -- Not refused with 19 exactly when the sheet has the properties.
  pub judge-right : judge k sol s ≡ none → Right k sol s
  judge-right h = judged-right (judge-judged k sol s h)

  pub right-judge : Right k sol s → judge k sol s ≡ none
  right-judge r = judged-judge k sol s (right-judged r)

-- ---- the k-mers that a right sheet asks are there

-- Where the pieces of a sheet lie whose edits are all formed.
module _ (k : ℕ) (s : Sheet) (all : (i : ℕ) → i < count s → Formed k s i) where
  pub letters-length : (i : ℕ) → i < count s → length (letters_of s i) ≡ given s i
  unfolding letters_of letters_to
  letters-length i lt =
      let f = (all i lt).letters in
      length-take-le (given s i) (drop (letters_to s i) s.letters) (simp length-drop (omega arith))

  pub made-next : (i : ℕ) → i < count s → length (made_to s (suc i)) ≡ start s i + given s i
  unfolding made_to start
  made-next i lt =
      length-append (made_to s i) (kept s i ++ letters_of s i)
      ∙ ap (λ (m : ℕ). length (made_to s i) + m) (length-append (kept s i) (letters_of s i))
      ∙ omega (arith, letters-length i lt)

  pub made-le : (i : ℕ) → length (made_to s i) ≤ start s i
  unfolding start
  made-le i = omega arith

  -- every edit before i ends before the bases kept before i
  pub ends-before : (i j : ℕ) → j < i → i ≤ count s → start s j + given s j ≤ length (made_to s i)
  ends-before zero j lt le = absurd (omega arith)
  ends-before (suc i) j lt le = go (λ l. ends-before i j l (omega arith)) (eqb j i) refl
    where
      go : (j < i → start s j + given s j ≤ length (made_to s i)) → (t : Bool) → eqb j i ≡ t → start s j + given s j ≤ length (made_to s (suc i))
      go r true q = let p = eqb-true j i q in rw p (omega (arith, made-next i (omega arith)))
      go r false q =
          let p = eqb-false j i q in
          let l : j < i = omega arith in
          omega (arith, r l, made-le i, made-next i (omega arith))

  first-kept : 0 < count s → start s 0 ≡ position s 0
  unfolding start made_to kept kept_from end_of
  first-kept lt =
      let f = (all 0 lt).high in
      let e : position s 0 - 0 ≡ position s 0 = omega arith in
      let l : length (take (position s 0 - 0) s.read) ≡ position s 0 = ap (λ (m : ℕ). length (take m s.read)) e
      ∙ length-take-le (position s 0) s.read (omega arith) in
      omega arith

  pub start-low : (i : ℕ) → i < count s → k ≤ start s i
  start-low zero lt = omega (arith, first-kept lt, (all 0 lt).low)
  start-low (suc i) lt = omega (arith, start-low i (omega arith), made-next i (omega arith), made-le (suc i))

  last_end : (m : ℕ) → m < count s → 1 ≤ length s.read - kept_from s (suc m)
  unfolding kept_from
  last_end m l = let h = (all m l).high in omega arith

  pub rest_some : 0 < count s → 1 ≤ length (rest s)
  unfolding rest
  rest_some lt = go (count s) refl
    where
      go : (m : ℕ) → count s ≡ m → 1 ≤ length (drop (kept_from s (count s)) s.read)
      go zero e = absurd (omega arith)
      go (suc m) e = rw (e, length-drop (kept_from s (suc m)) s.read) (last_end m (omega arith))

  behind-high : (i : ℕ) → i < count s → start s i + given s i + 1 ≤ length (made s)
  unfolding made
  behind-high i lt =
      let r : 0 < count s = omega arith in
      omega (arith, ends-before (count s) i lt (omega arith), rest_some r, length-append (made_to s (count s)) (rest s))

-- In a right sheet every asked k-mer is whole: k bases stand before each edit's letters, and a base behind them.
pub asked-there : (k : ℕ) (sol : ℕ → Bool) (s : Sheet) → Right k sol s → (i : ℕ) → i < count s
    → (k ≤ start s i) × (start s i + given s i + 1 ≤ length (made s))
asked-there k sol s r i lt = (start-low k s (right-formed k sol s r) i lt, behind-high k s (right-formed k sol s r) i lt)

-- ---- the call

pass_all : (a b : Bool) (c : Check) → a ≡ true → b ≡ true → c ≡ none → unless a 1 or_else unless b 1 or_else c ≡ none
unfolding ◌or_else◌ unless
pass_all a b c e f g = rw (e, f, g)

module _ (bytes : List ℕ) (s : Sheet) where
  -- The judgements, or why the set is refused.
  judged : Outcome KmerSet → Check
  judged o = elim o [ refused r ↦ some r | accepted set ↦ judge set.k (solid set) s ]

  accepted-acceptable : check_edits bytes s ≡ none → Acceptable bytes s
  unfolding check_edits check_by judged
  accepted-acceptable h =
      let one = unless (leb (length s.read) max_read) 1 in
      let two = unless (leb (length s.mended) max_read) 1 in
      let a = passed one (two or_else judged (opened bytes)) h in
      let b = passed two (judged (opened bytes)) a.1 in
      go (leb-true _ _ (unless-passed (leb (length s.read) max_read) 1 a.0))
      (leb-true _ _ (unless-passed (leb (length s.mended) max_read) 1 b.0)) (opened bytes) refl b.1
    where
      go : length s.read ≤ max_read → length s.mended ≤ max_read → (o : Outcome KmerSet) → opened bytes ≡ o → judged o ≡ none
          → Acceptable bytes s
      go p q (refused r) e j = absurd (some-none j)
      go p q (accepted set) e j =
          record {
            read_fits = p;
            mended_fits = q;
            set = set;
            opens = e;
            right = judge-right set.k (solid set) s j;
          }

  acceptable-accepted : Acceptable bytes s → check_edits bytes s ≡ none
  unfolding check_edits check_by judged
  acceptable-accepted a =
      pass_all (leb (length s.read) max_read) (leb (length s.mended) max_read) (judged (opened bytes))
      (le-leb _ _ a.read_fits) (le-leb _ _ a.mended_fits)
      (ap judged a.opens ∙ right-judge a.set.k (solid a.set) s a.right)

-- The theorem `accepted-right`.
pub accepted-right : AcceptedRight
accepted-right bytes s = (accepted-acceptable bytes s, acceptable-accepted bytes s)
