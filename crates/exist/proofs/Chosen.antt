-- One base more, and the choice among the scenarios kept.
use Prim.Native.Nat.{ℕ, zero, suc, ◌+◌, ◌-◌, ◌≤◌, ◌<◌}
use native.Mathlib.Omega.{arith}
use native.Mathlib.Numerals.{add-one}
use mathlib.Core.Path.{◌≡◌, refl, ap, ◌∙◌, subst}
use mathlib.Core.Bool.{Bool, true, false}
use mathlib.Core.Option as maybe
use mathlib.Core.Option.{none, some}
use mathlib.Core.List.{List, [], ◌∷◌, ◌++◌, map}
use lib.ListN.{length, take, drop, get_or, replicate, length-map, drop_of_length-le}
use borrow.Author.Tests.{lt-ltb, le-ltb}
use Rattle.std.specs.Prelude.{Option, Some, None}
use Rattle.rules.specs.Letters.{Kmer, in_place, add_all}
use Rattle.rules.specs.Set.{KmerSet}
use Rattle.rules.specs.Counted.{Counted, refuse, give, after, ◌>>◌}
use Rattle.rules.specs.Scan.{only, ask, is_solid}
use Rattle.rules.specs.Exist.{Mend, cons, one_more, one_more_of, choose}
use Rattle.set.specs.declared.Asked.{Asked as More}
use Rattle.set.specs.Asked.{AskedIs}
use Rattle.scenario.proofs.Trials.{solid-yes, solid-no, refused-then, given-then}
use Rattle.scenario.specs.declared.mend.Mend.{Mend as Kept}
use Rattle.scenario.specs.Scenario.{spelled_out}
use Rattle.trials.specs.Trials.{Placed}
use Rattle.trials.proofs.Scores.{next-is}
use Rattle.exist.specs.Exist.{more_of, MendIs}

-- ---- one base more

module _ (k : ℕ) (sol : ℕ → Bool) (c : ℕ) (s : List ℕ) (y : Kmer) (m : Mend) where
  pub more-short : length s ≤ c + m.resume + 1 → more_of m (record { solid = false; lookups = 0 }) ≡ one_more k sol c s y m
  unfolding one_more refuse
  more-short h = rw (le-ltb (c + m.resume + 1) (length s) h, one_more)

  -- z asked, and answered by r
  asked : (z : Kmer) (r : More) → AskedIs (ask sol z) r → more_of m r ≡ is_solid k sol z >> give m
  unfolding give after
  asked z r a = go r.solid refl
    where
      same : r.lookups + 0 ≡ r.lookups
      same = omega arith

      go : (t : Bool) → r.solid ≡ t → more_of m r ≡ is_solid k sol z >> give m
      go true e = rw (given-then (give m) (solid-yes sol z a k e), same, e)
      go false e = rw (refused-then (give m) (solid-no sol z a k e), e)

  pub more-long : {e : ℕ} {z : Kmer} {r : More} → c + m.resume + 1 < length s → e ≡ c + m.resume + 1
      → z ≡ add_all k (in_place k y m.letters) (take (e - m.resume) (drop m.resume s)) → AskedIs (ask sol z) r
      → more_of m r ≡ one_more k sol c s y m
  unfolding one_more
  more-long {e} {z} {r} h f q a =
      let end : ℕ → Kmer = λ i. add_all k (in_place k y m.letters) (take i (drop m.resume s)) in
      let n : e - m.resume ≡ c + 1 = omega arith in
      let z-is : z ≡ end (c + 1) = q ∙ ap end n in
      rw (lt-ltb (c + m.resume + 1) (length s) h, one_more) (asked (end (c + 1)) r (subst (λ (w : Kmer). AskedIs (ask sol w) r) z-is a))

-- ---- the choice

-- the mend chosen last
abbrev pub last_of : Option Kept → Mend
last_of (Some m) = spelled_out m
last_of None = record { letters = []; resume = 0; on = [] }

-- it has its key's place; none is chosen only where none of n remains
abbrev pub ChosenIs : KmerSet → ℕ → Option Kept → Type 0
ChosenIs set n (Some m) = Placed set m
ChosenIs set n None = n ≡ 0

pub chosen-one : (set : KmerSet) (n : ℕ) (o : Option Kept) {a : maybe.Option Mend} → ChosenIs set n o → n ≡ 1 → a ≡ some (last_of o) → MendIs set a o
chosen-one set n (Some m) q e h = (h, q)
chosen-one set n None q e h = absurd (omega arith)

-- one mend alone
pub one-is : (l : List Kept) (m : Kept) → length l ≡ 1 → m ≡ get_or l 0 m → map spelled_out l ≡ spelled_out m ∷ []
one-is l m e is = next-is spelled_out l refl 0 m is (omega arith) ∙ rw (drop_of_length-le (map spelled_out l) {i = 0 + 1} (omega (arith, length-map l spelled_out)))

only_next : (n : ℕ) (m m' : Mend) (l : List Mend) → only (replicate n m ++ (m' ∷ l)) ≡ only (replicate (suc n) m' ++ l)
unfolding only
only_next zero m m' l = refl
only_next (suc zero) m m' l = refl
only_next (suc (suc n)) m m' l = refl

-- n remain, of which m is the last, after l lookups, with those from i on still to be asked
module _ (k : ℕ) (sol : ℕ → Bool) (c : ℕ) (s : List ℕ) (y : Kmer) (ms : List Mend) where
  abbrev of : List Mend → Counted (List Mend)
  of = one_more_of k sol c s y

  pub record Asked (i n : ℕ) (m : Mend) (l : ℕ) : Type 0 where
    pub answer : only (of ms).answer ≡ only (replicate n m ++ (of (drop i ms)).answer)
    pub lookups : (of ms).lookups ≡ l + (of (drop i ms)).lookups

  pub asked-none : (m : Mend) → Asked 0 0 m 0
  asked-none m = record { answer = refl; lookups = omega arith }

  module _ {i n l : ℕ} {m m' : Mend} (r : More) (is : Asked i n m l) (here : drop i ms ≡ m' ∷ drop (i + 1) ms)
      (more : more_of m' r ≡ one_more k sol c s y m') where
    abbrev rest : Counted (List Mend)
    rest = of (drop (i + 1) ms)

    next : of (drop i ms) ≡ record { answer = cons (more_of m' r).answer rest.answer; lookups = r.lookups + rest.lookups }
    unfolding one_more_of
    next = ap of here ∙ rw (← more)

    paid : (of ms).lookups ≡ l + r.lookups + rest.lookups
    paid = omega (arith, is.lookups, ap (λ (t : Counted (List Mend)). t.lookups) next)

    kept : only (of ms).answer ≡ only (replicate n m ++ cons (more_of m' r).answer rest.answer)
    kept = is.answer ∙ ap (λ (t : Counted (List Mend)). only (replicate n m ++ t.answer)) next

    pub asked-yes : r.solid ≡ true → Asked (i + 1) (n + 1) m' (l + r.lookups)
    unfolding cons
    asked-yes e = record { answer = rw (add-one n) (rw e at kept ∙ only_next n m m' rest.answer); lookups = paid }

    pub asked-no : r.solid ≡ false → Asked (i + 1) n m (l + r.lookups)
    unfolding cons
    asked-no e = record { answer = rw e at kept; lookups = paid }

  -- ---- at the end

  choose-many : (l : List Mend) → (length l ≡ 1 → ⊥) → choose k sol c s y l ≡ record { answer = only (of l).answer; lookups = (of l).lookups }
  unfolding choose one_more_of only refuse
  choose-many [] h = refl
  choose-many (m ∷ []) h = absurd (h refl)
  choose-many (m ∷ m' ∷ l) h = refl

  module _ {i n l : ℕ} {m : Mend} (many : length ms ≡ 1 → ⊥) (is : Asked i n m l) (end : length ms ≤ i) where
    whole : choose k sol c s y ms ≡ record { answer = only (replicate n m ++ []); lookups = l }
    unfolding one_more_of
    whole =
        let e : drop i ms ≡ [] = drop_of_length-le ms end in
        let a : only (replicate n m ++ (of (drop i ms)).answer) ≡ only (replicate n m ++ []) = rw e in
        let b : l + (of (drop i ms)).lookups ≡ l = rw e (omega arith) in
        choose-many ms many ∙ (λ j. record { answer = (is.answer ∙ a) j; lookups = (is.lookups ∙ b) j })

    pub choose-found : n ≡ 1 → choose k sol c s y ms ≡ record { answer = some m; lookups = l }
    unfolding only
    choose-found e = whole ∙ rw e

    pub choose-refused : (n ≡ 1 → ⊥) → choose k sol c s y ms ≡ record { answer = none; lookups = l }
    unfolding only
    choose-refused h = whole ∙ (λ j. record { answer = not-one n h j; lookups = l })
      where
        not-one : (a : ℕ) → (a ≡ 1 → ⊥) → only (replicate a m ++ []) ≡ none
        not-one zero g = refl
        not-one (suc zero) g = absurd (g refl)
        not-one (suc (suc a)) g = refl

pub choose_one : (k : ℕ) (sol : ℕ → Bool) (c : ℕ) (s : List ℕ) (y : Kmer) (ms : List Mend) {m : Mend} → ms ≡ m ∷ []
    → choose k sol c s y ms ≡ record { answer = some m; lookups = 0 }
unfolding choose give
choose_one k sol c s y ms e = rw e
