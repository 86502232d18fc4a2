-- A walk move by move, its letters in a lent output, its smallest count, and the attempt that it makes.
use Prim.Native.Nat.{ℕ, suc, ◌+◌, ◌*◌, ◌-◌, ◌≤◌, ◌<◌, min}
use native.Mathlib.Omega.{arith}
use native.Mathlib.Decide.{dec_le}
use native.Mathlib.Nat.{sub-zero}
use native.Mathlib.Numerals.{add-one}
use borrow.Author.Tests.{eq-eqb, ne_eqb}
use mathlib.Core.Path.{◌≡◌, refl, sym, ap, ◌∙◌}
use mathlib.Core.Bool.{Bool, true, false}
use mathlib.Core.Option.{Option, none, some}
use mathlib.Core.List.{List, [], ◌∷◌, ◌++◌}
use lib.ListN.{length, take, get_or, set, length-append, length-set}
use lib.Seq.{take-append-le, take_all, take-nil, take-suc-set, set_out}
use Rattle.rules.specs.Letters.{Kmer, add, add_base, add_all, same, last_letter, in_place}
use Rattle.rules.specs.Set.{set_of, solid, count_of}
use Rattle.rules.specs.Counted.{Try, after, refuse, give, next, ◌>>=◌}
use Rattle.rules.specs.Scan as rules
use Rattle.rules.specs.Scan.{only, yes_from, successors, sole}
use Rattle.rules.specs.Exist.{Mend}
use Rattle.rules.specs.Graph.{spell, Walk, start, moved, halt, walk, walk_from}
use Rattle.rules.specs.Driver.{weaker, weakest}
use Rattle.rules_laws.proofs.Kmer.{Known}
use Rattle.rules_laws.proofs.Support.{weakest-append}
use Rattle.rules_laws.proofs.Growth.{length-spell}
use Rattle.kmer.specs.declared.Kmer.{Kmer as KmerOf}
use Rattle.kmer.specs.Kmer.{kmer_of, IsKmer, HasLetters}
use Rattle.set.specs.Counted.{set_with}
use Rattle.set.proofs.Counted.{with-count}
use Rattle.std.specs.Prelude.{Option as Maybe, Some}
use Rattle.successors.specs.Successors.{nuc_of, places_of}
use Rattle.scan.specs.Attempt.{MendIs}
use Rattle.scan.proofs.Laws.{add_all-snoc}
use Rattle.successors.proofs.Laws.{known-four, letter-back, leads-on, nuc-lt, next-kmer, sole-place}
use Rattle.walk.specs.Walk.{Holds, walk_mend}

-- ---- letters in a lent output

-- all of them, where there is room
holds-all : (letters out : List ℕ) → length letters ≤ length out → Holds letters out → letters ≡ take (length letters) out
holds-all letters out l h = sym (take_all (length out) letters l) ∙ h

-- one letter more, written where there is room
holds_more : (letters out : List ℕ) (a i : ℕ) → length letters ≡ i → Holds letters out → Holds (letters ++ (a ∷ [])) (set out i a)
holds_more letters out a i e h = elim (dec_le (length out) i) [ yes l ↦ full l | no l ↦ room (omega arith) ]
  where
    longer : length (letters ++ (a ∷ [])) ≡ suc i
    longer = length-append letters (a ∷ []) ∙ omega arith

    full : length out ≤ i → Holds (letters ++ (a ∷ [])) (set out i a)
    full l =
        rw (set_out out i a l, take-append-le (length out) letters (a ∷ []) (omega arith), longer, take_all (suc i) out (omega arith))
        (h ∙ take_all (length letters) out (omega arith))

    room : i < length out → Holds (letters ++ (a ∷ [])) (set out i a)
    room l =
        rw (length-set, take_all (length out) (letters ++ (a ∷ [])) (omega (arith, longer)), longer, take-suc-set out i a l)
        (ap (λ (ls : List ℕ). ls ++ (a ∷ [])) (holds-all letters out (omega arith) h ∙ ap (λ (n : ℕ). take n out) e))

-- ---- k-mers in turn

pub spell-snoc : (ys : List Kmer) (z : Kmer) → spell (ys ++ (z ∷ [])) ≡ spell ys ++ (last_letter z ∷ [])
unfolding spell
spell-snoc [] z = refl
spell-snoc (y ∷ ys) z = ap (λ (l : List ℕ). last_letter y ∷ l) (spell-snoc ys z)

pub weakest-one : (count : Kmer → ℕ) (y : Kmer) → weakest count (y ∷ []) ≡ some (count y)
unfolding weakest weaker
weakest-one count y = refl

pub weakest-snoc : (count : Kmer → ℕ) (ys : List Kmer) (z : Kmer) (w : ℕ) → weakest count ys ≡ some w
    → weakest count (ys ++ (z ∷ [])) ≡ some (min w (count z))
unfolding weakest weaker
weakest-snoc count ys z w e = weakest-append count ys (z ∷ []) ∙ ap (λ (o : Option ℕ). weaker o (some (count z))) e

-- The move from y by the code's choice r among the answers f, to y': the count at its letter's place is that of y'.
pub move-count : (bytes counts : List ℕ) (k : ℕ) (y : Kmer) {f : List Bool} (r : Maybe ℕ) → f ≡ successors k (solid (set_of bytes)) y
    → nuc_of r ≡ only (yes_from 0 f) → (a : ℕ) (y' : KmerOf) {ps : List ℕ} {c : ℕ} → r ≡ Some a → HasLetters k (add k y a) y'
    → ps ≡ places_of (set_of bytes) k y → c ≡ get_or counts (get_or ps a 0) 0 → c ≡ count_of (set_with bytes counts) (kmer_of y')
move-count bytes counts k y r found choice-is a y' {ps} {c} e h ps-is c-is =
    let sol : ℕ → Bool = solid (set_of bytes) in
    let p = sole-place (set_of bytes) k y (kmer_of y') a (next-kmer k sol y r found choice-is a e h).0 h.is (nuc-lt k sol y r found choice-is a e) in
    c-is ∙ ap (λ (l : List ℕ). get_or counts (get_or l a 0) 0) ps-is ∙ sym (with-count bytes counts (kmer_of y') _ p)

-- ---- a walk

abbrev pub halted : ℕ → Try (List Kmer)
halted l = record { answer = none; lookups = l }

-- a walk from x via others to at, which equals t: that many letters, in out, after l lookups, w the smallest count of its k-mers
pub record Arrived (k n : ℕ) (sol : ℕ → Bool) (count : Kmer → ℕ) (t x at : Kmer) (l many w : ℕ) (out : List ℕ) : Type 0 where
  pub via : List Kmer
  pub many_are : length via + 1 ≡ many
  pub holds : Holds (spell (x ∷ via)) out
  pub ends : add_all k x (spell via) ≡ at
  pub weakest_is : weakest count (x ∷ via) ≡ some w
  pub is : walk_from k n sol t x ≡ record { answer = some (x ∷ via); lookups = l }

-- where a walk stands after i moves
abbrev standing : Kmer → Kmer → ℕ → ℕ → List Kmer → Walk
standing at mark i marks_at seen =
    record { at = at; mark = mark; moves = i; marks_at = marks_at; seen = seen; lookups = 4 * i }

-- what a walk from x to t still does after i moves, via others to at, its letters in out, w the smallest count so far
pub record Going (k n : ℕ) (sol : ℕ → Bool) (count : Kmer → ℕ) (t x at mark : Kmer) (i marks_at w : ℕ) (out : List ℕ) : Type 0 where
  pub via : List Kmer
  pub many_are : length via ≡ i
  pub holds : Holds (spell (x ∷ via)) out
  pub ends : add_all k x (spell via) ≡ at
  pub weakest_is : weakest count (x ∷ via) ≡ some w
  pub rest : walk_from k n sol t x ≡ walk k sol (6 * n - i) t (standing at mark i marks_at (x ∷ via))

pub going_start : (k n : ℕ) (sol : ℕ → Bool) (count : Kmer → ℕ) (t x : Kmer) (out : List ℕ) → same x t ≡ false
    → Going k n sol count t x x x 0 1 (count x) (set out 0 (last_letter x))
unfolding walk_from start spell add_all
going_start k n sol count t x out e =
    record {
      via = [];
      many_are = refl;
      holds = holds_more [] out (last_letter x) 0 refl (take-nil (length out));
      ends = refl;
      weakest_is = weakest-one count x;
      rest = rw (e, walk_from, sub-zero);
    }

-- of m moves i are made, and one more is left
pub one-move : {m i : ℕ} → i < m → m - i ≡ suc (m - (i + 1))
one-move h = omega arith

-- the k-mer that it stands at has no unknown letter
module _ {k n : ℕ} {sol : ℕ → Bool} {count : Kmer → ℕ} {t x at mark : Kmer} {i marks_at w : ℕ} {out : List ℕ} (low : 1 ≤ k) (known : Known at)
    (g : Going k n sol count t x at mark i marks_at w out) (lt : i < 6 * n) where
  pub walk-dead : (sole k sol at).answer ≡ none → walk_from k n sol t x ≡ halted (4 * i + 4)
  unfolding walk halt
  walk-dead e = g.rest ∙ rw (one-move lt, walk, e, known-four k at low sol known)

  module _ (y : Kmer) (e : (sole k sol at).answer ≡ some y) where
    via' : List Kmer
    via' = g.via ++ (y ∷ [])

    many' : length via' ≡ i + 1
    unfolding via'
    many' = length-append g.via (y ∷ []) ∙ omega (arith, g.many_are)

    holds' : Holds (spell (x ∷ via')) (set out (i + 1) (last_letter y))
    unfolding via'
    holds' =
        rw (spell-snoc (x ∷ g.via) y)
        (holds_more (spell (x ∷ g.via)) out (last_letter y) (i + 1) (length-spell (x ∷ g.via) ∙ omega (arith, g.many_are)) g.holds)

    ends' : add_all k x (spell via') ≡ y
    unfolding via'
    ends' =
        ap (add_all k x) (spell-snoc g.via y)
        ∙ add_all-snoc k x (spell g.via) (last_letter y)
        ∙ ap (λ (z : Kmer). add_base k z (last_letter y)) g.ends
        ∙ letter-back k sol at y low e

    weakest' : weakest count (x ∷ via') ≡ some (min w (count y))
    unfolding via'
    weakest' = weakest-snoc count (x ∷ g.via) y w g.weakest_is

    pub walk-arrives : same y t ≡ true → Arrived k n sol count t x y (4 * i + 4) (i + 2) (min w (count y)) (set out (i + 1) (last_letter y))
    unfolding walk via'
    walk-arrives h =
        record {
          via = via';
          many_are = omega (arith, many');
          holds = holds';
          ends = ends';
          weakest_is = weakest';
          is = g.rest ∙ rw (one-move lt, walk, e, h, known-four k at low sol known);
        }

    module _ (ne : same y t ≡ false) where
      pub walk_meets : same y mark ≡ true → walk_from k n sol t x ≡ halted (4 * i + 4)
      unfolding walk halt
      walk_meets h = g.rest ∙ rw (one-move lt, walk, e, ne, h, known-four k at low sol known)

      module _ (new : same y mark ≡ false) where
        goes : walk_from k n sol t x ≡ walk k sol (6 * n - (i + 1)) t (moved (standing at mark i marks_at (x ∷ g.via)) y 4)
        unfolding walk
        goes = g.rest ∙ rw (one-move lt, walk, e, ne, new, known-four k at low sol known)

        cost : 4 * (i + 1) ≡ 4 * i + 4
        cost = omega arith

        pub walk-marks : i + 1 ≡ marks_at
            → Going k n sol count t x y y (i + 1) (2 * marks_at) (min w (count y)) (set out (i + 1) (last_letter y))
        unfolding moved via'
        walk-marks h =
            record {
              via = via';
              many_are = many';
              holds = holds';
              ends = ends';
              weakest_is = weakest';
              rest = goes ∙ rw (cost, add-one, eq-eqb (suc i) marks_at (sym (add-one i) ∙ h));
            }

        pub walk-goes : (i + 1 ≡ marks_at → ⊥)
            → Going k n sol count t x y mark (i + 1) marks_at (min w (count y)) (set out (i + 1) (last_letter y))
        unfolding moved via'
        walk-goes h =
            record {
              via = via';
              many_are = many';
              holds = holds';
              ends = ends';
              weakest_is = weakest';
              rest = goes ∙ rw (cost, add-one, ne_eqb (suc i) marks_at (λ q. h (add-one i ∙ q)));
            }

-- T = x
pub walk-stays : (k n : ℕ) (sol : ℕ → Bool) (t x : Kmer) → same x t ≡ true → walk_from k n sol t x ≡ halted 0
unfolding walk_from refuse
walk-stays k n sol t x e = rw (e, walk_from)

-- the fuel has run out
pub walk-over : {k n : ℕ} {sol : ℕ → Bool} {count : Kmer → ℕ} {t x at mark : Kmer} {i marks_at w : ℕ} {out : List ℕ}
    → Going k n sol count t x at mark i marks_at w out → 6 * n ≤ i → walk_from k n sol t x ≡ halted (4 * i)
unfolding walk halt
walk-over {n = n} {i = i} g e =
    let z : 6 * n - i ≡ 0 = omega arith in
    let l : 4 * i + 0 ≡ 4 * i = omega arith in
    g.rest ∙ rw (z, l)

-- ---- the attempt that a walk makes, m lookups having been made before it

module _ (k n : ℕ) (sol : ℕ → Bool) (sc : rules.Scan) (x : Kmer) (m : ℕ) where
  abbrev tried : Try Mend
  tried = after m (walk_mend k n sol sc x)

  pub walk_refused : (l l' : ℕ) → walk_from k n sol sc.end x ≡ halted l → l' ≡ m + l → (tried.answer ≡ none) × (tried.lookups ≡ l')
  unfolding after walk_mend ◌>>=◌ next refuse
  walk_refused l l' e q = (rw (e, walk_mend), rw (e, walk_mend) (omega arith))

  -- z is where it arrived, y a bad k-mer in whose place x stands
  pub walk-mends : {count : Kmer → ℕ} {l many w : ℕ} {out : List ℕ} {z : KmerOf} → Arrived k n sol count sc.end x (kmer_of z) l many w out
      → IsKmer k z → (l' : ℕ) → l' ≡ m + l → (y : Kmer) → in_place k y (last_letter x ∷ []) ≡ x
      → MendIs k y count out tried.answer many (sc.index + 1) w z × (tried.lookups ≡ l')
  unfolding after walk_mend ◌>>=◌ next give spell
  walk-mends {many = many} {out = out} r is-kmer l' q y h =
      let letters : List ℕ = spell (x ∷ r.via) in
      let c : length letters ≡ many = length-spell (x ∷ r.via) ∙ omega (arith, r.many_are) in (
        record {
          letters = letters;
          on = x ∷ r.via;
          is = rw (r.is, walk_mend, add-one);
          many = c;
          written = λ le. sym (holds-all letters out (omega arith) r.holds ∙ ap (λ (i : ℕ). take i out) c);
          weakest_is = r.weakest_is;
          placed = record { is = sym (leads-on k y x (spell r.via) h ∙ r.ends); kmer = is-kmer };
        },
        rw (r.is, walk_mend) (omega arith),
      )
