-- A gap move by move, its k-mers found again from its letters, and its smallest count.
use Prim.Native.Nat.{ℕ, zero, suc, ◌+◌, ◌*◌, ◌-◌, ◌^◌, ◌≤◌, ◌<◌, min}
use native.Mathlib.Omega.{arith}
use native.Mathlib.Nat.{sub-zero}
use native.Mathlib.Numerals.{add-one}
use mathlib.Core.Path.{◌≡◌, refl, sym, ap, ◌∙◌}
use mathlib.Core.Bool.{Bool, true, false}
use mathlib.Core.Option.{Option, none, some}
use mathlib.Core.List.{List, [], ◌∷◌, ◌++◌}
use lib.ListN.{length, take, drop, set}
use lib.Seq.{slice, slice_empty, take-suc-set, drop-append-le, length-take-le}
use Rattle.rules.specs.Letters.{Kmer, met, add_base, add_all, last_letter, in_place}
use Rattle.rules.specs.Set.{max_keys, header_k, set_of, solid}
use Rattle.rules.specs.Counted.{Try, after, refuse, give, next, ◌>>=◌}
use Rattle.rules.specs.Scan.{ask, sole}
use Rattle.rules.specs.Exist.{Mend}
use Rattle.rules.specs.Graph.{end, also, end-distinct, also-distinct, spell}
use Rattle.rules.specs.GapSize.{gap}
use Rattle.rules.specs.Driver.{weakest}
use Rattle.rules_laws.proofs.Kmer.{Known}
use Rattle.rules_laws.proofs.Few.{SolidKmer, few}
use Rattle.rules_laws.proofs.Growth.{length-spell}
use Rattle.rules_laws.proofs.Correctors.{gap-any, gap-cost}
use Rattle.kmer.specs.declared.shifts.Header.{Header}
use Rattle.kmer.specs.declared.Kmer.{Kmer as KmerOf}
use Rattle.kmer.specs.Kmer.{kmer_of, IsKmer}
use Rattle.set.specs.Ready.{Ready}
use Rattle.set.proofs.Opened.{opened-n-le, set-count}
use Rattle.scan.proofs.Laws.{add_all-snoc}
use Rattle.successors.proofs.Laws.{known-four, letter-back, leads-on}
use Rattle.scan.specs.Attempt.{MendIs}
use Rattle.walk.proofs.Laws.{spell-snoc, weakest-one, weakest-snoc, one-move}
use Rattle.passed.specs.Passed.{onward, passed}
use Rattle.gap.specs.Gap.{gap_mend}

-- ---- the k-mers that letters lead through

onward-snoc : (k : ℕ) (y : Kmer) (bs : List ℕ) (b : ℕ) → onward k y (bs ++ (b ∷ [])) ≡ onward k y bs ++ (add_base k (add_all k y bs) b ∷ [])
unfolding onward add_all
onward-snoc k y [] b = refl
onward-snoc k y (a ∷ bs) b = ap (λ (l : List Kmer). add_base k y a ∷ l) (onward-snoc k (add_base k y a) bs b)

-- one letter more
slice-more : (out : List ℕ) (i a : ℕ) → i + 1 < length out → slice 1 (i + 1 + 1) (set out (i + 1) a) ≡ slice 1 (i + 1) out ++ (a ∷ [])
slice-more out i a l =
    rw (add-one (i + 1), take-suc-set out (i + 1) a l)
    (drop-append-le 1 (take (i + 1) out) (a ∷ []) (rw (length-take-le (i + 1) out (omega arith)) (omega arith)))

-- ---- a gap

-- what a gap of m moves from x still does after i of them, their letters in out, w the smallest count so far
pub record Filling (k : ℕ) (sol : ℕ → Bool) (count : Kmer → ℕ) (m : ℕ) (x at : Kmer) (i w : ℕ) (out : List ℕ) : Type 0 where
  pub rest : gap k sol m (x ∷ []) x 0 ≡ gap k sol (m - i) (passed k x i out) at (4 * i)
  pub spelled : spell (passed k x i out) ≡ take (i + 1) out
  pub ends : add_all k x (slice 1 (i + 1) out) ≡ at
  pub weakest_is : weakest count (passed k x i out) ≡ some w

pub passed_none : (k : ℕ) (x : Kmer) (out : List ℕ) → passed k x 0 out ≡ x ∷ []
unfolding onward
passed_none k x out = rw (slice_empty 1 out)

pub filling-start : (k : ℕ) (sol : ℕ → Bool) (count : Kmer → ℕ) (m : ℕ) (x : Kmer) (out : List ℕ) → 0 < length out
    → Filling k sol count m x x 0 (count x) (set out 0 (last_letter x))
unfolding onward add_all spell
filling-start k sol count m x out l =
    let e = slice_empty 1 (set out 0 (last_letter x)) in
    record {
      rest = rw (e, sub-zero);
      spelled = rw (e, take-suc-set out 0 (last_letter x) l);
      ends = rw e;
      weakest_is = ap (weakest count) (passed_none k x (set out 0 (last_letter x))) ∙ weakest-one count x;
    }

-- the k-mer at which it stands has no unknown letter
module _ {k : ℕ} {sol : ℕ → Bool} {count : Kmer → ℕ} {m : ℕ} {x at : Kmer} {i w : ℕ} {out : List ℕ} (low : 1 ≤ k) (known : Known at)
    (f : Filling k sol count m x at i w out) (lt : i < m) where
  abbrev stopped : Try (List Kmer)
  stopped = record { answer = none; lookups = 4 * i + 4 }

  pub gap-dead : (sole k sol at).answer ≡ none → gap k sol m (x ∷ []) x 0 ≡ stopped
  unfolding gap
  gap-dead e = f.rest ∙ rw (one-move lt, gap, e, known-four k at low sol known)

  module _ (z : Kmer) (e : (sole k sol at).answer ≡ some z) where
    pub gap-repeats : met z (passed k x i out) ≡ true → gap k sol m (x ∷ []) x 0 ≡ stopped
    unfolding gap
    gap-repeats h = f.rest ∙ rw (one-move lt, gap, e, h, known-four k at low sol known)

    module _ (room : i + 1 < length out) where
      back : add_base k (add_all k x (slice 1 (i + 1) out)) (last_letter z) ≡ z
      back = rw f.ends (letter-back k sol at z low e)

      pub passed-more : passed k x (i + 1) (set out (i + 1) (last_letter z)) ≡ passed k x i out ++ (z ∷ [])
      passed-more = rw (slice-more out i (last_letter z) room, onward-snoc, back)

      pub gap-goes : met z (passed k x i out) ≡ false → Filling k sol count m x z (i + 1) (min w (count z)) (set out (i + 1) (last_letter z))
      unfolding gap
      gap-goes h =
          let l : 4 * (i + 1) ≡ 4 * i + 4 = omega arith in
          record {
            rest = f.rest ∙ rw (one-move lt, gap, e, h, known-four k at low sol known, passed-more, l);
            spelled = ap spell passed-more ∙ spell-snoc (passed k x i out) z ∙ rw (f.spelled, add-one (i + 1), take-suc-set out (i + 1) (last_letter z) room);
            ends = rw (slice-more out i (last_letter z) room) (add_all-snoc k x (slice 1 (i + 1) out) (last_letter z) ∙ back);
            weakest_is = ap (weakest count) passed-more ∙ weakest-snoc count (passed k x i out) z w f.weakest_is;
          }

-- ---- what it costs

module _ (k : ℕ) (sol : ℕ → Bool) where
  gap-least : (m : ℕ) (seen : List Kmer) (y : Kmer) (l : ℕ) → l ≤ (gap k sol m seen y l).lookups
  unfolding gap
  gap-least zero seen y l = omega arith
  gap-least (suc m) seen y l = go (λ z. gap-least m (seen ++ (z ∷ [])) z (l + (sole k sol y).lookups)) (sole k sol y).answer refl
    where
      cost : ℕ
      cost = (sole k sol y).lookups

      go : ((z : Kmer) → l + cost ≤ (gap k sol m (seen ++ (z ∷ [])) z (l + cost)).lookups) → (o : Option Kmer) → (sole k sol y).answer ≡ o
          → l ≤ (gap k sol (suc m) seen y l).lookups
      go i none e = rw (e, gap) (omega arith)
      go i (some z) e = on (met z seen) refl
        where
          on : (q : Bool) → met z seen ≡ q → l ≤ (gap k sol (suc m) seen y l).lookups
          on true h = rw (e, gap, h) (omega arith)
          on false h = rw (e, gap, h) (omega (arith, i z))

-- no k-mer comes twice, so a gap makes at most 2n moves
pub gap-bound : {bytes starts : List ℕ} {head : Header} → Ready bytes starts head → (m : ℕ) (x : Kmer) → x.code < 4 ^ head.k
    → (ask (solid (set_of bytes)) x).answer ≡ true
    → (gap head.k (solid (set_of bytes)) m (x ∷ []) x 0).lookups ≤ 8 * max_keys
unfolding set_of met SolidKmer
gap-bound {bytes} {starts} {head} r m x lt lit =
    let n = opened-n-le bytes r.table.opens in
    let c = set-count bytes in
    let g : SolidKmer (header_k bytes) (solid (set_of bytes)) x = (rw (← r.k_is) lt, lit) in
    rw r.k_is
    (omega (
      arith,
      gap-cost (header_k bytes) (solid (set_of bytes)) (length (set_of bytes).keys) (few (set_of bytes)) m (x ∷ []) x 0
          (also-distinct refl end-distinct) (also g end),
    ))

pub gap-room : {k : ℕ} {sol : ℕ → Bool} {count : Kmer → ℕ} {m : ℕ} {x at : Kmer} {i w : ℕ} {out : List ℕ} → Filling k sol count m x at i w out
    → (gap k sol m (x ∷ []) x 0).lookups ≤ 8 * max_keys → 4 * i ≤ 8 * max_keys
gap-room {k} {sol} {count} {m} {x} {at} {i} {w} {out} f h =
    omega (arith, ap (λ (t : Try (List Kmer)). t.lookups) f.rest, gap-least k sol (m - i) (passed k x i out) at (4 * i))

-- ---- the attempt that a gap makes, l lookups having been made before it

module _ (k : ℕ) (sol : ℕ → Bool) (m : ℕ) (x : Kmer) (l : ℕ) where
  abbrev tried : Try Mend
  tried = after l (gap_mend k sol m x)

  pub gap-refused : (i l' : ℕ) → gap k sol m (x ∷ []) x 0 ≡ record { answer = none; lookups = 4 * i + 4 } → l' ≡ l + 4 * i + 4
      → (tried.answer ≡ none) × (tried.lookups ≡ l')
  unfolding after gap_mend ◌>>=◌ next refuse
  gap-refused i l' e q = (rw (e, gap_mend), rw (e, gap_mend) (omega arith))

  -- z is where it ended, y a bad k-mer in whose place x stands
  pub gap-mends : {count : Kmer → ℕ} {z : KmerOf} {i w : ℕ} {out : List ℕ} → Filling k sol count m x (kmer_of z) i w out → IsKmer k z → m ≤ i → i ≤ m
      → (l' : ℕ) → l' ≡ l + 4 * i → (y : Kmer) → in_place k y (last_letter x ∷ []) ≡ x
      → MendIs k y count out tried.answer (m + 1) (m + 1) w z × (tried.lookups ≡ l')
  unfolding after gap_mend ◌>>=◌ next give gap spell
  gap-mends {i = i} {out = out} f is-kmer le ge l' q y h =
      let none_left : m - i ≡ 0 = omega arith in
      let all : i ≡ m = omega arith in
      let v : gap k sol m (x ∷ []) x 0 ≡ record { answer = some (passed k x i out); lookups = 4 * i } = f.rest ∙ rw none_left in
      let many : length (passed k x i out) ≡ m + 1 =
      (gap-any k sol m (x ∷ []) x 0).1 (passed k x i out) (ap (λ (t : Try (List Kmer)). t.answer) v) ∙ omega arith in
      let letters : List ℕ = spell (passed k x i out) in
      let ends : add_all k x (drop 1 letters) ≡ kmer_of _ = ap (λ (ls : List ℕ). add_all k x (drop 1 ls)) f.spelled ∙ f.ends in (
        record {
          letters = letters;
          on = passed k x i out;
          is = rw (v, gap_mend) (λ j. some (record { letters = letters; resume = many j; on = passed k x i out }));
          many = length-spell (passed k x i out) ∙ many;
          written = λ r. sym (f.spelled ∙ ap (λ (n : ℕ). take (n + 1) out) all);
          weakest_is = f.weakest_is;
          placed = record { is = sym (leads-on k y x (drop 1 letters) h ∙ ends); kmer = is-kmer };
        },
        rw (v, gap_mend) (omega arith),
      )
