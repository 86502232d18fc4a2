-- Laws of bases added and the scan in the code's terms.
use Prim.Native.Nat.{ℕ, ◌+◌, ◌≤◌, ◌<◌}
use native.Mathlib.Numerals.{add-one}
use native.Mathlib.Omega.{arith}
use mathlib.Core.Path.{◌≡◌, refl, sym, ap, ◌∙◌}
use mathlib.Core.Bool.{Bool, true, false}
use mathlib.Core.Option.{none, some}
use mathlib.Core.List.{List, [], ◌∷◌, ◌++◌}
use lib.ListN.{length, drop, get_or, drop_of_length-le}
use lib.Seq.{drop-cons}
use Rattle.rules.specs.Letters.{Kmer, add_base, add_all}
use Rattle.rules.specs.Counted.{Try, after, refuse, next, ◌>>=◌}
use Rattle.rules.specs.Scan.{ask, scan_from}
use Rattle.set.specs.declared.Asked.{Asked}
use Rattle.set.specs.Asked.{AskedIs}

-- ---- bases added one by one

module _ (k : ℕ) (z : Kmer) (bs : List ℕ) (i : ℕ) where
  pub add-next : {z' : Kmer} → i < length bs → z' ≡ add_base k z (get_or bs i 0) → add_all k z (drop i bs) ≡ add_all k z' (drop (i + 1) bs)
  unfolding add_all
  add-next h e = rw (drop-cons bs i 0 h, add-one, e)

  pub add-end : length bs ≤ i → add_all k z (drop i bs) ≡ z
  unfolding add_all
  add-end h = rw (drop_of_length-le bs h)

pub add_all-snoc : (k : ℕ) (y : Kmer) (bs : List ℕ) (b : ℕ) → add_all k y (bs ++ (b ∷ [])) ≡ add_base k (add_all k y bs) b
unfolding add_all
add_all-snoc k y [] b = refl
add_all-snoc k y (a ∷ bs) b = add_all-snoc k (add_base k y a) bs b

-- ---- the scan

-- at the base j of s: z' is the next k-mer, r what it answered
module _ (k : ℕ) (sol : ℕ → Bool) (l j : ℕ) (z : Kmer) (s : List ℕ) where
  module _ {z' : Kmer} {r : Asked} (h : j < length s) (z-is : z' ≡ add_base k z (get_or s j 0)) (asked : AskedIs (ask sol z') r) where
    answered : {t : Bool} → r.solid ≡ t → (ask sol (add_base k z (get_or s j 0))).answer ≡ t
    answered e = ap (λ (y : Kmer). (ask sol y).answer) (sym z-is) ∙ sym asked.solid ∙ e

    cost : (ask sol (add_base k z (get_or s j 0))).lookups ≡ r.lookups
    cost = ap (λ (y : Kmer). (ask sol y).lookups) (sym z-is) ∙ sym asked.lookups

    pub scan-found : r.solid ≡ true → scan_from k sol l j z (drop j s) ≡ record { index = j; end = z'; lookups = l + r.lookups }
    unfolding scan_from
    scan-found e = rw (drop-cons s j 0 h, scan_from, answered e, cost, z-is)

    pub scan-on : r.solid ≡ false → scan_from k sol l j z (drop j s) ≡ scan_from k sol (l + r.lookups) (j + 1) z' (drop (j + 1) s)
    unfolding scan_from
    scan-on e = rw (drop-cons s j 0 h, scan_from, answered e, cost, add-one j, z-is)

  pub scan-end : length s ≡ j → scan_from k sol l j z (drop j s) ≡ record { index = length s; end = z; lookups = l }
  unfolding scan_from
  scan-end h = let e : length s ≤ j = omega (arith, h) in rw (drop_of_length-le s e, h)

-- ---- answers in turn, with what they cost

-- m refuses, or answers a, after l lookups
pub refused-bind : {A B : Type 0} {m : Try A} {l : ℕ} (f : A → Try B) → m ≡ record { answer = none; lookups = l }
    → m >>= f ≡ record { answer = none; lookups = l }
unfolding ◌>>=◌ next after refuse
refused-bind {l = l} f e = rw e (let z : l + 0 ≡ l = omega arith in λ i. record { answer = none; lookups = z i })

pub given-bind : {A B : Type 0} {m : Try A} {a : A} {l : ℕ} (f : A → Try B) → m ≡ record { answer = some a; lookups = l } → m >>= f ≡ after l (f a)
unfolding ◌>>=◌ next after
given-bind f e = rw e refl

pub after-after : {A : Type 0} (s l : ℕ) (t : Try A) → after s (after l t) ≡ after (s + l) t
unfolding after
after-after s l t = let z : s + (l + t.lookups) ≡ s + l + t.lookups = omega arith in λ i. record { answer = t.answer; lookups = z i }
