-- The ends of a bridge: the k-mer of a code, and whether it is solid.
use Prim.Native.Nat.{ℕ, suc, ◌+◌, ◌*◌, ◌-◌, ◌/◌, ◌%◌, ◌^◌, ◌≤◌, ◌<◌}
use native.Mathlib.Omega.{arith}
use native.Mathlib.Nat.{pow-suc, div-div-eq-div-mul, div-le_self, div-eq_of_lt, div-one, mod-eq_of_lt}
use borrow.Author.Tests.{lt-ltb, le-ltb}
use mathlib.Core.Path.{◌≡◌, refl, sym, ap, ◌∙◌}
use mathlib.Core.Bool.{false}
use mathlib.Core.List.{List, []}
use Rattle.rules.specs.Letters as letters
use Rattle.rules.specs.Letters.{push, add, add_all, kmer, code, mask}
use Rattle.rules.specs.Set.{KmerSet, header_k, set_of, solid}
use Rattle.rules_bridge.specs.Bridge.{known, solid_code}
use Rattle.rules_laws.proofs.Kmer.{four-pos, two-four}
use Rattle.kmer.specs.declared.Kmer.{Kmer}
use Rattle.kmer.specs.Kmer.{kmer_of}
use Rattle.rules_bridge.proofs.Codes.{add-known}

-- ---- the k-mer of a code

-- letters A
letters-A : (k : ℕ) → kmer k [] ≡ known 0
unfolding kmer add_all
letters-A k = refl

module _ (k c : ℕ) (small : c < 4 ^ k) where
  pub none_yet : kmer k [] ≡ known (c / 4 ^ k)
  none_yet = letters-A k ∙ ap known (sym (div-eq_of_lt small))

  -- one letter more of the code
  one_more : (r : ℕ) → add k (known (c / 4 ^ suc r)) (c / 4 ^ r % 4) ≡ known (c / 4 ^ r)
  unfolding push
  one_more r =
      let e : c / 4 ^ suc r ≡ c / 4 ^ r / 4 = ap (λ (n : ℕ). c / n) (pow-suc 4 r) ∙ sym (div-div-eq-div-mul c (4 ^ r) 4) in
      let d : 4 * (c / 4 ^ suc r) + c / 4 ^ r % 4 ≡ c / 4 ^ r = rw e (omega arith) in
      let lt : c / 4 ^ r < 4 ^ k = omega (arith, div-le_self c (4 ^ r)) in
      add-known k (known (c / 4 ^ suc r)) (c / 4 ^ r % 4) refl (omega arith)
      ∙ ap known (ap (λ (n : ℕ). n % 4 ^ k) d ∙ mod-eq_of_lt lt)

  -- the same as the code has it, with n letters to come
  pub letter-on : (n : ℕ) → 1 ≤ n → n ≤ k → add k (known (c / 4 ^ n)) (c / 2 ^ (2 * (n - 1)) % 4) ≡ known (c / 4 ^ (n - 1))
  letter-on n h le =
      let r : n ≡ suc (n - 1) = omega arith in
      ap (λ (m : ℕ). add k (known (c / 4 ^ m)) (c / 2 ^ (2 * (n - 1)) % 4)) r ∙ rw (two-four (n - 1)) (one_more (n - 1))

  pub none_left : (n : ℕ) → n ≡ 0 → known (c / 4 ^ n) ≡ known c
  none_left n e = ap (λ (m : ℕ). known (c / 4 ^ m)) e ∙ ap known (div-one c)

-- what is known of it
pub known-all : (y : Kmer) {c : ℕ} → kmer_of y ≡ known c → y.unknown ≡ 0
unfolding kmer_of
known-all y e = ap (λ (z : letters.Kmer). z.unknown) e

pub known_is : (y : Kmer) {c : ℕ} → kmer_of y ≡ known c → y.code ≡ c
unfolding kmer_of
known_is y e = ap (λ (z : letters.Kmer). z.code) e

pub known-code : (set : KmerSet) (y : Kmer) {c : ℕ} → kmer_of y ≡ known c → solid set y.code ≡ solid set c
known-code set y e = ap (solid set) (known_is y e)

-- ---- codes of 4^k or more

pub code-small : (k : ℕ) {m c : ℕ} → m ≡ mask k → c ≤ m → c < 4 ^ k
unfolding mask
code-small k e h = omega (arith, four-pos k)

module _ (bytes : List ℕ) (k c : ℕ) (k_is : k ≡ header_k bytes) where
  pub solid-small : c < 4 ^ k → solid_code (set_of bytes) c ≡ solid (set_of bytes) c
  unfolding solid_code set_of
  solid-small h = let l : c < 4 ^ header_k bytes = rw k_is at h in rw (lt-ltb c (4 ^ header_k bytes) l)

  pub solid-large : {m : ℕ} → m ≡ mask k → m < c → solid_code (set_of bytes) c ≡ false
  unfolding solid_code set_of mask
  solid-large e h =
      let l : 4 ^ k ≤ c = omega arith in
      let l' : 4 ^ header_k bytes ≤ c = rw k_is at l in
      rw (le-ltb c (4 ^ header_k bytes) l')
