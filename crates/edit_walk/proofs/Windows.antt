-- A k-mer that rolls over bases is that of their last k.
use Prim.Native.Nat.{ℕ, suc, ◌+◌, ◌*◌, ◌-◌, ◌/◌, ◌%◌, ◌^◌, ◌≤◌, ◌<◌, ◌∣◌}
use native.Mathlib.Omega.{arith}
use native.Mathlib.Nat.{mod-eq_of_lt, mod-mod_of_dvd, dvd-mul_right, one-le-pow}
use borrow.Author.Tests.{ltb-true, ltb-false}
use mathlib.Core.Path.{◌≡◌, refl, sym, ap, ap₂, ◌∙◌, subst}
use mathlib.Core.Bool.{Bool, true, false}
use mathlib.Core.List.{List, [], ◌∷◌, ◌++◌}
use lib.ListN.{length, take, drop, length-drop, take-append-drop}
use lib.Seq.{drop-append-le, take_at}
use lib.Dec.{ltb, lit<}
use lib.Pow.{pow-add}
use Rattle.rules.specs.Letters.{Kmer, push, add, add_base, code, add_all, kmer}
use Rattle.rules_edits.specs.Edits.{kmer_to}
use Rattle.rules_laws.proofs.Kmer.{four-pos, code-le, push-is, add-lt, add-unknown-lt}

power_divides : (base i k : ℕ) → i ≤ k → base ^ i ∣ base ^ k
power_divides base i k h =
    let e : i + (k - i) ≡ k = omega arith in
    subst (λ (n : ℕ). base ^ i ∣ n) (sym (pow-add base i (k - i)) ∙ ap (λ (n : ℕ). base ^ n) e) (dvd-mul_right (base ^ i) (base ^ (k - i)))

-- the last digits of a number, one pushed in
push-low : (base k j y a : ℕ) → suc j ≤ k → a < base → push base k y a % base ^ suc j ≡ y % base ^ j * base + a
unfolding push
push-low base k j y a h g = mod-mod_of_dvd (base ^ suc j) (base * y + a) (power_divides base (suc j) k h) ∙ push-is base j y a g

module _ (k : ℕ) where
  add-append : (y : Kmer) (xs ys : List ℕ) → add_all k y (xs ++ ys) ≡ add_all k (add_all k y xs) ys
  unfolding add_all
  add-append y [] ys = refl
  add-append y (x ∷ xs) ys = add-append (add_base k y x) xs ys

  pub add-snoc : (xs : List ℕ) (b : ℕ) → kmer k (xs ++ (b ∷ [])) ≡ add_base k (kmer k xs) b
  unfolding add_all kmer
  add-snoc xs b = add-append _ xs (b ∷ [])

  -- Of k letters.
  record Small (y : Kmer) : Type 0 where
    code : y.code < 4 ^ k
    unknown : y.unknown < 2 ^ k

  small-add : (y : Kmer) (b : ℕ) → Small (add_base k y b)
  small-add y b = record { code = add-lt k y (code b); unknown = add-unknown-lt k y (code b) }

  small_all : (y : Kmer) (bs : List ℕ) → Small y → Small (add_all k y bs)
  unfolding add_all
  small_all y [] h = h
  small_all y (b ∷ bs) h = small_all (add_base k y b) bs (small-add y b)

  small-none : Small (kmer k [])
  unfolding kmer add_all
  small-none = record { code = four-pos k; unknown = one-le-pow k 2 (lit< tt) }

  -- The same last j letters.
  record Agree (j : ℕ) (y z : Kmer) : Type 0 where
    code : y.code % 4 ^ j ≡ z.code % 4 ^ j
    unknown : y.unknown % 2 ^ j ≡ z.unknown % 2 ^ j

  agree-none : (y z : Kmer) → Agree 0 y z
  agree-none y z = record { code = omega arith; unknown = omega arith }

  agree-all : (y z : Kmer) → Small y → Small z → Agree k y z → y ≡ z
  agree-all y z g h e =
      ap₂ (λ (c u : ℕ). record { code = c; unknown = u })
      (sym (mod-eq_of_lt g.code) ∙ e.code ∙ mod-eq_of_lt h.code)
      (sym (mod-eq_of_lt g.unknown) ∙ e.unknown ∙ mod-eq_of_lt h.unknown)

  agree-more : (j : ℕ) (y z : Kmer) (b : ℕ) → suc j ≤ k → Agree j y z → Agree (suc j) (add_base k y b) (add_base k z b)
  unfolding add
  agree-more j y z b h e =
      let c = code-le b in
      let low : code b % 4 < 4 = omega arith in
      let high : code b / 4 < 2 = omega arith in
      record {
        code = push-low 4 k j y.code (code b % 4) h low ∙ ap (λ (x : ℕ). x * 4 + code b % 4) e.code
            ∙ sym (push-low 4 k j z.code (code b % 4) h low);
        unknown = push-low 2 k j y.unknown (code b / 4) h high ∙ ap (λ (x : ℕ). x * 2 + code b / 4) e.unknown
            ∙ sym (push-low 2 k j z.unknown (code b / 4) h high);
      }

  -- k-mers that agree in some letters are the same behind bases enough to fill the rest
  forget : (bs : List ℕ) (j : ℕ) (y z : Kmer) → Small y → Small z → j ≤ k → k ≤ j + length bs → Agree j y z → add_all k y bs ≡ add_all k z bs
  unfolding add_all
  forget [] j y z g h le en e =
      let q : j ≡ k = omega arith in
      agree-all y z g h (subst (λ (i : ℕ). Agree i y z) q e)
  forget (b ∷ bs) j y z g h le en e =
      go (λ lt m. forget bs (suc j) (add_base k y b) (add_base k z b) (small-add y b) (small-add z b) lt (omega arith) m) (ltb j k) refl
    where
      go : (suc j ≤ k → Agree (suc j) (add_base k y b) (add_base k z b) → add_all k (add_base k y b) bs ≡ add_all k (add_base k z b) bs)
          → (t : Bool) → ltb j k ≡ t → add_all k (add_base k y b) bs ≡ add_all k (add_base k z b) bs
      go r true t = let lt : suc j ≤ k = ltb-true j k t in r lt (agree-more j y z b lt e)
      go r false t =
          let ge = ltb-false j k t in
          let q : j ≡ k = omega arith in
          ap (λ (x : Kmer). add_all k (add_base k x b) bs) (agree-all y z g h (subst (λ (i : ℕ). Agree i y z) q e))

  pub window : (pre post : List ℕ) → k ≤ length pre → kmer_to k (pre ++ post) (length pre) ≡ kmer k pre
  unfolding kmer_to kmer
  window pre post h =
      let d : ℕ = length pre - k in
      let le : d ≤ length pre = omega arith in
      let l : length (drop d pre) ≡ k = length-drop d pre ∙ omega arith in
      let w : take k (drop d (pre ++ post)) ≡ drop d pre =
      ap (take k) (drop-append-le d pre post le) ∙ take_at (drop d pre) post k l in
      let y : Kmer = kmer k (take d pre) in
      ap (kmer k) w
      ∙ forget (drop d pre) 0 (kmer k []) y small-none (small_all _ (take d pre) small-none) (omega arith) (omega arith) (agree-none (kmer k []) y)
      ∙ sym (add-append _ (take d pre) (drop d pre))
      ∙ ap (kmer k) (take-append-drop d pre)
