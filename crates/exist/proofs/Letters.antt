-- The letters of a mend: the last ones of a k-mer, first one first.
use Prim.Native.Nat.{ℕ, zero, suc, ◌+◌, ◌*◌, ◌-◌, ◌/◌, ◌%◌, ◌^◌, ◌≤◌, ◌<◌}
use native.Mathlib.Omega.{arith}
use native.Mathlib.Nat.{pow-succ', div-div-eq-div-mul, div-one}
use native.Mathlib.Numerals.{add-one}
use mathlib.Core.Path.{◌≡◌, sym, ap, ◌∙◌}
use mathlib.Core.List.{List, []}
use lib.ListN.{length, get_or, take, set, get_or-append}
use lib.Seq.{get_or_at, take-suc, take-suc-set, take_all}
use lib.Bits.{bit_and, and_mask}
use Rattle.rules.specs.Letters.{Kmer, code, letter, last_letter, drop_last, last, add_all, in_place}
use Rattle.rules_laws.proofs.Kmer.{two-four, code-letter, last-length}
use Rattle.scenario.specs.declared.mend.Mend.{Mend}
use Rattle.scenario.specs.Scenario.{of_code, spelled_out}
use Rattle.exist.specs.Exist.{LetterIs}

pub spelled-length : (m : Mend) → length (spelled_out m).letters ≡ m.letters
spelled-length m = last-length m.letters (of_code m.code)

-- letter i of n, with j letters behind it
last-at : (n i j : ℕ) (y : Kmer) → n ≡ i + suc j → get_or (last n y) i 0 ≡ letter (y.code / 4 ^ j % 4)
unfolding last last_letter drop_last
last-at zero i j y e = absurd (omega arith)
last-at (suc n) i zero y e =
    let l : length (last n (drop_last y)) ≡ i = last-length n (drop_last y) ∙ omega arith in
    get_or_at (last n (drop_last y)) _ [] 0 i l ∙ rw (div-one y.code)
last-at (suc n) i (suc j) y e =
    let l = last-length n (drop_last y) in
    let q = last-at n i j (drop_last y) (omega arith) in
    get_or-append (last n (drop_last y)) _ 0 i (omega arith) ∙ q ∙ rw (div-div-eq-div-mul, pow-succ')

pub letter-is : (m : Mend) (i : ℕ) → i < m.letters → LetterIs m i (bit_and (m.code / 2 ^ (2 * (m.letters - 1 - i))) 3)
letter-is m i h =
    let j = m.letters - 1 - i in
    let e = and_mask (m.code / 2 ^ (2 * j)) 2 in
    record {
      is = last-at m.letters i j (of_code m.code) (omega arith) ∙ ap letter (ap (λ (p : ℕ). m.code / p % 4) (sym (two-four j)) ∙ sym e);
      small = omega arith;
    }

pub letter-code : {m : Mend} {i a : ℕ} → LetterIs m i a → a ≡ code (get_or (spelled_out m).letters i 0)
letter-code {a = a} q = sym (ap code q.is ∙ code-letter a q.small)

-- letter i of l written after those before it
pub write-next : (out l : List ℕ) (i : ℕ) {v : ℕ} → i < length out → i < length l → take i out ≡ take i l → v ≡ get_or l i 0
    → take (i + 1) (set out i v) ≡ take (i + 1) l
write-next out l i h g e q = rw (add-one, take-suc-set out i _ h, take-suc l i 0 g, e, q)

pub write-end : (out l : List ℕ) (i n : ℕ) → i ≡ n → length l ≤ i → take i out ≡ take i l → take n out ≡ l
write-end out l i n e h q = rw (← e) (q ∙ take_all i l h)

pub placed : (k : ℕ) (y : Kmer) (l : List ℕ) {z z' : Kmer} → z ≡ drop_last y → add_all k z l ≡ z' → z' ≡ in_place k y l
unfolding in_place
placed k y l e q = sym q ∙ ap (λ (w : Kmer). add_all k w l) e
