-- Letters and k-mers: y+b, the last letters, the reverse complement, and the theorem `canonical`.
use Prim.Native.Nat.{ℕ, zero, suc, ◌+◌, ◌*◌, ◌/◌, ◌%◌, ◌^◌, ◌≤◌, ◌<◌}
use native.Mathlib.Omega.{arith}
use native.Mathlib.Nat.{mod-lt, pow-suc, one-le-pow, pow-succ'}
use mathlib.Core.Path.{◌≡◌, refl, sym, ap, ◌∙◌, subst}
use mathlib.Core.Bool.{Bool, true, false, not, ◌&&◌, false≢true, true≢false}
use borrow.Author.Tests.{eqb-true, eqb-false, eq-eqb, ne_eqb}
use lib.Dec.{eqb, lit<}
use lib.ListN.{length, length-append}
use mathlib.Core.List.{[], ◌∷◌}
use lib.Count.{ones_in, ones, ones_step, ones_cat}
use lib.Arith.{mod-mul, digits_lt, digits_div, digits_mod}
use Rattle.rules.specs.Letters.{Kmer, canonical, has_code, all_known, same, push, add, drop_last, add_all, code, letter, last_letter, last, complement, revcomp, even_ones}

-- So many last letters are so many.
pub last-length : (n : ℕ) (y : Kmer) → length (last n y) ≡ n
unfolding last
last-length zero y = refl
last-length (suc n) y = length-append (last n (drop_last y)) (last_letter y ∷ []) ∙ omega (arith, last-length n (drop_last y))

pub four-pos : (j : ℕ) → 0 < 4 ^ j
four-pos j = one-le-pow j 4 (lit< tt)

-- a byte's code is below 4, or 4 where it has none
pub code-le : (b : ℕ) → code b ≤ 4
unfolding code
code-le b = go (has_code b) refl
  where
    go : (t : Bool) → has_code b ≡ t → code b ≤ 4
    go true e = rw (e, code) (omega arith)
    go false e = rw (e, code) (omega arith)

pub code_lt : (b : ℕ) → has_code b ≡ true → code b < 4
unfolding code
code_lt b h = rw (h, code) (omega arith)

-- ---- equal k-mers

-- y has no unknown letter
abbrev pub Known : Kmer → Type 0
Known y = y.unknown ≡ 0

pub known-true : (y : Kmer) → Known y → all_known y ≡ true
unfolding all_known
known-true y h = eq-eqb y.unknown 0 h

pub all_known_lem : (y : Kmer) → all_known y ≡ true → Known y
unfolding all_known
all_known_lem y h = eqb-true y.unknown 0 h

pub ne-known : (y : Kmer) → (Known y → ⊥) → all_known y ≡ false
unfolding all_known
ne-known y n = ne_eqb y.unknown 0 n

-- equal k-mers are one and have no unknown letter
pub same_true : (y z : Kmer) → same y z ≡ true → y ≡ z
unfolding same
same_true y z h = go (all_known y) refl (all_known z) refl h
  where
    go : (p : Bool) → all_known y ≡ p → (q : Bool) → all_known z ≡ q → p && q && eqb y.code z.code ≡ true → y ≡ z
    go true e true f h =
        let c : y.code ≡ z.code = eqb-true y.code z.code h in
        let u : y.unknown ≡ z.unknown = all_known_lem y e ∙ sym (all_known_lem z f) in
        λ i. record { code = c i; unknown = u i }
    go true e false f h = absurd (false≢true h)
    go false e q f h = absurd (false≢true h)

-- a k-mer without unknown letters is equal to itself
pub same_self : (y : Kmer) → Known y → same y y ≡ true
unfolding same
same_self y h = rw (known-true y h, eq-eqb y.code y.code refl)

pub same-eq : (y z : Kmer) → Known y → y ≡ z → same y z ≡ true
same-eq y z h e = subst (λ (v : Kmer). same y v ≡ true) e (same_self y h)

pub same-ne : (y z : Kmer) → (y ≡ z → ⊥) → same y z ≡ false
same-ne y z n = go (same y z) refl
  where
    go : (t : Bool) → same y z ≡ t → t ≡ false
    go true e = absurd (n (same_true y z e))
    go false e = refl

pub same_false : (y z : Kmer) → Known y → same y z ≡ false → y ≡ z → ⊥
same_false y z h n e = true≢false (sym (same-eq y z h e) ∙ n)

-- codes of equal k-mers, where both are known
pub same_code : (y z : Kmer) → Known y → Known z → same y z ≡ eqb y.code z.code
unfolding same
same_code y z h g = rw (known-true y h, known-true z g)

-- ---- y+b

-- a digit pushed for k = j + 1: what is left of y, times the base, and the digit
pub push-is : (base j y a : ℕ) → a < base → push base (suc j) y a ≡ y % base ^ j * base + a
unfolding push
push-is base j y a h =
    let p : 0 < base = omega arith in
    let e : base * y + a ≡ y * base + a = omega arith in
    rw (e, pow-suc, mod-mul (y * base + a) (one-le-pow j base p) p, digits_div y h, digits_mod y h)

pub push-lt : (base k y a : ℕ) → 0 < base → push base k y a < base ^ k
unfolding push
push-lt base k y a h = mod-lt (base * y + a) (one-le-pow k base h)

-- y+a for k = j + 1: what is left of y, times 4, and the letter
pub add_is : (j : ℕ) (y : Kmer) (a : ℕ) → a < 4 → (add (suc j) y a).code ≡ y.code % 4 ^ j * 4 + a
unfolding add
add_is j y a h =
    let o : a % 4 ≡ a = omega arith in
    rw o (push-is 4 j y.code a h)

-- no unknown letter comes in by a code below 4
pub add-unknown : (j : ℕ) (y : Kmer) (a : ℕ) → a < 4 → (add (suc j) y a).unknown ≡ y.unknown % 2 ^ j * 2
unfolding add
add-unknown j y a h =
    let o : a / 4 ≡ 0 = omega arith in
    rw o (push-is 2 j y.unknown 0 (lit< tt) ∙ omega arith)

-- an unknown letter: 0 in its place of the code, and a 1 for it
pub add_none : (j : ℕ) (y : Kmer) → add (suc j) y 4 ≡ record { code = y.code % 4 ^ j * 4; unknown = y.unknown % 2 ^ j * 2 + 1 }
unfolding add
add_none j y =
    let c : push 4 (suc j) y.code 0 ≡ y.code % 4 ^ j * 4 = push-is 4 j y.code 0 (lit< tt) ∙ omega arith in
    let u : push 2 (suc j) y.unknown 1 ≡ y.unknown % 2 ^ j * 2 + 1 = push-is 2 j y.unknown 1 (lit< tt) in
    λ i. record { code = c i; unknown = u i }

pub add-lt : (k : ℕ) (y : Kmer) (a : ℕ) → (add k y a).code < 4 ^ k
unfolding add
add-lt k y a = push-lt 4 k y.code (a % 4) (lit< tt)

pub add-unknown-lt : (k : ℕ) (y : Kmer) (a : ℕ) → (add k y a).unknown < 2 ^ k
unfolding add
add-unknown-lt k y a = push-lt 2 k y.unknown (a / 4) (lit< tt)

-- the letter added is the last
pub add_low : (j : ℕ) (y : Kmer) (a : ℕ) → a < 4 → (add (suc j) y a).code % 4 ≡ a
add_low j y a h = ap (λ (x : ℕ). x % 4) (add_is j y a h) ∙ omega arith

pub code-letter : (a : ℕ) → a < 4 → code (letter a) ≡ a
unfolding code letter
code-letter zero h = refl
code-letter (suc zero) h = refl
code-letter (suc (suc zero)) h = refl
code-letter (suc (suc (suc zero))) h = refl
code-letter (suc (suc (suc (suc a)))) h = absurd (omega arith)

-- ---- a k-mer's last letters, put behind what stood before them, give the k-mer back

pub last_one : (j : ℕ) (y : Kmer) (a : ℕ) → a < 4 → add_all (suc j) y (last 1 (add (suc j) y a)) ≡ add (suc j) y a
unfolding add_all last last_letter
last_one j y a h = rw (add_low j y a h, code-letter a h)

low : (j x : ℕ) → x % 4 ^ suc j % 4 ≡ x % 4
low j x = rw (pow-suc, mod-mul x (four-pos j) (lit< tt)) (omega arith)

add-one-letter : (w : Kmer) (b : ℕ) → b < 4 → add 1 w b ≡ record { code = b; unknown = 0 }
add-one-letter w b h =
    let c : (add 1 w b).code ≡ b = add_is 0 w b h ∙ omega arith in
    let u : (add 1 w b).unknown ≡ 0 = add-unknown 0 w b h ∙ omega arith in
    λ i. record { code = c i; unknown = u i }

pub last-two : (j : ℕ) (y : Kmer) (a b : ℕ) → a < 4 → b < 4
    → add_all (suc j) y (last 2 (add (suc j) (add (suc j) y a) b)) ≡ add (suc j) (add (suc j) y a) b
unfolding add_all last last_letter drop_last
last-two zero y a b h g = rw (add_low 0 (add 1 y a) b g, code-letter b g) (add-one-letter _ b g ∙ sym (add-one-letter _ b g))
last-two (suc j) y a b h g =
    let K : ℕ = suc (suc j) in
    let e : (add K (add K y a) b).code / 4 % 4 ≡ a =
    ap (λ (x : ℕ). x / 4 % 4) (add_is (suc j) (add K y a) b g)
    ∙ omega (arith, low j (add K y a).code, add_low (suc j) y a h) in
    rw (e, add_low (suc j) (add K y a) b g, code-letter a h, code-letter b g)

-- ---- reverse complement

pub complement-lt : (a : ℕ) → complement a < 4
unfolding complement
complement-lt zero = lit< tt
complement-lt (suc zero) = lit< tt
complement-lt (suc (suc zero)) = lit< tt
complement-lt (suc (suc (suc zero))) = lit< tt
complement-lt (suc (suc (suc (suc a)))) = lit< tt

complement-twice : (a : ℕ) → a < 4 → complement (complement a) ≡ a
unfolding complement
complement-twice zero h = refl
complement-twice (suc zero) h = refl
complement-twice (suc (suc zero)) h = refl
complement-twice (suc (suc (suc zero))) h = refl
complement-twice (suc (suc (suc (suc a)))) h = absurd (omega arith)

pub revcomp-lt : (k y : ℕ) → revcomp k y < 4 ^ k
unfolding revcomp
revcomp-lt zero y = lit< tt
revcomp-lt (suc k) y = rw pow-succ' (digits_lt (complement-lt (y % 4)) (revcomp-lt k (y / 4)))

-- The canonical code of a k-mer is below 4^k too.
pub canonical-lt : (k y : ℕ) → y < 4 ^ k → canonical k y < 4 ^ k
unfolding canonical
canonical-lt k y h = go (even_ones k y)
  where
    go : (t : Bool) → elim t [ true ↦ y | false ↦ revcomp k y ] < 4 ^ k
    go true = h
    go false = revcomp-lt k y

quarter-lt : (k y : ℕ) → y < 4 ^ suc k → y / 4 < 4 ^ k
quarter-lt k y h = let e = pow-suc 4 k in omega arith

-- the first letter comes last
pub revcomp-first : (k a w : ℕ) → a < 4 → w < 4 ^ k → revcomp (suc k) (a * 4 ^ k + w) ≡ 4 * revcomp k w + complement a
unfolding revcomp
revcomp-first zero a w h g =
    let e : (a * 4 ^ 0 + w) % 4 ≡ a = omega arith in
    rw e (omega arith)
revcomp-first (suc k) a w h g =
    let p = pow-suc 4 k in
    let m : (a * 4 ^ suc k + w) % 4 ≡ w % 4 = rw p (omega arith) in
    let d : (a * 4 ^ suc k + w) / 4 ≡ a * 4 ^ k + w / 4 = rw p (omega arith) in
    let i = revcomp-first k a (w / 4) h (quarter-lt k w g) in
    rw (m, d, revcomp, i, p) (omega arith)

-- reverse complement twice gives the k-mer back
pub revcomp-twice : (k y : ℕ) → y < 4 ^ k → revcomp k (revcomp k y) ≡ y
unfolding revcomp
revcomp-twice zero y h = omega arith
revcomp-twice (suc k) y h =
    revcomp-first k (complement (y % 4)) (revcomp k (y / 4)) (complement-lt (y % 4)) (revcomp-lt k (y / 4))
    ∙ rw (revcomp-twice k (y / 4) (quarter-lt k y h), complement-twice (y % 4) (omega arith)) (omega arith)

-- ---- one bits: the count over 2k digits is the whole count

pub ones-in : (d y : ℕ) → y < 2 ^ d → ones_in d y ≡ ones y
unfolding ones_in ones
ones-in zero y h = let e : y ≡ 0 = omega arith in rw e
ones-in (suc d) y h =
    let p = pow-suc 2 d in
    ap (λ (x : ℕ). y % 2 + x) (ones-in d (y / 2) (omega arith)) ∙ sym (ones_step y)

pub two-four : (k : ℕ) → 2 ^ (2 * k) ≡ 4 ^ k
two-four zero = refl
two-four (suc k) =
    let e : 2 * suc k ≡ suc (suc (2 * k)) = omega arith in
    rw (e, pow-suc 2 (suc (2 * k)), pow-suc 2 (2 * k), two-four k, pow-suc 4 k) (omega arith)

letter-odd : (a : ℕ) → a < 4 → (ones (complement a) + (a % 2 + a / 2 % 2)) % 2 ≡ 1
unfolding ones complement ones_in
letter-odd zero h = refl
letter-odd (suc zero) h = refl
letter-odd (suc (suc zero)) h = refl
letter-odd (suc (suc (suc zero))) h = refl
letter-odd (suc (suc (suc (suc a)))) h = absurd (omega arith)

parity-sum : (a b c d k : ℕ) → (a + d) % 2 ≡ 1 → (b + c) % 2 ≡ k % 2 → (a + b + (d + c)) % 2 ≡ suc k % 2
parity-sum a b c d k h g = omega arith

low_bits : (y : ℕ) → y % 4 % 2 + y % 4 / 2 % 2 ≡ y % 2 + y / 2 % 2
low_bits y = omega arith

ones_quarter : (y : ℕ) → ones y ≡ (y % 4 % 2 + y % 4 / 2 % 2) + ones (y / 4)
ones_quarter y =
    let two : y / 2 / 2 ≡ y / 4 = omega arith in
    ones_step y ∙ ap (λ (z : ℕ). y % 2 + z) (ones_step (y / 2) ∙ ap (λ (z : ℕ). y / 2 % 2 + ones z) two) ∙ omega (arith, low_bits y)

-- each letter and its complement have one bits of odd number together, so k letters have as many as k, by parity
ones-parity : (k y : ℕ) → y < 4 ^ k → (ones (revcomp k y) + ones y) % 2 ≡ k % 2
unfolding revcomp ones ones_in
ones-parity zero y h = let e : y ≡ 0 = omega arith in rw e refl
ones-parity (suc k) y h =
    let cat : ones (complement (y % 4) * 4 ^ k + revcomp k (y / 4)) ≡ ones (complement (y % 4)) + ones (revcomp k (y / 4)) =
    subst (λ (p : ℕ). revcomp k (y / 4) < p → ones (complement (y % 4) * p + revcomp k (y / 4)) ≡ ones (complement (y % 4)) + ones (revcomp k (y / 4)))
    (two-four k) (λ lt. ones_cat (2 * k) (complement (y % 4)) (revcomp k (y / 4)) lt) (revcomp-lt k (y / 4)) in
    ap (λ (z : ℕ). (z + ones y) % 2) cat
    ∙ ap (λ (z : ℕ). (ones (complement (y % 4)) + ones (revcomp k (y / 4)) + z) % 2) (ones_quarter y)
    ∙ parity-sum _ _ _ _ k (letter-odd (y % 4) (omega arith)) (ones-parity k (y / 4) (quarter-lt k y h))

even_is : (k y : ℕ) → y < 4 ^ k → even_ones k y ≡ eqb (ones y % 2) 0
unfolding even_ones
even_is k y h = ap (λ (n : ℕ). eqb (n % 2) 0) (ones-in (2 * k) y (rw (two-four k) h))

one_of_two : (a b : ℕ) → (a + b) % 2 ≡ 1 → eqb (a % 2) 0 ≡ not (eqb (b % 2) 0)
one_of_two a b h = go (eqb (b % 2) 0) refl
  where
    go : (t : Bool) → eqb (b % 2) 0 ≡ t → eqb (a % 2) 0 ≡ not t
    go true e = ne_eqb (a % 2) 0 (λ z. omega (arith, eqb-true (b % 2) 0 e))
    go false e = eq-eqb (a % 2) 0 (let n = eqb-false (b % 2) 0 e in omega arith)

-- ---- the theorem `canonical`: document 01, "k is odd, so there is just one". Serves demand 2.

-- Exactly one of a k-mer and its reverse complement has an even count of one bits; reverse complement twice gives it back.
pub canonical-one : (k y : ℕ) → k % 2 ≡ 1 → y < 4 ^ k
    → (even_ones k (revcomp k y) ≡ not (even_ones k y)) × (revcomp k (revcomp k y) ≡ y)
canonical-one k y odd h = (
  even_is k (revcomp k y) (revcomp-lt k y)
      ∙ one_of_two (ones (revcomp k y)) (ones y) (ones-parity k y h ∙ odd)
      ∙ ap not (sym (even_is k y h)),
  revcomp-twice k y h,
)
