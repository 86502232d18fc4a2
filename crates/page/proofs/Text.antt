-- Bytes put behind a page's text.
use Prim.Native.Nat.{ℕ, zero, suc, ◌+◌, ◌-◌, ◌≤◌}
use native.Mathlib.Omega.{arith}
use mathlib.Core.Path.{◌≡◌, refl, sym, ap, ◌∙◌, subst}
use mathlib.Core.List.{List, [], ◌++◌, append_assoc}
use lib.ListN.{length, take, drop, replicate, length-append, length-replicate}
use lib.Seq.{paste, take-append_seam, take-length, drop-append-add}
use Rattle.rules_program.specs.Program.{zeros}
use Rattle.page.specs.Page.{Page, Puts, page_length}

pub length-zeros : (n : ℕ) → length (zeros n) ≡ n
unfolding zeros
length-zeros n = length-replicate n 0

pub zeros-append : (m n : ℕ) → zeros m ++ zeros n ≡ zeros (m + n)
unfolding zeros
zeros-append zero n = let e : 0 + n ≡ n = omega arith in rw e
zeros-append (suc m) n = let e : suc m + n ≡ suc (m + n) = omega arith in rw (e, ← (zeros-append m n))

pub drop-zeros : (n m : ℕ) → drop n (zeros m) ≡ zeros (m - n)
unfolding zeros
drop-zeros zero m = let e : m - 0 ≡ m = omega arith in rw e
drop-zeros (suc n) zero = let e : 0 - suc n ≡ 0 = omega arith in rw e
drop-zeros (suc n) (suc m) = let e : suc m - suc n ≡ m - n = omega arith in rw (e, ← (drop-zeros n m))

pub take-zeros : (n m : ℕ) → n ≤ m → take n (zeros m) ≡ zeros n
unfolding zeros
take-zeros zero m l = refl
take-zeros (suc n) zero l = absurd (omega arith)
take-zeros (suc n) (suc m) l = rw (take-zeros n m (omega arith))

pub length-page : (text : List ℕ) (n : ℕ) (page : List ℕ) → Page text n page → length page ≡ page_length
length-page text n page p = rw (p.page, length-append, length-zeros) (omega (arith, p.bytes, p.fits))

-- A page that was cleared.
pub cleared-page : (page₀ page : List ℕ) → length page₀ ≡ page_length → page ≡ replicate (length page₀) 0 → Page [] 0 page
unfolding zeros
cleared-page page₀ page l e = record { bytes = refl; fits = omega arith; page = e ∙ ap (λ (n : ℕ). replicate n 0) l }

put-text : (text bytes : List ℕ) (m : ℕ) → paste (text ++ zeros m) (length text) bytes (length bytes) ≡ text ++ bytes ++ zeros (m - length bytes)
put-text text bytes m =
    rw (take-append_seam text (zeros m), take-length bytes, drop-append-add text (zeros m) (length bytes), drop-zeros (length bytes) m)

-- Bytes copied to the end of the text.
pub put-page : (page : List ℕ) (at : ℕ) (bytes : List ℕ) → at + length bytes ≤ length page
    → Puts page at bytes (at + length bytes) (paste page at bytes (length bytes))
put-page page at bytes room text p =
    let long = length-page text at page p in
    let less : page_length - at - length bytes ≡ page_length - (at + length bytes) = omega arith in
    let stands : paste (text ++ zeros (page_length - at)) at bytes (length bytes) ≡ text ++ bytes ++ zeros (page_length - (at + length bytes)) =
    subst (λ (n : ℕ). paste (text ++ zeros (page_length - at)) n bytes (length bytes) ≡ text ++ bytes ++ zeros (page_length - (at + length bytes)))
    (sym p.bytes) (put-text text bytes (page_length - at) ∙ ap (λ (n : ℕ). text ++ bytes ++ zeros n) less) in
    record {
      bytes = omega (arith, length-append text bytes, p.bytes);
      fits = omega arith;
      page = ap (λ (x : List ℕ). paste x at bytes (length bytes)) p.page ∙ stands;
    }

-- One behind the other.
pub puts-both : (page : List ℕ) (at : ℕ) (a : List ℕ) (at' : ℕ) (page' b : List ℕ) (at'' : ℕ) (page'' : List ℕ)
    → Puts page at a at' page' → Puts page' at' b at'' page'' → Puts page at (a ++ b) at'' page''
puts-both page at a at' page' b at'' page'' p q text h = subst (λ (t : List ℕ). Page t at'' page'') (append_assoc text a b) (q (text ++ a) (p text h))
