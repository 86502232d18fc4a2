-- The keys of a set that opens: canonical, strictly rising, below 4^k; k and n within document 01's limits.
use Prim.Native.Nat.{ℕ, zero, suc, ◌+◌, ◌*◌, ◌-◌, ◌/◌, ◌%◌, ◌^◌, ◌≤◌, ◌<◌}
use native.Mathlib.Omega.{arith}
use native.Mathlib.Nat.{eq-or-lt_of_le}
use borrow.Author.Tests.{lt-ltb, le-ltb, ne_eqb, eqb-true, ltb-true, leb-true}
use mathlib.Core.Path.{◌≡◌, refl, sym, ap, ◌∙◌, subst}
use mathlib.Core.Bool.{Bool, true, false, ◌&&◌, ◌||◌, false≢true}
use mathlib.Core.Logic.{◌⊎◌, inl, inr}
use mathlib.Core.Option.{Option, none, some}
use mathlib.Core.List.{List}
use lib.Dec.{eqb, ltb, leb}
use lib.ListN.{length, get_or}
use Rattle.rules.specs.Letters.{canonical}
use Rattle.rules.specs.Refusal.{accepted, first_failing}
use Rattle.rules.specs.Blocks.{Keys}
use Rattle.rules.specs.Set.{KmerSet, max_k, max_keys, blocks, block_word, header_k, header_n, key_word, keys_from, set_of, is_none, header_right, key_right, set_check, opened}
use Rattle.rules_laws.proofs.Opened.{both, checked, opened-check, opened-set}

-- ---- tests that all hold

-- None of the m tests from i on fails.
pub none-fails : (ok : ℕ → Bool) (i m : ℕ) → first_failing ok i m ≡ none → (j : ℕ) → i ≤ j → j < i + m → ok j ≡ true
unfolding first_failing
none-fails ok i zero e j l h = absurd (omega arith)
none-fails ok i (suc m) e j l h = go (ok i) refl (λ n g. none-fails ok (suc i) m n j g (omega arith))
  where
    go : (t : Bool) → ok i ≡ t → (first_failing ok (suc i) m ≡ none → suc i ≤ j → ok j ≡ true) → ok j ≡ true
    go false f later = absurd (let x : some i ≡ none = rw (f, first_failing) at e in let z : ◌≡◌ {A = ℕ} 0 1 = cc in omega arith)
    go true f later = at (eq-or-lt_of_le l)
      where
        at : (i ≡ j) ⊎ (i < j) → ok j ≡ true
        at (inl q) = rw (sym q) f
        at (inr q) = later (rw (f, first_failing) at e) q

-- Tests that all hold: none fails.
pub none-failing : (ok : ℕ → Bool) (i m : ℕ) → ((j : ℕ) → i ≤ j → j < i + m → ok j ≡ true) → first_failing ok i m ≡ none
unfolding first_failing
none-failing ok i zero f = refl
none-failing ok i (suc m) f =
    rw (f i (omega arith) (omega arith), first_failing) (none-failing ok (suc i) m (λ j l h. f j (omega arith) (omega arith)))

pub is-none : (o : Option ℕ) → is_none o ≡ true → o ≡ none
unfolding is_none
is-none none e = refl
is-none (some i) e = absurd (false≢true e)

-- ---- the keys of bytes

pub keys_length : (bytes : List ℕ) (i n : ℕ) → length (keys_from bytes i n) ≡ n
unfolding keys_from
keys_length bytes i zero = refl
keys_length bytes i (suc n) = ap suc (keys_length bytes (suc i) n)

pub keys-at : (bytes : List ℕ) (i n j : ℕ) → j < n → get_or (keys_from bytes i n) j 0 ≡ key_word bytes (i + j)
unfolding keys_from
keys-at bytes i zero j l = absurd (omega arith)
keys-at bytes i (suc n) zero l = (let e : i ≡ i + 0 = omega arith in ap (key_word bytes) e)
keys-at bytes i (suc n) (suc j) l = keys-at bytes (suc i) n j (omega arith) ∙ (let e : suc i + j ≡ i + suc j = omega arith in ap (key_word bytes) e)

-- The header, taken apart.
pub record Header (bytes : List ℕ) : Type 0 where
  pub k_odd : header_k bytes % 2 ≡ 1
  pub k_high : header_k bytes ≤ max_k
  pub few : header_n bytes ≤ max_keys
  pub rest : (i : ℕ) → 2 ≤ i → i < 63 → block_word bytes 0 i ≡ 0
  pub count : blocks bytes ≡ 1 + (header_n bytes + 62) / 63

pub header_of : (bytes : List ℕ) → header_right bytes ≡ true → Header bytes
unfolding header_right
header_of bytes h =
    let odd : Bool = eqb (header_k bytes % 2) 1 in
    let high : Bool = leb (header_k bytes) max_k in
    let few : Bool = leb (header_n bytes) max_keys in
    let zeros : Bool = is_none (first_failing (λ i. eqb (block_word bytes 0 i) 0) 2 61) in
    let count : Bool = eqb (blocks bytes) (1 + (header_n bytes + 62) / 63) in
    let a = both (odd && high && few && zeros) count h in
    let b = both (odd && high && few) zeros a.0 in
    let c = both (odd && high) few b.0 in
    let d = both odd high c.0 in
    record {
      k_odd = eqb-true _ _ d.0;
      k_high = leb-true _ _ d.1;
      few = leb-true _ _ c.1;
      rest = λ i l g. eqb-true _ _ (none-fails (λ j. eqb (block_word bytes 0 j) 0) 2 61 (is-none _ b.1) i l (omega arith));
      count = eqb-true _ _ a.1;
    }

-- Key i is right.
pub record Key (bytes : List ℕ) (i : ℕ) : Type 0 where
  pub canon : canonical (header_k bytes) (key_word bytes i) ≡ key_word bytes i
  pub small : key_word bytes i < 4 ^ header_k bytes
  pub step : (eqb i 0 || ltb (key_word bytes (i - 1)) (key_word bytes i)) ≡ true

module _ (bytes : List ℕ) (h : set_check bytes ≡ none) where
  pub the-header : Header bytes
  the-header = header_of bytes (checked bytes h).right_header

  -- Word i of the key blocks: a key, or zero behind them.
  pub key_right_lem : (i : ℕ) → i < 63 * (blocks bytes - 1) → key_right bytes i ≡ true
  key_right_lem i l = none-fails (key_right bytes) 0 (63 * (blocks bytes - 1)) (checked bytes h).keys_right i (omega arith) (omega arith)

  -- The key blocks have room for the n keys.
  pub keys-room : header_n bytes ≤ 63 * (blocks bytes - 1)
  keys-room = omega (arith, the-header.count)

  pub the-key : (i : ℕ) → i < header_n bytes → Key bytes i
  unfolding key_right
  the-key i l =
      let r : key_right bytes i ≡ true = key_right_lem i (omega (arith, keys-room)) in
      let t = rw (lt-ltb i (header_n bytes) l, key_right) at r in
      let a = both (eqb (canonical (header_k bytes) (key_word bytes i)) (key_word bytes i) && ltb (key_word bytes i) (4 ^ header_k bytes)) _ t in
      let b = both (eqb (canonical (header_k bytes) (key_word bytes i)) (key_word bytes i)) _ a.0 in
      record { canon = eqb-true _ _ b.0; small = ltb-true _ _ b.1; step = a.1 }

  pub spare-zero : (i : ℕ) → header_n bytes ≤ i → i < 63 * (blocks bytes - 1) → key_word bytes i ≡ 0
  unfolding key_right
  spare-zero i g l =
      let r : key_right bytes i ≡ true = key_right_lem i l in
      eqb-true _ _ (rw (le-ltb i (header_n bytes) g, key_right) at r)

  pub checked-keys : Keys (header_k bytes) (keys_from bytes 0 (header_n bytes))
  checked-keys =
      let n = header_n bytes in
      let len : length (keys_from bytes 0 n) ≡ n = keys_length bytes 0 n in
      let at : (i : ℕ) → i < length (keys_from bytes 0 n) → get_or (keys_from bytes 0 n) i 0 ≡ key_word bytes i =
      λ i l. keys-at bytes 0 n i (omega arith) ∙ (let e : 0 + i ≡ i = omega arith in ap (key_word bytes) e) in
      record {
        k_odd = the-header.k_odd;
        k_high = the-header.k_high;
        few = omega (arith, the-header.few);
        same = λ i l. rw (at i l) (the-key i (omega arith)).canon;
        small = λ i l. rw (at i l) (the-key i (omega arith)).small;
        rising = λ i l. rw (at i (omega arith), at (suc i) l) (step i (the-key (suc i) (omega arith)).step);
      }
    where
      step : (i : ℕ) → (eqb (suc i) 0 || ltb (key_word bytes (suc i - 1)) (key_word bytes (suc i))) ≡ true → key_word bytes i < key_word bytes (suc i)
      step i t =
          let z : eqb (suc i) 0 ≡ false = ne_eqb (suc i) 0 (λ q. omega arith) in
          let d : suc i - 1 ≡ i = omega arith in
          ltb-true _ _ (rw (z, d) at t)

-- The keys of a set that opens.
pub opened-keys : (bytes : List ℕ) (set : KmerSet) → opened bytes ≡ accepted set → Keys set.k set.keys
unfolding set_of
opened-keys bytes set o =
    subst (λ (s : KmerSet). Keys s.k s.keys) (sym (opened-set bytes set o)) (checked-keys bytes (opened-check bytes set o))
