-- The filter: bits that are set stay set, so a (k−1)-mer whose bits are not all set is new; and what the k-mers passed have put in.
use Prim.Native.Nat.{ℕ, zero, suc, ◌*◌, ◌-◌, ◌/◌, ◌%◌, ◌^◌, ◌≤◌, ◌<◌, min, max}
use native.Mathlib.Omega.{arith}
use native.Mathlib.Decide.{ℕ_discrete}
use native.Mathlib.Nat.{pow-suc, le_refl}
use borrow.Author.Tests.{eqb-false}
use mathlib.Core.Path.{◌≡◌, refl, sym, ap, ◌∙◌, subst}
use mathlib.Core.Logic.{◌⊎◌, inl, inr, ⊎_elim}
use mathlib.Core.Bool.{Bool, true, false, ◌||◌, false≢true}
use mathlib.Core.Option.{some}
use mathlib.Core.List.{List, [], ◌∷◌, ◌++◌}
use lib.ListN.{length, get_or, set, length-set}
use lib.Seq.{get_or-set_same, get_or-set_other}
use lib.Dec.{eqb}
use lib.Bits.{bit_and, bit_or, and_step, or_step, and_zero_r, and_self, and_mask, or_comm}
use Rattle.rules.specs.Letters.{Kmer, same, met}
use Rattle.rules_laws.proofs.Kmer.{same_true, add_is, two-four}
use Rattle.rules_laws.proofs.Scan.{sole-is}
use Rattle.rules.specs.Scan.{sole}
use Rattle.kmer.specs.declared.shifts.Header.{Header}
use Rattle.kmer.specs.Kmer.{Shifts}
use Rattle.kmer.proofs.Laws.{quarter-is}
use Rattle.passed.specs.Filter.{all_but_last, suffix, hash_of, slot_of, bits_of, Has, In, BitsSet, Noted, Covers, Begun, Asked}

within : (k w m b : ℕ) → b < 2 ^ k → bit_and w b ≡ b → bit_and (bit_or w m) b ≡ b
within zero w m b lt h = let z : b ≡ 0 = omega arith in rw z (and_zero_r (bit_or w m))
within (suc k) w m b lt h =
    let p = pow-suc 2 k in
    let o = or_step w m in
    let a = and_step w b in
    let half : bit_and (w / 2) (b / 2) ≡ b / 2 = omega arith in
    let low : min (w % 2) (b % 2) ≡ b % 2 = omega arith in
    let d : bit_or w m / 2 ≡ bit_or (w / 2) (m / 2) = omega arith in
    let e : bit_or w m % 2 ≡ max (w % 2) (m % 2) = omega arith in
    let i = within k (w / 2) (m / 2) (b / 2) (omega arith) half in
    and_step (bit_or w m) b ∙ rw (d, e, i) (omega arith)

-- a number is below a power of two
below : (b : ℕ) → b < 2 ^ b
below zero = le_refl 1
below (suc b) = let p = pow-suc 2 b in omega (arith, below b)

kept-bits : (w m b : ℕ) → bit_and w b ≡ b → bit_and (bit_or w m) b ≡ b
kept-bits w m b = within b w m b (below b)

set-bits : (w m : ℕ) → bit_and (bit_or w m) m ≡ m
set-bits w m = rw (or_comm w m) (kept-bits m w m (and_self m))

-- a word with more bits set; what was set in the words stays set
kept_at : (filter : List ℕ) (at m : ℕ) → at < length filter → (j b : ℕ) → bit_and (get_or filter j 0) b ≡ b
    → bit_and (get_or (set filter at (bit_or (get_or filter at 0) m)) j 0) b ≡ b
kept_at filter at m lt j b h = elim (ℕ_discrete j at) [
  | yes e ↦ rw (e, get_or-set_same filter at _ 0 lt) (kept-bits (get_or filter at 0) m b (rw e at h))
  | no n ↦ rw (get_or-set_other filter at j _ 0 n) h
]

-- bits of a word set
pub marked : (filter : List ℕ) (hash bits at : ℕ) → at ≡ slot_of hash (length filter) → at < length filter
    → BitsSet filter (set filter at (bit_or (get_or filter at 0) bits)) hash bits (eqb (bit_and (get_or filter at 0) bits) bits)
unfolding Has
marked filter hash bits at a-is lt =
    record {
      same = length-set filter at _;
      now_has = rw (length-set, ← a-is, get_or-set_same filter at _ 0 lt) (set-bits (get_or filter at 0) bits);
      kept = λ h b e. rw length-set (kept_at filter at bits lt (slot_of h (length filter)) b e);
      new = λ e h. eqb-false _ _ e (rw (← a-is) at h);
    }

-- a code put in, where the answer is no only if one of the two is
module _ {filter mid filter' : List ℕ} {code h b b' : ℕ} {r r' q : Bool} (h-is : h ≡ hash_of code) (b-is : b ≡ bits_of (h / 2 ^ 18))
    (b'-is : b' ≡ bits_of (h / 2 ^ 30)) where
  pub noted : BitsSet filter mid (h / 2 ^ 42) b r → BitsSet mid filter' h b' r' → (q ≡ false → (r ≡ false) ⊎ (r' ≡ false)) → Noted filter filter' code q
  noted v₀ w₀ told =
      let v = rw (b-is, h-is) at v₀ in
      let w = rw (b'-is, h-is) at w₀ in
      record {
        same = w.same ∙ v.same;
        now_in = record { one = w.kept _ _ v.now_has; other = w.now_has };
        kept = λ z i. record { one = w.kept _ _ (v.kept _ _ i.one); other = w.kept _ _ (v.kept _ _ i.other) };
        new = λ e i. ⊎_elim (λ n. v.new n i.one) (λ n. w.new n (v.kept _ _ i.other)) (told e);
      }

met-snoc : (z a : Kmer) (ys : List Kmer) → met z (ys ++ (a ∷ [])) ≡ true → (met z ys ≡ true) ⊎ (z ≡ a)
unfolding met
met-snoc z a [] h = go (same z a) refl h
  where
    go : (t : Bool) → same z a ≡ t → t || false ≡ true → (false ≡ true) ⊎ (z ≡ a)
    go true e g = inr (same_true z a e)
    go false e g = inl g
met-snoc z a (y ∷ ys) h = go (met-snoc z a ys) (same z y) h
  where
    go : (met z (ys ++ (a ∷ [])) ≡ true → (met z ys ≡ true) ⊎ (z ≡ a)) → (t : Bool) → t || met z (ys ++ (a ∷ [])) ≡ true
        → (t || met z ys ≡ true) ⊎ (z ≡ a)
    go i true g = inl refl
    go i false g = i g

met-one : (z a : Kmer) → met z (a ∷ []) ≡ true → z ≡ a
unfolding met
met-one z a h = ⊎_elim (λ e. absurd (false≢true e)) (λ e. e) (met-snoc z a [] h)

-- ---- the (k−1)-mers of a walk

-- the last k − 1 letters, by a mask
pub suffix-is : (head : Header) → Shifts head → (y : Kmer) → bit_and y.code (head.mask / 4) ≡ suffix head.k y
suffix-is head s y = rw (quarter-is s, ← two-four (head.k - 1)) (and_mask y.code (2 * (head.k - 1)))

-- a successor begins as the k-mer before it ends
pub move-begins : (k : ℕ) (sol : ℕ → Bool) (y z : Kmer) → 1 ≤ k → (sole k sol y).answer ≡ some z → all_but_last z ≡ suffix k y
move-begins zero sol y z l e = absurd (omega arith)
move-begins (suc j) sol y z l e =
    let o = sole-is (suc j) sol y z e in
    let e' : suc j - 1 ≡ j = omega arith in
    rw (o.is, add_is j y o.by o.by_lt, e') (omega (arith, o.by_lt))

pub begun : (k : ℕ) (x : Kmer) {filter mid filter' : List ℕ} {r r' : Bool} → Noted filter mid (all_but_last x) r → Noted mid filter' (suffix k x) r'
    → Begun k filter filter' x r'
begun k x {filter} {mid} {filter'} v w =
    record {
      same = w.same ∙ v.same;
      covers =
          record {
            begins = λ z h. subst (λ (y : Kmer). In filter' (all_but_last y)) (sym (met-one z x h)) (w.kept (all_but_last x) v.now_in);
            ends = λ z h. subst (λ (y : Kmer). In filter' (suffix k y)) (sym (met-one z x h)) w.now_in;
            latest = w.now_in;
            new = λ e z h p. w.new e (subst (In mid) (sym (ap all_but_last (met-one z x h)) ∙ p) v.now_in);
          };
    }

module _ (k : ℕ) (y : Kmer) {filter filter' : List ℕ} {ys : List Kmer} {before maybe : Bool} (h : Covers k filter ys (all_but_last y) before)
    (w : Noted filter filter' (suffix k y) maybe) where
  -- the next k-mer is passed
  pub asked : {q : Bool} → q ≡ met y ys → Asked k filter filter' ys y (record { repeats = q; maybe = maybe })
  asked e =
      record {
        is = e;
        same = w.same;
        covers =
            record {
              begins = λ z g. w.kept (all_but_last z) (had z (met-snoc z y ys g));
              ends =
                  λ z g. ⊎_elim (λ a. w.kept (suffix k z) (h.ends z a)) (λ a. subst (λ (y' : Kmer). In filter' (suffix k y')) (sym a) w.now_in)
                  (met-snoc z y ys g);
              latest = w.now_in;
              new = λ e' z g p. w.new e' (subst (In filter) p (had z (met-snoc z y ys g)));
            };
      }
    where
      had : (z : Kmer) → (met z ys ≡ true) ⊎ (z ≡ y) → In filter (all_but_last z)
      had z = ⊎_elim (h.begins z) (λ a. subst (λ (y' : Kmer). In filter (all_but_last y')) (sym a) h.latest)

  -- it is new where either answer was no
  pub not-passed : (before ≡ false) ⊎ (maybe ≡ false) → false ≡ met y ys
  not-passed e = go (met y ys) refl
    where
      go : (t : Bool) → met y ys ≡ t → false ≡ t
      go true g = absurd (⊎_elim (λ n. h.new n y g refl) (λ n. w.new n (h.ends y g)) e)
      go false g = refl
