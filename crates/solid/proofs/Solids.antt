-- The count of solid k-mers in the code's terms.
use Prim.Native.Nat.{ℕ, suc, ◌+◌, ◌-◌, ◌≤◌, ◌<◌}
use native.Mathlib.Omega.{arith}
use native.Mathlib.Numerals.{add-one}
use borrow.Author.Tests.{lt-ltb, le-ltb}
use mathlib.Core.Path.{◌≡◌, refl, ap, ◌∙◌}
use mathlib.Core.Bool.{Bool, true, false}
use mathlib.Core.Option.{none, some}
use mathlib.Core.List.{List, [], ◌∷◌}
use lib.Dec.{leb}
use lib.ListN.{length, get_or, take, drop, drop_of_length-le, length-drop}
use lib.Seq.{drop-cons}
use mir.Val.{bool_byte as bit}
use Rattle.rules.specs.Letters.{Kmer, add_base, kmer}
use Rattle.rules.specs.Refusal.{Refusal, accepted, refused, unless}
use Rattle.rules.specs.Set.{KmerSet, solid, header_k, set_of, opened}
use Rattle.rules.specs.Scan.{ask}
use Rattle.rules.specs.Calls.{max_read}
use Rattle.opening.proofs.Opening.{set-k}
use Rattle.rules.specs.Solid.{kmers_behind, kmers_of, solids, solids_of, count_solid}

pub bit_le : (b : Bool) → bit b ≤ 1
bit_le true = omega arith
bit_le false = omega arith

-- one k-mer more, asked; p is the answer
solids-more : (set : KmerSet) (y : Kmer) (ys : List Kmer) (p : Bool) → p ≡ (ask (solid set) y).answer → solids set (y ∷ ys) ≡ bit p + solids set ys
unfolding solids
solids-more set y ys true e = rw (solids, ← e) (omega arith)
solids-more set y ys false e = rw (solids, ← e) (omega arith)

module _ (k : ℕ) (read : List ℕ) where
  none-of-short : length read < k → kmers_of k read ≡ []
  unfolding kmers_of
  none-of-short h = rw (kmers_of, lt-ltb (length read) k h)

  first-of-long : (y : Kmer) → k ≤ length read → y ≡ kmer k (take k read) → kmers_of k read ≡ y ∷ kmers_behind k y (drop k read)
  unfolding kmers_of
  first-of-long y h e = rw (kmers_of, le-ltb (length read) k h, e)

  behind-length : (y : Kmer) (bs : List ℕ) → length (kmers_behind k y bs) ≡ length bs
  unfolding kmers_behind
  behind-length y [] = refl
  behind-length y (b ∷ bs) = ap suc (behind-length (add_base k y b) bs)

  kmers-long : k ≤ length read → length (kmers_of k read) ≡ length read - k + 1
  kmers-long h =
      let y : Kmer = kmer k (take k read) in
      rw (first-of-long y h refl) (omega (arith, behind-length y (drop k read), length-drop k read))

  module _ (set : KmerSet) where
    pub solids-long : (y : Kmer) (p : Bool) → k ≤ length read → y ≡ kmer k (take k read) → p ≡ (ask (solid set) y).answer
        → solids set (kmers_of k read) ≡ bit p + solids set (kmers_behind k y (drop k read))
    solids-long y p h e q = rw (first-of-long y h e) (solids-more set y (kmers_behind k y (drop k read)) p q)

    -- at base i behind y: y' is the next k-mer
    pub behind-one : (i : ℕ) (y y' : Kmer) (p : Bool) → i < length read → y' ≡ add_base k y (get_or read i 0) → p ≡ (ask (solid set) y').answer
        → solids set (kmers_behind k y (drop i read)) ≡ bit p + solids set (kmers_behind k y' (drop (i + 1) read))
    unfolding kmers_behind
    behind-one i y y' p h e q =
        rw (drop-cons read i 0 h, kmers_behind, add-one, ← e) (solids-more set y' (kmers_behind k y' (drop (suc i) read)) p q)

    pub behind-end : (i : ℕ) (y : Kmer) → length read ≤ i → solids set (kmers_behind k y (drop i read)) ≡ 0
    unfolding kmers_behind solids
    behind-end i y h = rw (drop_of_length-le read h)

-- ---- the whole call

module _ (bytes read : List ℕ) where
  pub count_long : (r : Refusal) → unless (leb (length read) max_read) 1 ≡ some r → count_solid bytes read ≡ refused r
  unfolding count_solid
  count_long r e = rw (count_solid, e)

  module _ (e : unless (leb (length read) max_read) 1 ≡ none) where
    pub count-refused : (r : Refusal) → opened bytes ≡ refused r → count_solid bytes read ≡ refused r
    unfolding count_solid
    count-refused r o = rw (count_solid, e, o)

    module _ (o : opened bytes ≡ accepted (set_of bytes)) (k : ℕ) (k_is : k ≡ header_k bytes) where
      counted : count_solid bytes read
          ≡ accepted (record { kmers = length (kmers_of k read); solid = solids (set_of bytes) (kmers_of k read) })
      unfolding count_solid solids_of
      counted = rw (count_solid, e, o, set-k bytes k_is)

      pub count_none : length read < k → count_solid bytes read ≡ accepted (record { kmers = 0; solid = 0 })
      unfolding solids
      count_none h = counted ∙ rw (none-of-short k read h)

      pub count-all : (n : ℕ) → k ≤ length read → n ≡ solids (set_of bytes) (kmers_of k read)
          → count_solid bytes read ≡ accepted (record { kmers = length read - k + 1; solid = n })
      count-all n h e = counted ∙ rw (kmers-long k read h, ← e)
