-- The deep search and the rounds in the code's terms.
use Prim.Native.Nat.{ℕ, suc, ◌+◌, ◌-◌, ◌≤◌, ◌<◌}
use native.Mathlib.Omega.{arith}
use native.Mathlib.Nat.{zero-add}
use native.Mathlib.Numerals.{add-one}
use mathlib.Core.Path.{◌≡◌, refl, sym, ap, ◌∙◌}
use mathlib.Core.Bool.{Bool, true, false}
use mathlib.Core.Option.{none, some}
use mathlib.Core.List.{List, ◌++◌}
use lib.ListN.{length, take, replicate}
use lib.Seq.{take-append_seam}
use Rattle.rules.specs.Counted.{Counted}
use Rattle.rules_bridge.specs.Bridge.{End, found, tried, stopped, from_kmer, Bridge, bridge_by, rounds, bridge, max_moves, Told, moves_of, letters_of, told}
use Rattle.rules_bridge.proofs.Search.{chain_length, sound}
use Rattle.bridge_search.specs.declared.End.TheVariants as Ends
use Rattle.bridge_search.specs.declared.Search.{Search}
use Rattle.bridge_search.specs.Search.{laid, EndIs, SearchIs}
use Rattle.bridge_search.proofs.Laws.{was-tried}

-- ---- a found chain

laid-start : (bs : List ℕ) → laid 0 bs ≡ bs ++ replicate (16 - length bs) 0
laid-start bs = rw zero-add

take-laid : (n : ℕ) (bs : List ℕ) → n ≡ length bs → take n (laid 0 bs) ≡ bs
take-laid n bs e = rw (laid-start bs, e) (take-append_seam bs (replicate (16 - length bs) 0))

-- What a search found, from its end.
pub record Chained (left : ℕ) (s : Counted End) (r : Search) (n : ℕ) : Type 0 where
  pub bs : List ℕ
  pub is : s.answer ≡ found bs
  pub moves : n ≡ length bs
  pub short : length bs ≤ left
  pub letters : r.letters ≡ laid 0 bs

number-of : {m n : ℕ} → Ends.Found m ≡ Ends.Found n → m ≡ n
number-of e = cc

module _ (left : ℕ) (s : Counted End) (r : Search) where
  was-found : (n : ℕ) (e : End) → s.answer ≡ e → EndIs 0 left e r → r.end ≡ Ends.Found n → Chained left s r n
  was-found n (found bs) q h f =
      record { bs = bs; is = q; moves = number-of (sym f ∙ h.0.end) ∙ zero-add (length bs); short = h.1; letters = h.0.letters }
  was-found n tried q h f = absurd (let z : ◌≡◌ {A = ℕ} 0 1 = cc in omega arith)
  was-found n stopped q h f = absurd (let z : ◌≡◌ {A = ℕ} 0 1 = cc in omega arith)

  was-stopped : (e : End) → EndIs 0 left e r → r.end ≡ Ends.Stopped → e ≡ stopped
  was-stopped (found bs) h f = absurd (let g = h.0.end in let z : ◌≡◌ {A = ℕ} 0 1 = cc in omega arith)
  was-stopped tried h f = absurd (let z : ◌≡◌ {A = ℕ} 0 1 = cc in omega arith)
  was-stopped stopped h f = refl

-- the letters of the array are the chain's
best-is : {left : ℕ} {s : Counted End} {r : Search} {n : ℕ} (f : Chained left s r n) → take n r.letters ≡ f.bs
best-is {n = n} f = ap (take n) f.letters ∙ take-laid n f.bs f.moves

pub best-laid : {left : ℕ} {s : Counted End} {r : Search} {n : ℕ} → Chained left s r n → r.letters ≡ laid 0 (take n r.letters)
best-laid f = f.letters ∙ ap (laid 0) (sym (best-is f))

pub best-moves : {left : ℕ} {s : Counted End} {r : Search} {n : ℕ} → Chained left s r n → length (take n r.letters) ≡ n
best-moves f = ap length (best-is f) ∙ sym f.moves

-- ---- what is told

abbrev telling : ℕ → ℕ → ℕ → List ℕ → Told
telling moves l f letters = record { moves = moves; lookups = l; floor = f; letters = letters }

chain-told : (b : Bridge) (bs letters : List ℕ) (n l f : ℕ) (stop : Bool) → b ≡ bridge_by (some bs) l f stop → n ≡ length bs → letters ≡ laid 0 bs
    → telling n l f letters ≡ told b
unfolding told moves_of letters_of
chain-told b bs letters n l f stop e m g = rw (e, m, g, laid-start bs, told)

pub none_told : (l f : ℕ) (stop : Bool) → telling 0 l f (replicate 16 0) ≡ told (bridge_by none l f stop)
unfolding told moves_of letters_of
none_told l f stop = refl

-- ---- rounds

-- a found chain has a move
module _ (k : ℕ) (sol : ℕ → Bool) (to budget from d l : ℕ) (r : Search) (s : SearchIs budget 0 d (from_kmer k sol to budget d from l) r) where
  pub found-moves : (n : ℕ) → r.end ≡ Ends.Found n → 1 ≤ n
  found-moves n e =
      let f = was-found d (from_kmer k sol to budget d from l) r n (from_kmer k sol to budget d from l).answer refl s.end e in
      omega (arith, f.moves, chain_length (sound k sol to budget d from l f.bs f.is).0)

module _ (k : ℕ) (sol : ℕ → Bool) (to budget from : ℕ) (deep : List ℕ) (moves d l : ℕ) where
  rounds-end : moves ≤ d → rounds k sol to budget from deep (moves - d) d l ≡ bridge_by (some deep) l d false
  unfolding rounds
  rounds-end h = let e : moves - d ≡ 0 = omega arith in rw e

  at-round : d < moves → rounds k sol to budget from deep (moves - d) d l ≡ rounds k sol to budget from deep (suc (moves - (d + 1))) d l
  at-round h = let e : moves - d ≡ suc (moves - (d + 1)) = omega arith in ap (λ (n : ℕ). rounds k sol to budget from deep n d l) e

  module _ (h : d < moves) (u : ℕ) (q : (from_kmer k sol to budget d from l).lookups ≡ u) where
    round-found : (bs : List ℕ) → (from_kmer k sol to budget d from l).answer ≡ found bs
        → rounds k sol to budget from deep (moves - d) d l ≡ bridge_by (some bs) u d false
    unfolding rounds
    round-found bs e = at-round h ∙ rw (e, rounds, q)

    round-stopped : (from_kmer k sol to budget d from l).answer ≡ stopped
        → rounds k sol to budget from deep (moves - d) d l ≡ bridge_by (some deep) u d true
    unfolding rounds
    round-stopped e = at-round h ∙ rw (e, rounds, q)

    round-tried : (from_kmer k sol to budget d from l).answer ≡ tried
        → rounds k sol to budget from deep (moves - d) d l ≡ rounds k sol to budget from deep (moves - (d + 1)) (d + 1) u
    unfolding rounds
    round-tried e = at-round h ∙ rw (e, rounds, q, add-one)

  -- what is left of the rounds, from d moves on
  module _ (whole : Bridge) (is : whole ≡ rounds k sol to budget from deep (moves - d) d l) where
    pub over-told : (letters : List ℕ) → moves ≤ d → length deep ≡ moves → letters ≡ laid 0 deep → telling moves l d letters ≡ told whole
    over-told letters h m g = chain-told whole deep letters moves l d false (is ∙ rounds-end h) (sym m) g

    module _ (h : d < moves) (r : Search) (s : SearchIs budget 0 d (from_kmer k sol to budget d from l) r) where
      pub found-told : (n : ℕ) → r.end ≡ Ends.Found n → telling n r.lookups d r.letters ≡ told whole
      found-told n e =
          let f = was-found d (from_kmer k sol to budget d from l) r n (from_kmer k sol to budget d from l).answer refl s.end e in
          chain-told whole f.bs r.letters n r.lookups d false (is ∙ round-found h r.lookups (sym s.lookups) f.bs f.is) f.moves f.letters

      pub stopped-told : (letters : List ℕ) → r.end ≡ Ends.Stopped → length deep ≡ moves → letters ≡ laid 0 deep
          → telling moves r.lookups d letters ≡ told whole
      stopped-told letters t m g =
          let e = was-stopped d (from_kmer k sol to budget d from l) r (from_kmer k sol to budget d from l).answer s.end t in
          chain-told whole deep letters moves r.lookups d true (is ∙ round-stopped h r.lookups (sym s.lookups) e) (sym m) g

      pub tried-on : r.end ≡ Ends.Tried → whole ≡ rounds k sol to budget from deep (moves - (d + 1)) (d + 1) r.lookups
      tried-on e = is ∙ round-tried h r.lookups (sym s.lookups) (was-tried 0 d (from_kmer k sol to budget d from l).answer r s.end e)

-- ---- the deep search

module _ (k : ℕ) (sol : ℕ → Bool) (to budget from : ℕ) where
  deep-found : (bs : List ℕ) → (from_kmer k sol to budget max_moves from 0).answer ≡ found bs
      → bridge k sol to budget from ≡ rounds k sol to budget from bs (length bs - 1) 1 (from_kmer k sol to budget max_moves from 0).lookups
  unfolding bridge
  deep-found bs e = rw (e, bridge)

  deep-tried : (from_kmer k sol to budget max_moves from 0).answer ≡ tried
      → bridge k sol to budget from ≡ bridge_by none (from_kmer k sol to budget max_moves from 0).lookups 17 false
  unfolding bridge
  deep-tried e = rw (e, bridge)

  deep-stopped : (from_kmer k sol to budget max_moves from 0).answer ≡ stopped
      → bridge k sol to budget from ≡ bridge_by none (from_kmer k sol to budget max_moves from 0).lookups 1 true
  unfolding bridge
  deep-stopped e = rw (e, bridge)

  same-rounds : (x bs : List ℕ) (n l : ℕ) {u : ℕ} → x ≡ bs → n ≡ length bs → l ≡ u
      → rounds k sol to budget from x (n - 1) 1 l ≡ rounds k sol to budget from bs (length bs - 1) 1 u
  same-rounds x bs n l e f g = rw (e, f, g)

  module _ (r : Search) (s : SearchIs budget 0 max_moves (from_kmer k sol to budget max_moves from 0) r) where
    pub chained : (n : ℕ) → r.end ≡ Ends.Found n → Chained max_moves (from_kmer k sol to budget max_moves from 0) r n
    chained n e = was-found max_moves (from_kmer k sol to budget max_moves from 0) r n (from_kmer k sol to budget max_moves from 0).answer refl s.end e

    pub chain-deep : (n : ℕ) (t : Told) → r.end ≡ Ends.Found n → t ≡ told (rounds k sol to budget from (take n r.letters) (n - 1) 1 r.lookups)
        → t ≡ told (bridge k sol to budget from)
    chain-deep n t e g =
        let f = chained n e in
        g ∙ ap told (same-rounds (take n r.letters) f.bs n r.lookups (best-is f) f.moves s.lookups ∙ sym (deep-found f.bs f.is))

    pub tried-deep : (t : Told) → r.end ≡ Ends.Tried → ((stop : Bool) → t ≡ told (bridge_by none r.lookups 17 stop)) → t ≡ told (bridge k sol to budget from)
    tried-deep t e g =
        let a = was-tried 0 max_moves (from_kmer k sol to budget max_moves from 0).answer r s.end e in
        g false ∙ ap told (ap (λ (l : ℕ). bridge_by none l 17 false) s.lookups ∙ sym (deep-tried a))

    pub stopped-deep : (t : Told) → r.end ≡ Ends.Stopped → ((stop : Bool) → t ≡ told (bridge_by none r.lookups 1 stop)) → t ≡ told (bridge k sol to budget from)
    stopped-deep t e g =
        let a = was-stopped max_moves (from_kmer k sol to budget max_moves from 0) r (from_kmer k sol to budget max_moves from 0).answer s.end e in
        g true ∙ ap told (ap (λ (l : ℕ). bridge_by none l 1 true) s.lookups ∙ sym (deep-stopped a))
