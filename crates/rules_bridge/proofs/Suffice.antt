-- A search that was not stopped is the same in every budget of at least its lookups: the theorem `lookups-suffice`.
use Prim.Native.Nat.{ℕ, zero, suc, ◌+◌, ◌-◌, ◌≤◌}
use native.Mathlib.Omega.{arith}
use native.Mathlib.Nat.{le_refl}
use borrow.Author.Tests.{le-ltb}
use mathlib.Core.Path.{◌≡◌, refl, sym, ap, ◌∙◌}
use mathlib.Core.Bool.{Bool, true, false, true≢false}
use mathlib.Core.List.{List}
use lib.ListN.{length}
use lib.Dec.{eqb, ltb}
use Rattle.rules.specs.Letters.{push}
use Rattle.rules.specs.Counted.{Counted}
use Rattle.rules.specs.Set.{solid}
use Rattle.rules_bridge.specs.Bridge.{max_moves, cost, End, found, tried, stopped, before, go_on, in_order, from_letter, from_kmer, Bridge, rounds, bridge}
use Rattle.rules_bridge.specs.Promises.{LookupsSuffice}
use Rattle.rules_bridge.proofs.Search.{stopped-found, stopped-tried, in_order-spent, from_letter-spent, spent}
use Rattle.rules_bridge.proofs.Promised.{searched, searched-back}

-- q is r, if r is not stopped and its lookups are in the other budget.
abbrev Same : ℕ → Counted End → Counted End → Type 0
Same other r q = (r.answer ≡ stopped → ⊥) → r.lookups ≤ other → q ≡ r

go_on-same : (other : ℕ) (r q : Counted End) (more more' : ℕ → Counted End) → Same other r q → ((u : ℕ) → Same other (more u) (more' u))
    → ((u : ℕ) → u ≤ (more u).lookups) → Same other (go_on r more) (go_on q more')
unfolding go_on
go_on-same other r q more more' h g up n b = go r.answer refl
  where
    go : (e : End) → r.answer ≡ e → go_on q more' ≡ go_on r more
    go (found bs) e =
        let s : q ≡ r = h (λ x. stopped-found bs (sym x ∙ e)) (rw (e, go_on) at b) in
        let w : go_on r more' ≡ go_on r more = rw (e, go_on) in
        ap (λ (x : Counted End). go_on x more') s ∙ w
    go tried e =
        let b' : (more r.lookups).lookups ≤ other = rw (e, go_on) at b in
        let s : q ≡ r = h (λ x. stopped-tried (sym x ∙ e)) (omega (arith, b', up r.lookups)) in
        let w : go_on r more' ≡ go_on r more = rw (e, go_on) (g r.lookups (λ x. n (rw (e, go_on) x)) b') in
        ap (λ (x : Counted End). go_on x more') s ∙ w
    go stopped e = absurd (n (rw (e, go_on) e))

in_order-same : (other : ℕ) (look look' : ℕ → ℕ → Counted End) → ((a l : ℕ) → Same other (look a l) (look' a l))
    → ((m a l : ℕ) → l ≤ (in_order look m a l).lookups) → (m a l : ℕ) → Same other (in_order look m a l) (in_order look' m a l)
unfolding in_order
in_order-same other look look' h up zero a l = λ n b. refl
in_order-same other look look' h up (suc m) a l =
    go_on-same other (look a l) (look' a l) (in_order look m (suc a)) (in_order look' m (suc a)) (h a l) (in_order-same other look look' h up m (suc a))
    (up m (suc a))

module _ (k : ℕ) (sol : ℕ → Bool) (to budget other : ℕ) where
  from_letter-same : (behind behind' : ℕ → ℕ → Counted End) → ((z l : ℕ) → Same other (behind z l) (behind' z l)) → (y a l : ℕ)
      → Same other (from_letter k sol to budget behind y a l) (from_letter k sol to other behind' y a l)
  unfolding from_letter before
  from_letter-same behind behind' h y a l n b = go (sol (push 4 k y a)) refl (eqb (push 4 k y a) to) refl
    where
      go : (p : Bool) → sol (push 4 k y a) ≡ p → (q : Bool) → eqb (push 4 k y a) to ≡ q
          → from_letter k sol to other behind' y a l ≡ from_letter k sol to budget behind y a l
      go false e q f = rw (e, from_letter)
      go true e true f = rw (e, from_letter, f)
      go true e false f =
          let b' : (behind (push 4 k y a) l).lookups ≤ other = rw (e, from_letter, f) at b in
          let s : behind' (push 4 k y a) l ≡ behind (push 4 k y a) l = h (push 4 k y a) l (λ x. n (rw (from_letter, e, f, x))) b' in
          rw (e, from_letter, f, s)

  from_kmer-same : (m y l : ℕ) → Same other (from_kmer k sol to budget m y l) (from_kmer k sol to other m y l)
  unfolding from_kmer
  from_kmer-same zero y l n b = refl
  from_kmer-same (suc m) y l n b = go (from_kmer-same m) (ltb (budget - l) cost) refl
    where
      look : ℕ → ℕ → Counted End
      look = from_letter k sol to budget (from_kmer k sol to budget m) y

      up : (j a u : ℕ) → u ≤ (in_order look j a u).lookups
      up j a u =
          (in_order-spent budget look (from_letter-spent k sol to budget (from_kmer k sol to budget m) (spent k sol to budget m) y) j a u).grows

      go : ((z u : ℕ) → Same other (from_kmer k sol to budget m z u) (from_kmer k sol to other m z u)) → (s : Bool) → ltb (budget - l) cost ≡ s
          → from_kmer k sol to other (suc m) y l ≡ from_kmer k sol to budget (suc m) y l
      go i true e = absurd (n (rw (from_kmer, e)))
      go i false e =
          let b' : (in_order look 4 0 (l + cost)).lookups ≤ other = rw (e, from_kmer) at b in
          let e' : ltb (other - l) cost ≡ false = le-ltb (other - l) cost (omega (arith, b', up 4 0 (l + cost))) in
          let n' : (in_order look 4 0 (l + cost)).answer ≡ stopped → ⊥ = λ x. n (rw (e, from_kmer) x) in
          rw (e, e', from_kmer)
          (in_order-same other look (from_letter k sol to other (from_kmer k sol to other m) y)
          (from_letter-same (from_kmer k sol to budget m) (from_kmer k sol to other m) i y) up 4 0 (l + cost) n' b')

  module _ (from : ℕ) where
    -- a search's end and lookups
    same_end : (d l : ℕ) (e : End) → (from_kmer k sol to budget d from l).answer ≡ e → (e ≡ stopped → ⊥) → (from_kmer k sol to budget d from l).lookups ≤ other
        → ((from_kmer k sol to other d from l).answer ≡ e) × ((from_kmer k sol to other d from l).lookups ≡ (from_kmer k sol to budget d from l).lookups)
    same_end d l e f n b =
        let s = from_kmer-same d from l (λ x. n (sym f ∙ x)) b in
        (ap (λ (r : Counted End). r.answer) s ∙ f, ap (λ (r : Counted End). r.lookups) s)

    rounds-grow : (deep : List ℕ) (n d l : ℕ) → l ≤ (rounds k sol to budget from deep n d l).lookups
    unfolding rounds
    rounds-grow deep zero d l = le_refl l
    rounds-grow deep (suc n) d l = go (rounds-grow deep n (suc d)) (from_kmer k sol to budget d from l).answer refl
      where
        u-le : l ≤ (from_kmer k sol to budget d from l).lookups
        u-le = (spent k sol to budget d from l).grows

        go : ((u : ℕ) → u ≤ (rounds k sol to budget from deep n (suc d) u).lookups) → (e : End) → (from_kmer k sol to budget d from l).answer ≡ e
            → l ≤ (rounds k sol to budget from deep (suc n) d l).lookups
        go i (found bs) e = rw (e, rounds) u-le
        go i tried e = rw (e, rounds) (omega (arith, u-le, i (from_kmer k sol to budget d from l).lookups))
        go i stopped e = rw (e, rounds) u-le

    rounds-same : (deep : List ℕ) (n d l : ℕ) → (rounds k sol to budget from deep n d l).stop ≡ false → (rounds k sol to budget from deep n d l).lookups ≤ other
        → rounds k sol to other from deep n d l ≡ rounds k sol to budget from deep n d l
    unfolding rounds
    rounds-same deep zero d l h b = refl
    rounds-same deep (suc n) d l h b = go (rounds-same deep n (suc d)) (from_kmer k sol to budget d from l).answer refl
      where
        u : ℕ
        u = (from_kmer k sol to budget d from l).lookups

        go : ((v : ℕ) → (rounds k sol to budget from deep n (suc d) v).stop ≡ false → (rounds k sol to budget from deep n (suc d) v).lookups ≤ other
            → rounds k sol to other from deep n (suc d) v ≡ rounds k sol to budget from deep n (suc d) v)
            → (e : End) → (from_kmer k sol to budget d from l).answer ≡ e
            → rounds k sol to other from deep (suc n) d l ≡ rounds k sol to budget from deep (suc n) d l
        go i (found bs) e =
            let s = same_end d l (found bs) e (λ x. stopped-found bs (sym x)) (rw (e, rounds) at b) in
            rw (rounds, s.0, s.1, e)
        go i tried e =
            let b' : (rounds k sol to budget from deep n (suc d) u).lookups ≤ other = rw (e, rounds) at b in
            let s = same_end d l tried e (λ x. stopped-tried (sym x)) (omega (arith, b', rounds-grow deep n (suc d) u)) in
            rw (rounds, s.0, s.1, e) (i u (rw (e, rounds) at h) b')
        go i stopped e = absurd (true≢false (rw (e, rounds) at h))

    bridge-same : (bridge k sol to budget from).stop ≡ false → (bridge k sol to budget from).lookups ≤ other
        → bridge k sol to other from ≡ bridge k sol to budget from
    unfolding bridge
    bridge-same h b = go (from_kmer k sol to budget max_moves from 0).answer refl
      where
        u : ℕ
        u = (from_kmer k sol to budget max_moves from 0).lookups

        go : (e : End) → (from_kmer k sol to budget max_moves from 0).answer ≡ e → bridge k sol to other from ≡ bridge k sol to budget from
        go (found bs) e =
            let b' : (rounds k sol to budget from bs (length bs - 1) 1 u).lookups ≤ other = rw (e, bridge) at b in
            let s = same_end max_moves 0 (found bs) e (λ x. stopped-found bs (sym x)) (omega (arith, b', rounds-grow bs (length bs - 1) 1 u)) in
            rw (bridge, s.0, s.1, e) (rounds-same bs (length bs - 1) 1 u (rw (e, bridge) at h) b')
        go tried e =
            let s = same_end max_moves 0 tried e (λ x. stopped-tried (sym x)) (rw (e, bridge) at b) in
            rw (bridge, s.0, s.1, e)
        go stopped e = absurd (true≢false (rw (e, bridge) at h))

pub lookups-suffice : LookupsSuffice
lookups-suffice bytes from to budget other b h n le =
    let s = searched bytes from to budget b h in
    let stop : (bridge s.set.k (solid s.set) to budget from).stop ≡ false = ap (λ (x : Bridge). x.stop) s.is ∙ n in
    let most : (bridge s.set.k (solid s.set) to budget from).lookups ≤ other = rw s.is le in
    searched-back bytes from to other b
    (record {
      set = s.set;
      opens = s.opens;
      both = s.both;
      is = bridge-same s.set.k (solid s.set) to budget other from stop most ∙ s.is;
    })
