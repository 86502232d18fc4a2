-- Demand 2's `Exactly`, shown of Graph and of GapSize.
use Prim.Native.Nat.{ℕ, suc, ◌<◌}
use borrow.Author.Tests.{lt-ltb}
use mathlib.Core.Path.{◌≡◌, refl, sym, ap, ◌∙◌}
use mathlib.Core.Bool.{Bool, true, false, true≢false}
use mathlib.Core.Option.{Option, none, some, some-injective}
use mathlib.Core.List.{List, ◌∷◌}
use Rattle.rules.specs.Letters.{Kmer, all_known, drop_last}
use Rattle.rules.specs.Counted.{Try, after, give}
use Rattle.rules.specs.Scan.{Scan, ask, alternative, error_len}
use Rattle.rules.specs.Exist.{Mend}
use Rattle.rules.specs.Graph.{Moves, move, more, spell, walk_from, graph_from, graph, chain_mend, Exactly}
use Rattle.rules.specs.GapSize.{gap_size}
use Rattle.rules_laws.proofs.Kmer.{known-true}
use Rattle.rules_laws.proofs.Counted.{bind-some, bind_is}
use Rattle.rules_laws.proofs.Scan.{ask-known, sole-is, sole-lt}
use Rattle.rules_laws.proofs.Few.{SolidKmer, Few}
use Rattle.rules_laws.proofs.Walk.{chain-found, found-chain}

module _ (k : ℕ) (sol : ℕ → Bool) where
  -- the last k-mer of a chain is solid
  moves-end : {y t : Kmer} {zs : List Kmer} → Moves k sol y zs t → (ask sol t).answer ≡ true
  moves-end (move o) = o.solid_found
  moves-end (more o m) = moves-end m

  -- No chain leads to a T that holds an unknown letter, so an attempt then gives no mend.
  pub no-chain : (s : List ℕ) (y : Kmer) (t : Try Mend) → Exactly k sol s y t → all_known (error_len k sol y s).end ≡ false → t.answer ≡ none
  no-chain s y t e u = go t.answer refl
    where
      go : (o : Option Mend) → t.answer ≡ o → o ≡ none
      go none f = refl
      go (some m) f =
          let b = (e.only_if m f).0 in
          let z = ask-known sol (error_len k sol y s).end (moves-end b.chain.moves) in
          absurd (true≢false (sym (known-true (error_len k sol y s).end z) ∙ u))

-- the alternative is a solid k-mer
pub x-good : (k : ℕ) (sol : ℕ → Bool) (y x : Kmer) → (alternative k sol y).answer ≡ some x → SolidKmer k sol x
unfolding alternative SolidKmer
x-good k sol y x e = (sole-lt k sol (drop_last y) x e, (sole-is k sol (drop_last y) x e).solid_found)

module _ (k n : ℕ) (sol : ℕ → Bool) (few : Few k n sol) (s : List ℕ) (y : Kmer) where
  graph_from-exactly : Exactly k sol s y (graph_from k n sol (error_len k sol y s) y)
  unfolding graph_from chain_mend give
  graph_from-exactly =
      record {
        if_chain = λ b.
            bind_is (alternative k sol y) _ b.x b.starts
            ∙ bind_is (walk_from k n sol sc.end b.x) _ (b.x ∷ b.chain.via)
            (chain-found k n sol few b.x (x-good k sol y b.x b.starts) sc.end b.chain);
        only_if = λ m e.
            let w = bind-some (alternative k sol y) _ m e in
            let v = bind-some (walk_from k n sol sc.end w.0) _ m w.2 in
            let c = found-chain k n sol few w.0 (x-good k sol y w.0 w.1) sc.end v.0 v.1 in (
              record { x = w.0; starts = w.1; chain = c.0 },
              sym (some-injective _ m v.2) ∙ ap (λ (ls : List Kmer). record { letters = spell ls; resume = suc sc.index; on = ls }) c.1,
            );
      }
    where
      sc : Scan
      sc = error_len k sol y s

  pub graph-exactly : Exactly k sol s y (graph k n sol s y)
  unfolding graph after
  graph-exactly = record { if_chain = graph_from-exactly.if_chain; only_if = graph_from-exactly.only_if }

  -- GapSize where its index is below k
  pub gap_size-exactly : (c : ℕ) → (error_len k sol y s).index < k → Exactly k sol s y (gap_size k n sol c s y)
  unfolding gap_size after
  gap_size-exactly c lt =
      rw (lt-ltb (error_len k sol y s).index k lt, gap_size)
      (record { if_chain = graph_from-exactly.if_chain; only_if = graph_from-exactly.only_if })
