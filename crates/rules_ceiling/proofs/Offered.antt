-- Document 02, W7: demand 3 says the same of a set with an index that passes 15 as without it.
use Prim.Native.Nat.{ℕ, ◌+◌, ◌*◌, ◌≤◌}
use mathlib.Core.Path.{◌≡◌, refl, sym, ap, ◌∙◌, subst, fun_ext}
use mathlib.Core.Bool.{true, false}
use mathlib.Core.Logic.{◌↔◌}
use mathlib.Core.Option.{none}
use mathlib.Core.List.{List, []}
use lib.ListN.{length}
use lib.Dec.{ltb}
use Rattle.rules.specs.Refusal.{accepted}
use Rattle.rules.specs.Set.{KmerSet, offering, opened}
use Rattle.rules.specs.Index.{index_check}
use Rattle.rules.specs.Job.{Method, One, Two, Graph, GapSize, Entry}
use Rattle.rules.specs.Counts.{turns, lookups, w_of}
use Rattle.rules_ceiling.specs.Ceiling.{F, ceiling, Demand3}
use Rattle.rules_laws.proofs.Offered.{same-turns, same-lookups, same-w_of, same_sum}

module _ (bytes : List ℕ) (set : KmerSet) (o : opened bytes ≡ accepted set) (index counts : List ℕ) (passes : index_check set index ≡ none) where
  abbrev indexed : KmerSet
  indexed = offering index counts set

  abbrev direct : KmerSet
  direct = offering [] counts set

  same-F : (c : ℕ) (m : Method) → F indexed c m ≡ F direct c m
  unfolding F offering
  same-F c One = refl
  same-F c Two = refl
  same-F c Graph = refl
  same-F c GapSize = refl

  same-ceiling : ceiling indexed ≡ ceiling direct
  unfolding ceiling w_of offering
  same-ceiling =
      fun_ext (λ p. ap (λ (f : ℕ). elim (ltb (length p.bytes) set.k) [ true ↦ 0 | false ↦ 1 + w_of direct p * f ]) (same-F p.entry.confirm p.entry.method))

  -- Demand 3, both ways.
  pub same-demand : (es : List Entry) (reads : List (List ℕ)) (t l : ℕ) → Demand3 indexed es reads t l ↔ Demand3 direct es reads t l
  same-demand es reads t l =
      let ts = same_sum bytes set o index counts passes turns (same-turns bytes set o index counts passes) es reads in
      let ls = same_sum bytes set o index counts passes lookups (same-lookups bytes set o index counts passes) es reads in
      let ws = same_sum bytes set o index counts passes w_of (same-w_of bytes set o index counts passes) es reads in
      let cs = same_sum bytes set o index counts passes ceiling same-ceiling es reads in (
        λ d. record {
          turns_are = d.turns_are ∙ ts;
          lookups_are = d.lookups_are ∙ ls;
          turns_under = subst (λ (w : ℕ). t ≤ 2 * w) ws d.turns_under;
          lookups_under = subst (λ (c : ℕ). l ≤ c) cs d.lookups_under;
        },
        λ d. record {
          turns_are = d.turns_are ∙ sym ts;
          lookups_are = d.lookups_are ∙ sym ls;
          turns_under = subst (λ (w : ℕ). t ≤ 2 * w) (sym ws) d.turns_under;
          lookups_under = subst (λ (c : ℕ). l ≤ c) (sym cs) d.lookups_under;
        },
      )
