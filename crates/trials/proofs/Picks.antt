-- A trial that is refused before its first confirm base, and a mend that is kept.
use Prim.Native.Nat.{ℕ, ◌≤◌}
use mathlib.Core.Path.{◌≡◌, sym, ap, ◌∙◌}
use mathlib.Core.Option.{Option, none, some}
use mathlib.Core.List.{List}
use lib.ListN.{get_or}
use Rattle.rules.specs.Letters.{Kmer}
use Rattle.rules.specs.Set.{KmerSet, lookup, solid}
use Rattle.rules.specs.Exist.{Mend, Scenario, tried}
use Rattle.kmer.specs.declared.Kmer.{Kmer as KmerOf}
use Rattle.scenario.specs.declared.counted.Try.{Try as TryOf}
use Rattle.scenario.specs.declared.mend.Mend.{Mend as Kept}
use Rattle.scenario.specs.Scenario.{of_code, Gives}
use Rattle.std.specs.Prelude.{None}
use Rattle.trials.specs.Trials.{Eligible, Placed}

pub not-eligible : {k : ℕ} {set : KmerSet} {c : ℕ} {s : List ℕ} {sc : Scenario} {l : ℕ} (r : TryOf (KmerOf × ℕ)) → (r.answer ≡ None) × (r.lookups ≡ l)
    → tried k (solid set) c s sc ≡ record { answer = none; lookups = l } → l ≤ 8 → Eligible k set c s sc r
not-eligible r p e h = record { is = rw (p.0, p.1) e; few = rw p.1 h }

-- a mend has the place of its tried k-mer's key
pub gives-place : (set : KmerSet) {sc : Scenario} {t : Kmer} {place : ℕ} (m : Kept) → lookup set t.code ≡ some place → Gives sc t place m → Placed set m
gives-place set m e g =
    ap (λ (ys : List Kmer). lookup set (get_or ys 0 (of_code 0)).code) (ap (λ (w : Mend). w.on) g.is) ∙ e ∙ ap {B = Option ℕ} some (sym g.place_is)
