-- What opening a call's set means by the rules.
use Rattle.std.specs.Prelude.{◌≡◌, ◌⊎◌, List, ℕ, Result, Ok, Err}
use Rattle.std.proofs.Math.Option.{none, some}
use Rattle.rules.specs.Refusal.{accepted, refused}
use Rattle.rules.specs.Set.{set_of, opened}
use Rattle.rules.specs.Calls.{offer_check}
use Rattle.refusal.specs.declared.Refusal.{Refusal}
use Rattle.refusal.specs.Refusal.{refusal_of}
use Rattle.set.specs.declared.ready.KmerSet.{KmerSet}

-- The set's refusal, or that of what is offered with it.
abbrev pub RefusedBy : List ℕ → List ℕ → List ℕ → Refusal → Type 0
RefusedBy bytes index counts r =
    (opened bytes ≡ refused (refusal_of r)) ⊎ ((opened bytes ≡ accepted (set_of bytes)) × (offer_check (set_of bytes) index counts ≡ some (refusal_of r)))

-- The set opens, what is offered passes, and lookups are ready in these bytes, with these counts.
pub record Offers (bytes index counts : List ℕ) (set : KmerSet) : Type 0 where
  pub opens : opened bytes ≡ accepted (set_of bytes)
  pub passes : offer_check (set_of bytes) index counts ≡ none
  pub bytes_are : set.bytes.now ≡ bytes
  pub counts_are : set.counts.now ≡ counts

-- A set ready for lookups, or the refusal.
abbrev pub OfferedIs : List ℕ → List ℕ → List ℕ → Result KmerSet Refusal → Type 0
OfferedIs bytes index counts (Ok set) = Offers bytes index counts set
OfferedIs bytes index counts (Err r) = RefusedBy bytes index counts r
