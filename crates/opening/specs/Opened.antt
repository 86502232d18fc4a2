-- What opening answers, in document 01's terms.
use Rattle.std.specs.Prelude.{ℕ, ◌≡◌, List, Result, Ok, Err}
use Rattle.rules.specs.Refusal.{accepted, refused}
use Rattle.rules.specs.Set.{set_of, opened}
use Rattle.refusal.specs.declared.Refusal.{Refusal}
use Rattle.refusal.specs.Refusal.{refusal_of}
use Rattle.index.specs.declared.open_set.OpenSet.{OpenSet}

-- Opening: the set that the bytes say, with these bytes and so, as each `OpenSet`, with their header's k and n; or the refusal.
abbrev pub Opens : List ℕ → Result OpenSet Refusal → Type 0
Opens bytes (Ok set) = (opened bytes ≡ accepted (set_of bytes)) × (set.bytes.now ≡ bytes)
Opens bytes (Err r) = opened bytes ≡ refused (refusal_of r)
