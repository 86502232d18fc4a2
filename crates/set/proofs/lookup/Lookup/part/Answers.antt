use Prim.Native.Nat.{ℕ, ◌-◌, ◌≤◌}
use native.Mathlib.Omega.{arith}
use mathlib.Core.Path.{◌≡◌, refl}
use lib.ListN.{length, take, drop}
use Rattle.rules.specs.Set.{key_word}
use Rattle.few_keys.specs.Find.{key_in}
use Rattle.set.proofs.Opened.{opened-n-le}
use Rattle.set.proofs.Part.{part_room, part-sorted, key-same}
use Rattle.set.proofs.lookup.Lookup.part.Goals.{After-place-stop}
use Rattle.set.proofs.lookup.Lookup.part.Goals as goal

pub place-skip-requires : goal.place-skip-requires
place-skip-requires c = omega (arith, c.requires, opened-n-le _ c.args.self.now.table.opens)

pub place-stop-requires : goal.place-stop-requires
place-stop-requires c = omega (arith, c.requires, opened-n-le _ c.args.self.now.table.opens)

-- The part lies in the set.
room : (c : After-place-stop) → (c.place-skip.result ≤ c.place-stop.result) × (c.place-stop.result ≤ length c.args.self.now.bytes.now)
room c =
    let a = c.args in
    omega (arith, part_room a.self.now.bytes.now a.self.now.table.opens _ _ c.requires.0 c.requires.1, c.place-skip.ensures, c.place-stop.ensures)

pub slice_bounds-result-end : goal.slice_bounds-result-end
slice_bounds-result-end c = omega (arith, room (goal.at.slice_bounds-result-end c).After-place-stop)

pub invariant_of-result : goal.invariant_of-result
invariant_of-result c =
    let a = c.args.self.now in
    record { sorted = rw (c.place-skip.ensures, c.place-stop.ensures) (part-sorted a.bytes.now a.table.opens _ _ c.requires.0 c.requires.1) }

pub returns : goal.returns
returns c =
    let a = c.args.self.now in
    let skip : ℕ = c.place-skip.result in
    let stop : ℕ = c.place-stop.result in
    record {
      first_is = refl;
      last_is = refl;
      same = λ i l h.
          let e : key_in skip (take (stop - skip) (drop skip a.bytes.now)) i ≡ key_word a.bytes.now i =
          rw (c.place-skip.ensures, c.place-stop.ensures) (key-same a.bytes.now a.table.opens _ _ c.requires.0 c.requires.1 i l h) in
          e;
    }
