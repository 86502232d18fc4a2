use Prim.Native.Nat.{◌-◌, ◌≤◌}
use mathlib.Core.Path.{◌≡◌}
use lib.ListN.{length}
use Rattle.rules.specs.Set.{solid, set_of}
use Rattle.rules_edits.specs.Edits.{kept_from, letters_to}
use Rattle.edit_forms.specs.Sheet.{sheet_of}
use Rattle.kmer.specs.Kmer.{IsKmer}
use Rattle.edit_walk.specs.Walk.{stand_of, walk_from, walk}
use Rattle.edit_walk.proofs.over_edits.Given as goal

abbrev pub invariant-loop-i : goal.invariant-loop-i
invariant-loop-i l =
    (l.i ≤ l.n)
    × (l.from ≤ length l.sheet.read.now)
    × (l.from ≡ kept_from (sheet_of l.sheet) l.i)
    × (l.given ≡ letters_to (sheet_of l.sheet) l.i)
    × IsKmer l.set.head.k l.walk.kmer
    × (walk l.set.head.k (solid (set_of l.set.bytes.now)) (sheet_of l.sheet)
    ≡ walk_from l.set.head.k (solid (set_of l.set.bytes.now)) (sheet_of l.sheet) (l.n - l.i) l.i (stand_of l.walk))
