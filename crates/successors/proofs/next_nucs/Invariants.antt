use Prim.Native.Nat.{ℕ, ◌≤◌, ◌<◌}
use mathlib.Core.Path.{◌≡◌}
use lib.ListN.{length, get_or}
use Rattle.rules.specs.Set.{set_of}
use Rattle.kmer.specs.Kmer.{kmer_of}
use Rattle.successors.specs.Successors.{place_at}
use Rattle.successors.proofs.next_nucs.Given as goal

-- The places of the letters before nuc stand.
abbrev pub invariant-loop-nuc : goal.invariant-loop-nuc
invariant-loop-nuc l =
    (l.nuc ≤ 4) × (length l.places ≡ 4) × ((a : ℕ) → a < l.nuc → get_or l.places a 0 ≡ place_at (set_of l.set.bytes.now) l.set.head.k (kmer_of l.kmer) a)
