-- The search from a k-mer and that from a letter call each other; the measure is the moves left, and a letter comes before its k-mer.
use Rattle.std.proofs.Common.{◌≡◌, ◌≤◌, ◌-◌, ◌*◌}
use Rattle.rules.specs.Set.{solid, set_of}
use Rattle.rules_bridge.specs.Bridge as rules
use Rattle.bridge_search.proofs.+from_kmer_from_letter.Given as goal

abbrev pub decreases-from_kmer : goal.decreases-from_kmer
decreases-from_kmer l = 2 * l.left

abbrev pub decreases-from_letter : goal.decreases-from_letter
decreases-from_letter l = 2 * l.left - 1

abbrev pub invariant-from_kmer-loop-nuc : goal.invariant-from_kmer-loop-nuc
invariant-from_kmer-loop-nuc l =
    (l.nuc ≤ 4)
    × (l.spent ≤ l.budget)
    × (rules.from_kmer l.set.head.k (solid (set_of l.set.bytes.now)) l.to l.budget l.left l.kmer.code l.lookups
    ≡ rules.in_order
    (rules.from_letter l.set.head.k (solid (set_of l.set.bytes.now)) l.to l.budget (rules.from_kmer l.set.head.k (solid (set_of l.set.bytes.now)) l.to l.budget (l.left - 1)) l.kmer.code)
    (4 - l.nuc) l.nuc l.spent)
