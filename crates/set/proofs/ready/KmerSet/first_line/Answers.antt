use native.Mathlib.Omega.{arith}
use mathlib.Core.Path.{◌≡◌}
use Rattle.rules.specs.Letters.{canonical}
use Rattle.rules.specs.Set.{header_k}
use Prim.Native.Nat.{◌^◌, ◌<◌}
use Rattle.set.proofs.Opened.{opened-n-le}
use Rattle.rules_laws.proofs.Kmer.{canonical-lt}
use Rattle.set.proofs.Table.{shift-lt, one-prefix}
use Rattle.set.proofs.ready.KmerSet.first_line.Goals.{After-canonical-key}
use Rattle.set.proofs.ready.KmerSet.first_line.Goals as goal

module _ (c : After-canonical-key) where
  key-is : c.canonical-key.result ≡ canonical c.args.self.now.head.k c.args.kmer.code
  key-is = c.canonical-key.ensures _ c.requires

  key-lt : c.canonical-key.result < 4 ^ header_k c.args.self.now.bytes.now
  key-lt = rw (key-is, ← c.args.self.now.ready.k_is) (canonical-lt _ _ c.requires.small)

pub range_of-range-requires : goal.range_of-range-requires
range_of-range-requires c = key-lt (goal.at.range_of-range-requires c).After-canonical-key

pub span_of-span-requires : goal.span_of-span-requires
span_of-span-requires c = key-lt (goal.at.span_of-span-requires c).After-canonical-key

pub first_line-requires : goal.first_line-requires
first_line-requires c =
    let table = c.args.self.now.ready.table in
    let n = opened-n-le _ table.opens in
    let span = c.span_of-span.ensures in (
      omega (arith, shift-lt table),
      omega (arith, n, c.range_of-range.ensures.ends.within),
      omega (arith, n, span.starts.within),
      omega (arith, n, span.ends.within),
    )

pub returns : goal.returns
returns c = (
  c.first_line.ensures.0,
  λ lo hi inside.
      let same = one-prefix (rw (key-is (goal.at.returns c).After-canonical-key) at c.span_of-span.ensures) inside in
      rw (← same.0, ← same.1) c.first_line.ensures.1,
)
