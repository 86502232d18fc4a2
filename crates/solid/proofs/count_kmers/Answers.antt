use Rattle.std.proofs.Common.{arith, rules}
use Rattle.rules.specs.Set.{set_of}
use Rattle.kmer.specs.Kmer.{kmer_of}
use Rattle.solid.proofs.Solids.{bit_le, behind-one, behind-end, solids-long}
use Rattle.solid.proofs.count_kmers.Goals as goal

pub loop-i-init : goal.loop-i-init
loop-i-init c =
    let s = c.seq2bit-kmer.ensures in
    let a = c.args in (
      omega (arith, bit_le c.ask-count.result.solid, a.set.now.head.shifts.k_low),
      s.kmer,
      solids-long _ a.read.now (set_of a.set.now.bytes.now) _ _ c.requires s.is c.ask-count.ensures.solid,
    )

pub loop-i-preserved : goal.loop-i-preserved
loop-i-preserved c =
    let l = c.loop-i in
    let e = c.add_base-kmer.ensures in
    let q = behind-one _ c.args.read.now (set_of c.args.set.now.bytes.now) l.i (kmer_of l.kmer) _ _ c.loop-i-test.true e.is c.ask.ensures.solid in (
      omega (arith, bit_le c.ask.result.solid, l.invariant.0),
      e.kmer,
      omega (arith, l.invariant.2, q),
    )

pub returns : goal.returns
returns c =
    let l = c.loop-i in
    omega (arith, l.invariant.2, behind-end c.args.set.now.head.k c.args.read.now (set_of c.args.set.now.bytes.now) l.i (kmer_of l.kmer) (search rules))
