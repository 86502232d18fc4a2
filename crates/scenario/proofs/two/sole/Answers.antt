use native.Mathlib.Omega.{arith}
use mathlib.Core.Path.{ap}
use lib.Dec.{lit≤}
use Rattle.rules.specs.Letters.{Kmer}
use Rattle.rules.specs.Set.{solid, set_of}
use Rattle.rules.specs.Counted.{Try}
use Rattle.rules_laws.proofs.Scan.{sole-cost}
use Rattle.kmer.specs.Kmer.{kmer_of}
use Rattle.scenario.proofs.Trials.{by-given, by-refused}
use Rattle.scenario.proofs.two.sole.Goals as goal

pub returns-in-Ok : goal.returns-in-Ok
returns-in-Ok c =
    (by-given _ c.given.ensures c.in-Ok.ensures.0 c.in-Ok.ensures.1 (lit≤ tt), omega (arith, c.given.ensures.1))

pub returns-in-Err : goal.returns-in-Err
returns-in-Err c =
    let a = c.args.set.now in
    let made = ap (λ (t : Try Kmer). t.lookups) c.in-Err.ensures in
    let few = sole-cost a.head.k (solid (set_of a.bytes.now)) (kmer_of c.args.x) in
    (by-refused _ c.refused.ensures c.in-Err.ensures (omega arith), omega (arith, c.refused.ensures.1))
