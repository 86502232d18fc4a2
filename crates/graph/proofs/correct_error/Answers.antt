use Prim.Native.Nat.{◌^◌, ◌<◌}
use native.Mathlib.Omega.{arith}
use lib.ListN.{length}
use Rattle.graph.proofs.Laws.{scan-fits, graph-scanned}
use Rattle.graph.proofs.correct_error.Goals as goal

pub from_scan-requires : goal.from_scan-requires
from_scan-requires c =
    let l : length c.args.s.now < 2 ^ 63 = omega (arith, c.well_formed.1.1.0) in
    let w = scan-fits _ _ _ _ c.error_len.result c.error_len.ensures c.requires.1 l in
    (c.requires.0, w.0, w.1)

pub returns : goal.returns
returns c = graph-scanned _ _ _ _ _ c.error_len.ensures c.from_scan.ensures
