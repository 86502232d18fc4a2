use Prim.Native.Nat.{◌^◌, ◌<◌}
use native.Mathlib.Omega.{arith}
use lib.ListN.{length}
use Rattle.graph.proofs.Laws.{scan-fits}
use Rattle.gap_size.proofs.Branches.{gap_below, gap_at, gap-above}
use Rattle.gap_size.proofs.correct_error.Goals.{After-error_len-scan}
use Rattle.gap_size.proofs.correct_error.Goals as goal

fits : (c : After-error_len-scan) → (c.error_len-scan.result.index < 2 ^ 63) × (c.error_len-scan.result.lookups < 2 ^ 63)
fits c =
    let l : length c.args.s.now < 2 ^ 63 = omega (arith, c.well_formed.1.1.1.0) in
    scan-fits _ _ _ _ c.error_len-scan.result c.error_len-scan.ensures c.requires.1 l

pub from_scan-requires : goal.from_scan-requires
from_scan-requires c = (c.requires.0, (fits (goal.at.from_scan-requires c).After-error_len-scan).0, (fits (goal.at.from_scan-requires c).After-error_len-scan).1)

pub returns-then-scan-set : goal.returns-then-scan-set
returns-then-scan-set c =
    gap_below _ _ _ _ _ _ c.error_len-scan.result c.error_len-scan.ensures c.if-scan-set.true c.from_scan.ensures

pub correct_error-requires : goal.correct_error-requires
correct_error-requires c =
    (λ a m. m, (c.requires.0, c.requires.2, omega (arith, (fits (goal.at.correct_error-requires c).After-error_len-scan).1)))

pub returns-then-scan-set-2 : goal.returns-then-scan-set-2
returns-then-scan-set-2 c =
    gap_at _ _ _ _ _ _ c.error_len-scan.result c.error_len-scan.ensures c.if-scan-set.false c.if-scan-set-2.true c.correct_error.ensures

pub ins_sub_correction-requires : goal.ins_sub_correction-requires
ins_sub_correction-requires c =
    (c.requires.0, c.if-scan-set.false, (fits (goal.at.ins_sub_correction-requires c).After-error_len-scan).1)

pub returns : goal.returns
returns c =
    let le = c.if-scan-set.false in
    gap-above _ _ _ _ _ _ c.error_len-scan.result c.error_len-scan.ensures le c.if-scan-set-2.false c.ins_sub_correction.ensures
