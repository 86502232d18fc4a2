use Rattle.std.proofs.lemmas.Result.{err_from_is_err_and}
use Rattle.rules_bridge.specs.Bridge.{told_of}
use Rattle.offered.proofs.Nothing.{set-refused}
use Rattle.bridge.proofs.Call.{not_opened}
use Rattle.bridge.proofs.find_bridge.Goals as goal

pub returns-in_err-opened : goal.returns-in_err-opened
unfolding told_of
returns-in_err-opened c =
    let p = err_from_is_err_and c.from_residual.result c.from_residual.ensures.1 in
    record { told = rw (p.1, p.2, not_opened _ _ _ _ _ (set-refused _ _ c.in_err-opened.ensures)); moved = rw p.1 tt }

pub between-requires : goal.between-requires
between-requires c = let o = c.in_ok-opened.ensures in rw o.bytes_are o.opens

pub returns : goal.returns
returns c = record { told = rw c.in_ok-opened.ensures.bytes_are at c.between.ensures.told; moved = c.between.ensures.moved }
