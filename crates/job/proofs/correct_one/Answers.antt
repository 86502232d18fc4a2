use native.Mathlib.Omega.{arith}
use Rattle.std.proofs.lemmas.Grind.{common_steps}
use Rattle.job.proofs.Single.{single-no-room, single-small, single-accepted}
use Rattle.job.proofs.correct_one.Goals as goal

pub returns-in_default : goal.returns-in_default
returns-in_default c =
    let t = c.in_default.ensures in
    single-no-room _ _ _ _ _ _ c.args.work.now _ t.output_room t.work_room _ t.is c.no_room.ensures

pub accept-requires : goal.accept-requires
accept-requires c =
    let t = c.in-Ok.ensures in
    single-small _ _ _ _ _ _ c.args.work.now _ t.output_room t.work_room _ t.is c.requires

pub returns : goal.returns
returns c =
    let t = c.in-Ok.ensures in
    single-accepted _ _ _ _ _ _ c.args.work.now _ t.output_room t.work_room _ t.is _ (grind (arith, common_steps)) c.accept.ensures
