use Prim.Native.Nat.{◌+◌, ◌-◌}
use native.Mathlib.Omega.{arith}
use mathlib.Core.Path.{◌≡◌, refl}
use lib.ListN.{length}
use Rattle.std.proofs.lemmas.Slice.{put_mid-paste}
use Rattle.page.proofs.Text.{put-page}
use Rattle.page.proofs.put.Goals as goal

pub returns : goal.returns
returns c =
    let a = c.args in
    let room : length a.bytes.now ≡ a.at + length a.bytes.now - a.at = omega arith in
    (refl, rw (put_mid-paste a.at (a.at + length a.bytes.now - a.at) a.page.now _ a.bytes.now _ c.copy_from_slice.ensures.after room refl) (put-page a.page.now a.at a.bytes.now c.requires))
