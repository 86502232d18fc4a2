use native.Mathlib.Omega.{arith}
use mathlib.Core.Path.{◌∙◌}
use Rattle.lay.proofs.Laws.{put-bytes}
use Rattle.lay.proofs.put_word.Goals as goal

pub returns : goal.returns
returns c = put-bytes _ _ _ _ _ c.requires c.ranges.x.fits (omega arith) (c.copy_from_slice.ensures.after ∙ c.to_le_bytes.ensures)
