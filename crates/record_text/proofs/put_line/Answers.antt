use Prim.Native.Nat.{ℕ, ◌+◌, ◌-◌}
use native.Mathlib.Omega.{arith}
use native.Mathlib.Numerals.{add-one}
use mathlib.Core.Path.{◌≡◌, ap, ◌∙◌}
use mathlib.Core.List.{List, [], ◌∷◌, ◌++◌, append_assoc}
use borrow.Rule.Slice.PartMut.{put_mid, same_len_mid}
use lib.ListN.{length, take, drop, length-take, length-drop}
use lib.Seq.{take-suc-set}
use Rattle.std.proofs.lemmas.Slice.{take-put_mid}
use Rattle.record_text.proofs.put_line.Goals as goal

pub returns : goal.returns
returns c =
    let out = c.args.out.now in
    let line = c.args.line.now in
    let at = c.args.at in
    let end : ℕ = at + length line in
    let p = c.copy in
    let copied : p.new.dst ≡ line = p.ensures.whole (omega (arith, length-take (end - at) (drop at out), length-drop at out)) in
    let o : List ℕ = put_mid at (end - at) out p.new.dst in
    let same = same_len_mid at (end - at) out p.new.dst p.auto.dst in
    rw add-one
    (take-suc-set o end 10 (omega (arith, same))
    ∙ ap (λ (l : List ℕ). l ++ (10 ∷ [])) (take-put_mid at (end - at) out p.new.dst end (omega (arith, ap length copied)) (omega arith))
    ∙ rw copied (append_assoc (take at out) line (10 ∷ [])))
