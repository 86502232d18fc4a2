use mathlib.Core.Path.{◌≡◌, refl, ap, ◌∙◌}
use Prim.Native.Nat.{ℕ, ◌+◌, max}
use native.Mathlib.Nat.{not-suc-le-zero}
use native.Mathlib.Omega.{arith}
use lib.ListN.{get_or}
use lib.Seq.{get_or-set_other}
use Rattle.starts.specs.Ends.{highest}
use Rattle.starts.proofs.Ends.{entries-more, highest-first, highest-next}
use Rattle.starts.proofs.carry_ends.Goals as goal

pub loop-start-init : goal.loop-start-init
loop-start-init c = record { carried = λ u l. absurd (not-suc-le-zero l); others = λ u l. refl; next = highest-first _ }

pub loop-start-preserved : goal.loop-start-preserved
loop-start-preserved c =
    let l = c.loop-start in
    let first = c.args.starts.now in
    let here : c.max-most.result ≡ highest first l.start-index =
    c.max-most.ensures ∙ ap (max l.most) (l.invariant.others l.start-index (omega arith)) ∙ l.invariant.next in
    record {
      carried = entries-more (λ (u x : ℕ). x ≡ highest first u) l.start-items l.start-index _ (omega (arith, c.loop-start-test.true, l.auto.start-items)) l.invariant.carried here;
      others = λ u h. get_or-set_other l.start-items l.start-index u _ 0 (λ e. omega arith) ∙ l.invariant.others u (omega arith);
      next = ap (λ (m : ℕ). max m (get_or first (l.start-index + 1) 0)) here ∙ highest-next first l.start-index;
    }
