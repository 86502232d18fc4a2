use mathlib.Core.Path.{◌≡◌, ◌∙◌}
use Prim.Native.Nat.{◌*◌, ◌%◌, ◌^◌, ◌<◌}
use native.Mathlib.Omega.{arith}
use Rattle.set.specs.Ready.{table_length, prefixes}
use Rattle.set.proofs.Opened.{opened-k-low, opened-k-high}
use Rattle.prepare.proofs.Prefixes.{prefixes-are, below_all}
use Rattle.prepare.proofs.by_keys.Goals.{After-header-head}
use Rattle.prepare.proofs.by_keys.Goals as goal

pub header-head-requires : goal.header-head-requires
header-head-requires c =
    let o = c.args.set.now.opens in
    (omega (arith, o.k_is, opened-k-low _ o.right), omega (arith, o.k_is, opened-k-high _ o.right), c.requires.1, c.requires.2)

-- The table's entries, but for the last.
entries : (c : After-header-head) → let r = c.header-head.result in
    (1 * 2 ^ c.args.bits % 2 ^ 64 ≡ prefixes r.k r.shift) × (prefixes r.k r.shift < table_length)
entries c =
    prefixes-are _ c.args.bits c.header-head.result c.header-head.ensures.1 c.header-head.ensures.3 c.requires.0 c.requires.1

pub fill-requires : goal.fill-requires
fill-requires c =
    let o = c.args.set.now.opens in
    let all = below_all _ c.header-head.result o.right (c.header-head.ensures.1 ∙ o.k_is) (omega (arith, c.header-head.ensures.1, c.header-head.ensures.3)) in (
      omega (arith, c.header-head.ensures.3, o.k_is, opened-k-high _ o.right),
      omega (arith, entries (goal.at.fill-requires c).After-header-head),
      rw ((entries (goal.at.fill-requires c).After-header-head).0, o.n_is) all,
    )

pub returns : goal.returns
returns c =
    let o = c.args.set.now.opens in
    let k_is = c.header-head.ensures.1 ∙ o.k_is in (
      record {
        k_is = k_is;
        n_is = c.header-head.ensures.2 ∙ o.n_is;
        shifts = c.header-head.ensures.0;
        table = record {
          opens = o.right;
          shift_le = rw (← k_is) (omega (arith, c.header-head.ensures, c.requires.1, c.requires.2));
          starts_length = rw (← k_is) (omega (arith, entries (goal.at.returns c).After-header-head));
          starts_right = rw (← k_is) (rw (entries (goal.at.returns c).After-header-head).0 at c.fill.ensures);
        };
      },
      c.header-head.ensures.1,
      omega (arith, c.header-head.ensures, c.requires.1, c.requires.2),
    )
