use Prim.Native.Nat.{◌+◌, ◌*◌, ◌-◌, ◌%◌, ◌^◌}
use native.Mathlib.Omega.{arith}
use mathlib.Core.Path.{◌≡◌, ap, ◌∙◌}
use lib.ListN.{length}
use Rattle.rules.specs.Set.{header_k, first_letters}
use Rattle.rules.specs.Index.{index_entries}
use Rattle.index.proofs.Laws.{shifted, count-few}
use Rattle.set.proofs.Opened.{opened-k-low, opened-k-high}
use Rattle.prepare.proofs.Indexed.{entry-small, index-length, index-table}
use Rattle.prepare.proofs.by_index.Goals.{After-letters-bits}
use Rattle.prepare.proofs.by_index.Goals as goal

-- As many entries as an index has.
count : (c : After-letters-bits) → let a = c.args in
    1 * 2 ^ (2 * c.letters-bits.result) % 2 ^ 64 + 1 ≡ index_entries a.set.now.k
count c = shifted _ c.letters-bits.result c.letters-bits.ensures

pub copy_entries-requires : goal.copy_entries-requires
copy_entries-requires c =
    let o = c.args.set.now.opens in
    let e = count (goal.at.copy_entries-requires c).After-letters-bits ∙ ap index_entries o.k_is in
    let long = ap length c.requires ∙ index-length _ o.right in
    record {
      entries_in_bounds = (omega (arith, e, count-few (header_k c.args.set.now.bytes.now)), omega (arith, e, long));
      by_index = λ v l. rw c.requires (entry-small _ o.right v (omega (arith, l, e)));
    }

pub header-requires : goal.header-requires
header-requires c =
    omega (arith, c.letters-bits.ensures, c.args.set.now.opens.k_is, opened-k-low _ c.args.set.now.opens.right, opened-k-high _ c.args.set.now.opens.right)

pub returns : goal.returns
returns c =
    let h = c.header.ensures in
    let k_is = h.1 ∙ c.args.set.now.opens.k_is in
    let e = count (goal.at.returns c).After-letters-bits ∙ ap index_entries c.args.set.now.opens.k_is in
    let same = rw (e, c.requires) at c.copy_entries.ensures in
    let shift_is : c.header.result.shift ≡ 2 * (c.args.set.now.k - first_letters c.args.set.now.k) = omega (arith, h.3, c.letters-bits.ensures) in (
      record {
        k_is = k_is;
        n_is = h.2 ∙ c.args.set.now.opens.n_is;
        shifts = h.0;
        table = rw h.4 (index-table _ c.args.set.now.opens.right _ c.header.result.shift (rw c.args.set.now.opens.k_is at shift_is) (omega (arith, count-few (header_k c.args.set.now.bytes.now))) same);
      },
      h.1,
      omega (arith, shift_is, h.4),
    )
