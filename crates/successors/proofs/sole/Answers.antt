use Prim.Native.Nat.{◌<◌}
use native.Mathlib.Omega.{arith}
use mathlib.Core.Path.{sym, ◌∙◌}
use borrow.Author.Rules.{rules}
use Rattle.rules.specs.Set.{solid, set_of}
use Rattle.successors.proofs.Laws.{four-asked, sole_none, sole-refused, no-next, nuc-lt, alt-kmer}
use Rattle.successors.proofs.sole.Goals.{In-Some}
use Rattle.successors.proofs.sole.Goals as goal

small : (c : In-Some) → c.in-Some.nuc < 4
small c = nuc-lt _ _ _ c.sole_nuc.result c.next_nucs.ensures.0 c.sole_nuc.ensures _ c.in-Some.is

pub returns-then-lookups-eq0 : goal.returns-then-lookups-eq0
returns-then-lookups-eq0 c =
    let cost = c.next_cost-lookups.ensures (solid (set_of c.args.set.now.bytes.now)) in
    sole-refused _ _ _ (sole_none _ _ c.args.set.now.head.shifts.k_low _ (sym cost ∙ c.if-lookups-eq0.true)) (sym c.if-lookups-eq0.true ∙ cost)

pub next_nucs-requires : goal.next_nucs-requires
next_nucs-requires c =
    let sol = solid (set_of c.args.set.now.bytes.now) in
    (c.requires, four-asked _ _ c.args.set.now.head.shifts.k_low sol (λ z. c.if-lookups-eq0.false (c.next_cost-lookups.ensures sol ∙ z)))

pub returns-in_default : goal.returns-in_default
returns-in_default c =
    sole-refused _ _ _ (no-next _ _ _ c.sole_nuc.result c.next_nucs.ensures.0 c.sole_nuc.ensures c.in_default.is) (c.next_cost-lookups.ensures _)

pub offset_bounds-places-nuc : goal.offset_bounds-places-nuc
offset_bounds-places-nuc c = omega (arith, small (goal.at.offset_bounds-places-nuc c).In-Some)

pub bounds-places-nuc : goal.bounds-places-nuc
bounds-places-nuc c = omega (arith, small (goal.at.bounds-places-nuc c).In-Some)

pub add_nuc_to_end-requires : goal.add_nuc_to_end-requires
add_nuc_to_end-requires c = (search rules, omega (arith, small (goal.at.add_nuc_to_end-requires c).In-Some))

pub returns : goal.returns
returns c =
    alt-kmer _ _ _ c.sole_nuc.result c.next_nucs.ensures.0 c.sole_nuc.ensures _ c.args.set.now.head.shifts.k_low c.in-Some.is
    c.add_nuc_to_end.ensures c.next_nucs.ensures.1
