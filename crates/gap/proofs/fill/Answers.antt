use Prim.Native.Nat.{◌*◌, ◌≤◌, ◌<◌, min}
use native.Mathlib.Omega.{arith}
use mathlib.Core.Path.{◌≡◌, refl, sym, ap, ◌∙◌}
use mathlib.Core.Option.{some}
use lib.ListN.{length}
use Rattle.rules.specs.Set.{max_keys, solid, set_of, count_of}
use Rattle.rules.specs.Scan.{sole}
use Rattle.rules_laws.proofs.Scan.{ask-known}
use Rattle.kmer.specs.declared.Kmer.{Kmer}
use Rattle.kmer.specs.Kmer.{kmer_of, IsKmer}
use Rattle.set.specs.Counted.{set_with}
use Rattle.successors.proofs.Laws.{no-next, next-kmer, nuc-lt, sole-known, known-asked}
use Rattle.walk.proofs.Laws.{move-count}
use Rattle.passed.proofs.Bits.{move-begins}
use Rattle.gap.proofs.Laws.{passed_none, filling-start, gap-dead, gap-repeats, passed-more, gap-goes, gap-bound, gap-room, gap-refused, gap-mends}
use Rattle.gap.proofs.fill.Goals.{After-add_nuc_to_end-next, After-min-weakest, After-meet-met, At-loop-i, In-Some}
use Rattle.gap.proofs.fill.Goals as goal

room : (c : At-loop-i) → length c.loop-i.out ≡ length c.args.out.now
room c = c.loop-i.invariant.4 ∙ c.write_last.auto.out

words : (c : At-loop-i) → length c.loop-i.filter ≡ length c.args.filter.now
words c = c.loop-i.invariant.3 ∙ c.begin-before.ensures.same

few_lookups : (c : At-loop-i) → 4 * c.loop-i.i ≤ 8 * max_keys
unfolding kmer_of
few_lookups c = (let f = c.requires.0 in gap-room c.loop-i.invariant.7 (gap-bound c.args.set.now.ready _ _ f.kmer.small f.lit))

low : (c : At-loop-i) → 1 ≤ c.args.set.now.head.k
low c = c.args.set.now.head.shifts.k_low

-- the move: to the sole solid successor
abbrev next : After-add_nuc_to_end-next → Kmer
next c = c.add_nuc_to_end-next.result

told : (c : After-add_nuc_to_end-next)
    → ((sole c.args.set.now.head.k (solid (set_of c.args.set.now.bytes.now)) (kmer_of c.loop-i.at)).answer ≡ some (kmer_of (next c))) × IsKmer c.args.set.now.head.k (next c)
told c =
    next-kmer _ _ _ c.sole_nuc.result c.next_nucs-nucs.ensures.0 c.sole_nuc.ensures _ c.in-Some.is c.add_nuc_to_end-next.ensures

small : (c : In-Some) → c.in-Some.nuc < 4
small c =
    nuc-lt _ _ _ c.sole_nuc.result c.next_nucs-nucs.ensures.0 c.sole_nuc.ensures _ c.in-Some.is

-- its count weighed
weighed : (c : After-min-weakest)
    → c.min-weakest.result ≡ min c.loop-i.weakest (count_of (set_with c.args.set.now.bytes.now c.args.set.now.counts.now) (kmer_of (next (goal.at.After-min-weakest c).After-add_nuc_to_end-next)))
weighed c =
    c.min-weakest.ensures
    ∙ ap (min _)
    (move-count _ _ _ _ c.sole_nuc.result c.next_nucs-nucs.ensures.0 c.sole_nuc.ensures _ (next (goal.at.After-min-weakest c).After-add_nuc_to_end-next) c.in-Some.is
    c.add_nuc_to_end-next.ensures c.next_nucs-nucs.ensures.1 c.count_at.ensures)

pub overflow_sub-moves : goal.overflow_sub-moves
overflow_sub-moves c = let f = c.requires.0 in omega (arith, f.above, c.args.set.now.head.shifts.k_low)

pub loop-i-init : goal.loop-i-init
loop-i-init c =
    let w = c.write_last in (
      omega arith,
      rw w.auto.out c.requires.0.room,
      omega arith,
      refl,
      refl,
      c.requires.0.kmer,
      ask-known _ _ c.requires.0.lit,
      rw (w.ensures, c.requires.0.weighs) (filling-start _ _ _ _ _ c.args.out.now (omega (arith, c.requires.0.room))),
      rw passed_none c.begin-before.ensures.covers,
    )

pub overflow_add-lookups-in-loop-i : goal.overflow_add-lookups-in-loop-i
overflow_add-lookups-in-loop-i c = omega (arith, few_lookups (goal.at.overflow_add-lookups-in-loop-i c).At-loop-i, c.loop-i.invariant.2, c.requires.0)

pub next_nucs-nucs-requires : goal.next_nucs-nucs-requires
next_nucs-nucs-requires c = (c.loop-i.invariant.5, known-asked _ _ (low (goal.at.next_nucs-nucs-requires c).At-loop-i) c.loop-i.invariant.6)

pub returns-in_default : goal.returns-in_default
returns-in_default c =
    λ y h. record {
      is = gap-refused _ _ _ _ _ _ _
          (gap-dead (low (goal.at.returns-in_default c).At-loop-i) c.loop-i.invariant.6 c.loop-i.invariant.7 c.loop-i-test.true
          (no-next _ _ _ c.sole_nuc.result c.next_nucs-nucs.ensures.0 c.sole_nuc.ensures c.in_default.is))
          (omega (arith, c.loop-i.invariant.2));
      room = room (goal.at.returns-in_default c).At-loop-i;
    }

pub add_nuc_to_end-next-requires : goal.add_nuc_to_end-next-requires
add_nuc_to_end-next-requires c =
    (c.loop-i.invariant.5, omega (arith, small (goal.at.add_nuc_to_end-next-requires c).In-Some))

pub meet-met-requires : goal.meet-met-requires
meet-met-requires c =
    let f = c.requires.0 in
    let lt = c.loop-i-test.true in
    record {
      walk = (f.kmer, omega (arith, c.loop-i.invariant.1, lt), rw (words (goal.at.meet-met-requires c).At-loop-i) c.requires.1);
      covers = rw (move-begins _ _ _ _ c.args.set.now.head.shifts.k_low (told (goal.at.meet-met-requires c).After-add_nuc_to_end-next).0) c.loop-i.invariant.8;
    }

pub returns-then-met : goal.returns-then-met
returns-then-met c =
    λ y h. record {
      is = gap-refused _ _ _ _ _ _ _
          (gap-repeats (low (goal.at.returns-then-met c).At-loop-i) c.loop-i.invariant.6 c.loop-i.invariant.7 c.loop-i-test.true _ (told (goal.at.returns-then-met c).After-add_nuc_to_end-next).0
          (sym c.meet-met.ensures.is ∙ c.if-met.true))
          (omega (arith, c.loop-i.invariant.2));
      room = room (goal.at.returns-then-met c).At-loop-i;
    }

pub offset_bounds-places-nuc : goal.offset_bounds-places-nuc
offset_bounds-places-nuc c = omega (arith, small (goal.at.offset_bounds-places-nuc c).In-Some)

pub bounds-places-nuc : goal.bounds-places-nuc
bounds-places-nuc c = omega (arith, small (goal.at.bounds-places-nuc c).In-Some)

pub overflow_add-i : goal.overflow_add-i
overflow_add-i c = omega (arith, few_lookups (goal.at.overflow_add-i c).At-loop-i)

pub loop-i-preserved : goal.loop-i-preserved
loop-i-preserved c =
    let w = c.write_last-in-loop-i in
    let q = c.meet-met.ensures in
    let i = c.loop-i.invariant in
    let lt = c.loop-i-test.true in
    let new = sym q.is ∙ c.if-met.false in (
      omega arith,
      rw w.auto.out i.1,
      omega (arith, i.2),
      q.same ∙ i.3,
      w.auto.out ∙ i.4,
      (told (goal.at.loop-i-preserved c).After-add_nuc_to_end-next).1,
      sole-known _ _ _ _ (told (goal.at.loop-i-preserved c).After-add_nuc_to_end-next).0,
      rw (w.ensures, weighed (goal.at.loop-i-preserved c).After-min-weakest) (gap-goes (low (goal.at.loop-i-preserved c).At-loop-i) i.6 i.7 lt _ (told (goal.at.loop-i-preserved c).After-add_nuc_to_end-next).0 (omega (arith, i.1)) new),
      rw (w.ensures, passed-more (low (goal.at.loop-i-preserved c).At-loop-i) i.6 i.7 lt _ (told (goal.at.loop-i-preserved c).After-add_nuc_to_end-next).0 (omega (arith, i.1))) q.covers,
    )

pub overflow_add-letters : goal.overflow_add-letters
overflow_add-letters c = omega (arith, c.loop-i.invariant.1, room (goal.at.overflow_add-letters c).At-loop-i, c.well_formed.1.1.1.1.1.0)

pub returns : goal.returns
returns c =
    λ y h. record {
      is = gap-mends _ _ _ _ _ c.loop-i.invariant.7 c.loop-i.invariant.5 c.loop-i-test.false c.loop-i.invariant.0 _ (omega (arith, c.loop-i.invariant.2)) y h;
      room = room (goal.at.returns c).At-loop-i;
    }
