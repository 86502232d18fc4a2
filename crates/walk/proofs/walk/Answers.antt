use Prim.Native.Nat.{ℕ, ◌+◌, ◌*◌, ◌≤◌, ◌<◌, min}
use native.Mathlib.Omega.{arith}
use mathlib.Core.Path.{◌≡◌, refl, sym, ap, ◌∙◌}
use mathlib.Core.Bool.{Bool}
use mathlib.Core.Option.{some}
use lib.ListN.{length}
use Rattle.rules.specs.Letters as rules
use Rattle.rules.specs.Set.{max_keys, solid, set_of, count_of}
use Rattle.rules.specs.Scan.{sole}
use Rattle.kmer.specs.declared.Kmer.{Kmer}
use Rattle.kmer.specs.Kmer.{kmer_of, IsKmer}
use Rattle.set.specs.Counted.{set_with}
use Rattle.set.proofs.Opened.{opened-n-le}
use Rattle.scan.specs.Scan.{scan_of}
use Rattle.successors.proofs.Laws.{no-next, next-kmer, nuc-lt, sole-known, known-asked}
use Rattle.walk.proofs.Laws.{move-count, Arrived, going_start, walk-dead, walk-arrives, walk_meets, walk-marks, walk-goes, walk-stays, walk-over, walk_refused, walk-mends}
use Rattle.walk.proofs.walk.Goals.{After-add_nuc_to_end-next, After-min-weakest, After-write_last-in-loop-moves, At-loop-moves, In-Some, Start, Then-same-2, then-moves-marks_at, else-moves-marks_at}
use Rattle.walk.proofs.walk.Goals as goal

abbrev sol : At-loop-moves → ℕ → Bool
sol c = solid (set_of c.args.set.now.bytes.now)

abbrev count : At-loop-moves → rules.Kmer → ℕ
count c = count_of (set_with c.args.set.now.bytes.now c.args.set.now.counts.now)

room : (c : At-loop-moves) → length c.loop-moves.out ≡ length c.args.out.now
room c = c.loop-moves.invariant.4 ∙ c.write_last.auto.out

low : (c : At-loop-moves) → 1 ≤ c.args.set.now.head.k
low c = c.args.set.now.head.shifts.k_low

-- the move: to the sole solid successor
abbrev next : After-add_nuc_to_end-next → Kmer
next c = c.add_nuc_to_end-next.result

told : (c : After-add_nuc_to_end-next)
    → ((sole c.args.set.now.head.k (sol (goal.at.After-add_nuc_to_end-next c).At-loop-moves) (kmer_of c.loop-moves.at)).answer ≡ some (kmer_of (next c))) × IsKmer c.args.set.now.head.k (next c)
told c =
    next-kmer _ _ _ c.sole_nuc.result c.next_nucs-nucs.ensures.0 c.sole_nuc.ensures _ c.in-Some.is c.add_nuc_to_end-next.ensures

small : (c : In-Some) → c.in-Some.nuc < 4
small c =
    nuc-lt _ _ _ c.sole_nuc.result c.next_nucs-nucs.ensures.0 c.sole_nuc.ensures _ c.in-Some.is

-- its count weighed
weighed : (c : After-min-weakest)
    → c.min-weakest.result ≡ min c.loop-moves.weakest (count (goal.at.After-min-weakest c).At-loop-moves (kmer_of (next (goal.at.After-min-weakest c).After-add_nuc_to_end-next)))
weighed c =
    c.min-weakest.ensures
    ∙ ap (min _)
    (move-count _ _ _ _ c.sole_nuc.result c.next_nucs-nucs.ensures.0 c.sole_nuc.ensures _ (next (goal.at.After-min-weakest c).After-add_nuc_to_end-next) c.in-Some.is
    c.add_nuc_to_end-next.ensures c.next_nucs-nucs.ensures.1 c.count_at.ensures)

room_after : (c : After-write_last-in-loop-moves) → length c.write_last-in-loop-moves.new.out ≡ length c.args.out.now
room_after c = c.write_last-in-loop-moves.auto.out ∙ room (goal.at.After-write_last-in-loop-moves c).At-loop-moves

came : (c : Then-same-2)
    → Arrived c.args.set.now.head.k c.args.set.now.head.n (sol (goal.at.Then-same-2 c).At-loop-moves) (count (goal.at.Then-same-2 c).At-loop-moves) (kmer_of c.args.scan.end) (kmer_of c.args.x) (kmer_of (next (goal.at.Then-same-2 c).After-add_nuc_to_end-next)) (4 * c.loop-moves.moves + 4) (c.loop-moves.moves + 2)
    c.min-weakest.result c.write_last-in-loop-moves.new.out
came c =
    rw (c.write_last-in-loop-moves.ensures, weighed (goal.at.Then-same-2 c).After-min-weakest)
    (walk-arrives (low (goal.at.Then-same-2 c).At-loop-moves) c.loop-moves.invariant.6 c.loop-moves.invariant.7 c.loop-moves-test.true _ (told (goal.at.Then-same-2 c).After-add_nuc_to_end-next).0
    (sym c.same-in-loop-moves.ensures ∙ c.if-same-2.true))

-- n is bounded
keys : (c : Start) → c.args.set.now.head.n ≤ max_keys
keys c = rw c.args.set.now.ready.n_is (opened-n-le _ c.args.set.now.ready.table.opens)

pub returns-then-same : goal.returns-then-same
returns-then-same c =
    λ y h. record {
      is = walk_refused _ _ _ (scan_of c.args.scan) _ _ 0 _ (walk-stays _ _ _ _ _ (sym c.same.ensures ∙ c.if-same.true)) (omega arith);
      room = refl;
    }

pub overflow_mul-fuel : goal.overflow_mul-fuel
overflow_mul-fuel c = omega (arith, keys (goal.at.overflow_mul-fuel c).Start)

pub loop-moves-init : goal.loop-moves-init
unfolding kmer_of
loop-moves-init c = (
  omega arith,
  omega (arith, keys (goal.at.loop-moves-init c).Start),
  omega arith,
  omega arith,
  refl,
  c.requires.0,
  c.requires.1,
  rw (c.write_last.ensures, c.requires.4)
      (going_start _ _ _ _ (kmer_of c.args.scan.end) (kmer_of c.args.x) c.args.out.now
      (sym c.same.ensures ∙ c.if-same.false)),
)

pub next_nucs-nucs-requires : goal.next_nucs-nucs-requires
next_nucs-nucs-requires c =
    (c.loop-moves.invariant.5, known-asked _ _ (low (goal.at.next_nucs-nucs-requires c).At-loop-moves) c.loop-moves.invariant.6)

pub returns-in_default : goal.returns-in_default
returns-in_default c =
    λ y h. record {
      is = walk_refused _ _ _ (scan_of c.args.scan) _ _ _ _
          (walk-dead (low (goal.at.returns-in_default c).At-loop-moves) c.loop-moves.invariant.6 c.loop-moves.invariant.7 c.loop-moves-test.true
          (no-next _ _ _ c.sole_nuc.result c.next_nucs-nucs.ensures.0 c.sole_nuc.ensures c.in_default.is))
          (omega (arith, c.loop-moves.invariant.3));
      room = room (goal.at.returns-in_default c).At-loop-moves;
    }

pub add_nuc_to_end-next-requires : goal.add_nuc_to_end-next-requires
add_nuc_to_end-next-requires c =
    (c.loop-moves.invariant.5, omega (arith, small (goal.at.add_nuc_to_end-next-requires c).In-Some))

pub offset_bounds-places-nuc : goal.offset_bounds-places-nuc
offset_bounds-places-nuc c = omega (arith, small (goal.at.offset_bounds-places-nuc c).In-Some)

pub bounds-places-nuc : goal.bounds-places-nuc
bounds-places-nuc c = omega (arith, small (goal.at.bounds-places-nuc c).In-Some)

pub returns-then-same-2 : goal.returns-then-same-2
returns-then-same-2 c =
    λ y h. record {
      is = walk-mends _ _ _ (scan_of c.args.scan) _ _ (came c) (told (goal.at.returns-then-same-2 c).After-add_nuc_to_end-next).1 _ (omega (arith, c.loop-moves.invariant.3)) y h;
      room = room_after (goal.at.returns-then-same-2 c).After-write_last-in-loop-moves;
    }

pub returns-then-same-3 : goal.returns-then-same-3
returns-then-same-3 c =
    λ y h. record {
      is = walk_refused _ _ _ (scan_of c.args.scan) _ _ _ _
          (walk_meets (low (goal.at.returns-then-same-3 c).At-loop-moves) c.loop-moves.invariant.6 c.loop-moves.invariant.7 c.loop-moves-test.true _ (told (goal.at.returns-then-same-3 c).After-add_nuc_to_end-next).0
          (sym c.same-in-loop-moves.ensures ∙ c.if-same-2.false)
          (sym c.same-in-loop-moves-2.ensures ∙ c.if-same-3.true))
          (omega (arith, c.loop-moves.invariant.3));
      room = room_after (goal.at.returns-then-same-3 c).After-write_last-in-loop-moves;
    }

pub loop-moves-preserved : goal.loop-moves-preserved
loop-moves-preserved c =
    let i = c.loop-moves.invariant in
    let lt = c.loop-moves-test.true in
    let same = c.write_last-in-loop-moves.auto.out ∙ i.4 in
    let known = sole-known _ _ _ _ (told (goal.at.loop-moves-preserved c).After-add_nuc_to_end-next).0 in
    let ne = sym c.same-in-loop-moves.ensures ∙ c.if-same-2.false in
    let new = sym c.same-in-loop-moves-2.ensures ∙ c.if-same-3.false in
    elim c.if-moves-marks_at.branch [
      | then-moves-marks_at v ↦ (
        omega arith,
        i.1,
        omega (arith, v.if-moves-marks_at.true, v.marks_at-is, i.2),
        omega (arith, i.3),
        same,
        (told (goal.at.loop-moves-preserved c).After-add_nuc_to_end-next).1,
        known,
        rw (v.mark-is, v.marks_at-is, c.write_last-in-loop-moves.ensures, weighed (goal.at.loop-moves-preserved c).After-min-weakest) (walk-marks (low (goal.at.loop-moves-preserved c).At-loop-moves) i.6 i.7 lt _ (told (goal.at.loop-moves-preserved c).After-add_nuc_to_end-next).0 ne new v.if-moves-marks_at.true),
      )
      | else-moves-marks_at v ↦ (
        omega arith,
        i.1,
        omega (arith, v.marks_at-is, i.2),
        omega (arith, i.3),
        same,
        (told (goal.at.loop-moves-preserved c).After-add_nuc_to_end-next).1,
        known,
        rw (v.mark-is, v.marks_at-is, c.write_last-in-loop-moves.ensures, weighed (goal.at.loop-moves-preserved c).After-min-weakest) (walk-goes (low (goal.at.loop-moves-preserved c).At-loop-moves) i.6 i.7 lt _ (told (goal.at.loop-moves-preserved c).After-add_nuc_to_end-next).0 ne new v.if-moves-marks_at.false),
      )
    ]

pub returns : goal.returns
returns c =
    λ y h. record {
      is = walk_refused _ _ _ (scan_of c.args.scan) _ _ _ _ (walk-over c.loop-moves.invariant.7 c.loop-moves-test.false) (omega (arith, c.loop-moves.invariant.3));
      room = room (goal.at.returns c).At-loop-moves;
    }
