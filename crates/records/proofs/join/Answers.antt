use Prim.Native.Nat.{ℕ, ◌+◌, ◌-◌}
use native.Mathlib.Omega.{arith}
use mathlib.Core.Path.{◌≡◌, refl, sym, ap, ◌∙◌}
use mathlib.Core.Bool.{true, false}
use mathlib.Core.List.{List, [], ◌++◌, append-nil, append_assoc}
use borrow.Rule.Slice.PartMut.{same_len_mid}
use lib.ListN.{length, take, drop, length-take, length-drop}
use Rattle.std.proofs.lemmas.Slice.{take-put_mid}
use Rattle.rules_fasta.specs.Fasta.{is_name, joined, records_of}
use Rattle.input.specs.Input.{bytes_left, lines_left}
use Rattle.input.proofs.Batch.{line-size}
use Rattle.records.specs.Records.{EndsWith}
use Rattle.records.proofs.Laws.{ends-behind, join_stops, join_more, record-begins, record_same, no_read, no_records}
use Rattle.records.proofs.join.Goals.{In-Some}
use Rattle.records.proofs.join.Goals as goal

pub loop-line-init : goal.loop-line-init
loop-line-init c = (omega arith, refl, refl, refl, ([], refl))

-- What is left behind the line, and its size.
end : (c : In-Some) → EndsWith (bytes_left c.args.lines.now) (bytes_left c.next.new.self)
end c = ends-behind _ _ c.in-Some.line.now _ c.loop-line.invariant.4 c.in-Some.ensures.steps.1

size : (c : In-Some) → length (bytes_left c.loop-line.lines) ≡ length c.in-Some.line.now + (length (bytes_left c.next.new.self) + 1)
size c = line-size _ c.in-Some.line.now _ c.in-Some.ensures.steps.1

pub returns-then-is_name : goal.returns-then-is_name
returns-then-is_name c =
    let l = c.loop-line in
    let first = c.in-Some.ensures.steps.0 in
    let name : is_name c.in-Some.line.now ≡ true = sym c.is_name.ensures ∙ c.if-is_name.true in
    let over = ap joined first ∙ join_stops c.in-Some.line.now (lines_left c.next.new.self) name in
    record {
      read = sym (append-nil (take l.read l.work)) ∙ ap (λ (t : List ℕ). take l.read l.work ++ t) (sym over) ∙ l.invariant.2;
      rest = l.invariant.3 ∙ ap records_of first ∙ record-begins c.in-Some.line.now (lines_left c.next.new.self) name;
      short = omega (arith, l.invariant.0, size (goal.at.returns-then-is_name c).In-Some);
      stops = name;
      inside = end (goal.at.returns-then-is_name c).In-Some;
    }

pub overflow_add-read : goal.overflow_add-read
overflow_add-read c = record { fits = omega (arith, c.loop-line.invariant.0, size (goal.at.overflow_add-read c).In-Some, c.requires, c.well_formed) }

pub slice_bounds-copy-end : goal.slice_bounds-copy-end
slice_bounds-copy-end c = omega (arith, c.loop-line.invariant.0, c.loop-line.invariant.1, size (goal.at.slice_bounds-copy-end c).In-Some, c.requires)

pub loop-line-preserved : goal.loop-line-preserved
loop-line-preserved c =
    let l = c.loop-line in
    let line = c.in-Some.line.now in
    let first = c.in-Some.ensures.steps.0 in
    let left = lines_left c.next.new.self in
    let n = length line in
    let s = size (goal.at.loop-line-preserved c).In-Some in
    let part = c.copy.new.dst in
    let copied : part ≡ line = c.copy.ensures.whole
    (omega (arith, length-take (l.read + n - l.read) (drop l.read l.work), length-drop l.read l.work, l.invariant.0, l.invariant.1, s, c.requires)) in
    let plain : is_name line ≡ false = sym c.is_name.ensures ∙ c.if-is_name.false in (
      omega (arith, l.invariant.0, s),
      same_len_mid l.read (l.read + n - l.read) l.work part c.copy.auto.dst ∙ l.invariant.1,
      ap (λ (t : List ℕ). t ++ joined left) (take-put_mid l.read (l.read + n - l.read) l.work part (l.read + n) (omega (arith, ap length copied)) (omega (arith, l.invariant.0, l.invariant.1, s, c.requires)))
          ∙ rw copied (append_assoc (take l.read l.work) line (joined left))
          ∙ ap (λ (t : List ℕ). take l.read l.work ++ t) (sym (ap joined first ∙ join_more line left plain))
          ∙ l.invariant.2,
      l.invariant.3 ∙ ap records_of first ∙ record_same line left plain,
      end (goal.at.loop-line-preserved c).In-Some,
    )

pub loop-line-smaller : goal.loop-line-smaller
loop-line-smaller c = omega (arith, ap length c.in-Some.ensures.steps.0)

pub returns : goal.returns
returns c =
    let l = c.loop-line in
    let over = c.in_default.ensures.steps in
    let same : length (bytes_left c.next.new.self) ≡ length (bytes_left l.lines) = ap (λ x. length (bytes_left x)) over.1 in
    record {
      read = sym (append-nil (take l.read l.work)) ∙ ap (λ (t : List ℕ). take l.read l.work ++ t) (sym (ap joined over.0 ∙ no_read)) ∙ l.invariant.2;
      rest = l.invariant.3 ∙ ap records_of over.0 ∙ no_records;
      short = omega (arith, l.invariant.0, same);
      stops = ap lines_left over.1 ∙ over.0;
      inside = rw over.1 l.invariant.4;
    }
