use Prim.Native.Nat.{ℕ, ◌-◌}
use native.Mathlib.Omega.{arith}
use mathlib.Core.Path.{◌≡◌, sym, ap, ◌∙◌}
use mathlib.Core.Logic.{inr}
use mathlib.Core.List.{List}
use lib.ListN.{length, take}
use borrow.Rule.Slice.PartMut.{put_mid, same_len_mid, take_put}
use Rattle.rules.specs.Job.{entries_of}
use Rattle.rules_fasta.specs.Fasta.{text}
use Rattle.turn.specs.Turn.{offered}
use Rattle.fasta_record.proofs.Laws.{lent_length, record-short, text-is, text-long, record-done}
use Rattle.fasta_record.proofs.correct_record.Goals.{After-text_length-text, After-through_work}
use Rattle.fasta_record.proofs.correct_record.Goals as goal

-- The output behind the passes.
abbrev after : After-through_work → List ℕ
after c =
    let a = c.args in
    put_mid a.at (length a.output.now - a.at) a.output.now c.through_work.new.output

after-length : (c : After-through_work) → length (after c) ≡ length c.args.output.now
after-length c =
    let a = c.args in
    same_len_mid a.at (length a.output.now - a.at) a.output.now c.through_work.new.output c.through_work.auto.output

pub text_length-text-requires : goal.text_length-text-requires
text_length-text-requires c =
    let l = lent_length c.args.output.now c.args.at in
    (omega (arith, c.requires.1), omega (arith, l, record-short _ _ c.args.name.now _ _ _ _ c.in_ok-done.ensures, c.requires.0.output))

-- The length of the text.
long : (c : After-text_length-text) →
    let a = c.args in
    length (text (offered a.set.now) (entries_of a.job.now.bytes.now) (record { name = a.name.now; read = take a.read a.work.now })) ≡ c.text_length-text.result
long c =
    let a = c.args in
    text-long _ _ a.name.now _ _ _ _ c.in_ok-done.ensures ∙ sym c.text_length-text.ensures

pub returns-then-output-at : goal.returns-then-output-at
returns-then-output-at c =
    inr (omega (arith, long (goal.at.returns-then-output-at c).After-text_length-text, c.if-output-at.true, after-length (goal.at.returns-then-output-at c).After-through_work))

pub put_record-requires : goal.put_record-requires
put_record-requires c =
    omega (
      arith,
      ap length (text-is _ _ c.args.name.now _ _ _ _ c.in_ok-done.ensures),
      long (goal.at.put_record-requires c).After-text_length-text,
      c.if-output-at.false,
      after-length (goal.at.put_record-requires c).After-through_work,
      c.requires.2,
    )

pub returns : goal.returns
returns c =
    let a = c.args in
    let front = take_put a.at (length a.output.now - a.at) a.output.now c.through_work.new.output c.requires.2 in
    record-done _ _ a.name.now _ _ _ _ c.in_ok-done.ensures a.at _ a.output.now (after (goal.at.returns c).After-through_work) _ _ (sym (long (goal.at.returns c).After-text_length-text)) (omega (arith, c.if-output-at.false, after-length (goal.at.returns c).After-through_work))
    (lent_length a.output.now a.at) front c.put_record.ensures
