use Prim.Native.Nat.{◌≤◌}
use native.Mathlib.Omega.{arith}
use mathlib.Core.Path.{refl, ap, ◌∙◌}
use lib.ListN.{length}
use borrow.Author.Rules.{rules}
use Rattle.rules.specs.Letters.{add}
use Rattle.kmer.specs.Kmer.{kmer_of}
use Rattle.scan.proofs.Laws.{add-next, add-end}
use Rattle.scenario.specs.Scenario.{spelled_out}
use Rattle.exist.proofs.Letters.{spelled-length, letter-code, placed}
use Rattle.exist.proofs.in_place.Goals as goal

pub loop-i-init : goal.loop-i-init
loop-i-init c = (search rules, search rules, refl)

pub loop-i-preserved : goal.loop-i-preserved
loop-i-preserved c =
    let m = c.args.mend in
    let n = c.add_nuc_to_end-placed.ensures in
    let e = spelled-length m in (
      search rules,
      n.kmer,
      c.loop-i.invariant.2
          ∙ add-next _ (kmer_of c.loop-i.placed) _ c.loop-i.i (omega arith) (n.is ∙ ap (add _ _) (letter-code c.letter_at.ensures)),
    )

pub returns : goal.returns
returns c =
    let m = c.args.mend in
    let e = spelled-length m in
    let f : length (spelled_out m).letters ≤ c.loop-i.i = omega arith in
    record {
      is = placed _ _ _ c.drop_last-placed.ensures.is (c.loop-i.invariant.2 ∙ add-end _ _ _ c.loop-i.i f);
      kmer = c.loop-i.invariant.1;
    }
