use Prim.Native.Nat.{◌≤◌}
use native.Mathlib.Omega.{arith}
use mathlib.Core.Path.{refl, sym, ◌∙◌}
use borrow.Author.Rules.{rules}
use Rattle.rules.specs.Scan.{error_len}
use Rattle.rules_laws.proofs.Scan.{ask-cost}
use Rattle.kmer.specs.Kmer.{kmer_of}
use Rattle.scan.proofs.Laws.{scan-found, scan-on, scan-end}
use Rattle.scan.proofs.error_len.Goals.{After-ask-asked}
use Rattle.scan.proofs.error_len.Goals as goal

pub loop-j-init : goal.loop-j-init
unfolding error_len
loop-j-init c = (search rules, search rules, search rules, refl)

-- a k-mer asked costs at most 1
one : (c : After-ask-asked) → c.ask-asked.result.lookups ≤ 1
one c = rw c.ask-asked.ensures.lookups (ask-cost _ _)

pub overflow_add-lookups : goal.overflow_add-lookups
overflow_add-lookups c = (let l = c.loop-j in omega (arith, one (goal.at.overflow_add-lookups c).After-ask-asked, l.invariant.1))

pub returns-then-asked : goal.returns-then-asked
returns-then-asked c =
    let l = c.loop-j in
    sym
    (l.invariant.3
    ∙ scan-found _ _ l.lookups l.j (kmer_of l.last) _ c.loop-j-test.true c.add_base-last.ensures.is c.ask-asked.ensures
    c.if-asked.true)

pub loop-j-preserved : goal.loop-j-preserved
loop-j-preserved c =
    let l = c.loop-j in (
      search rules,
      omega (arith, one (goal.at.loop-j-preserved c).After-ask-asked, l.invariant.1),
      c.add_base-last.ensures.kmer,
      l.invariant.3
          ∙ scan-on _ _ l.lookups l.j (kmer_of l.last) _ c.loop-j-test.true c.add_base-last.ensures.is
          c.ask-asked.ensures
          c.if-asked.false,
    )

pub returns : goal.returns
returns c =
    let l = c.loop-j in
    sym (l.invariant.3 ∙ scan-end _ _ l.lookups l.j (kmer_of l.last) _ (omega (arith, l.invariant.0, c.loop-j-test.false)))
