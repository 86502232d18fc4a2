use Rattle.std.proofs.Common.{rules, arith, ◌≡◌, refl, sym, ap, ◌∙◌, ℕ, ◌-◌, Bool, true, false, List}
use lib.ListN.{get_or, set}
use Rattle.rules.specs.Letters.{push}
use Rattle.rules.specs.Set.{solid, set_of}
use Rattle.rules_bridge.specs.Bridge as rules
use Rattle.bridge_search.specs.declared.Search.{Search}
use Rattle.bridge_search.proofs.Laws as laws
use Rattle.bridge_search.proofs.+from_kmer_from_letter.Goals.{from_kmer-then-nucs-nuc+in-Tried, from_kmer-else-nucs-nuc, from_letter-then-next-to, from_letter-else-next-to}
use Rattle.bridge_search.proofs.+from_kmer_from_letter.Goals as goal

pub from_kmer-returns-then-left-eq0 : goal.from_kmer-returns-then-left-eq0
from_kmer-returns-then-left-eq0 t c =
    let a = c.args in
    laws.tried-is _ _ _ _ _ a.lookups
    (laws.kmer-none a.set.now.head.k (solid (set_of a.set.now.bytes.now)) a.to a.budget a.left a.kmer.code a.lookups c.if-left-eq0.true)
    c.ended.ensures.0
    c.ended.ensures.1
    (search rules)

pub from_kmer-returns-then-budget-lookups-lt4 : goal.from_kmer-returns-then-budget-lookups-lt4
from_kmer-returns-then-budget-lookups-lt4 t c =
    let a = c.args in
    laws.stopped-is _ _ _ _ _ a.lookups
    (laws.kmer-stop a.set.now.head.k (solid (set_of a.set.now.bytes.now)) a.to a.budget a.left a.kmer.code a.lookups (search rules) (omega arith))
    c.ended-then-budget-lookups-lt4.ensures.0
    c.ended-then-budget-lookups-lt4.ensures.1
    (search rules)

pub from_kmer-next_nucs-nucs-requires : goal.from_kmer-next_nucs-nucs-requires
from_kmer-next_nucs-nucs-requires t c =
    let a = c.args in
    (search rules, laws.first-known a.set.now.head.k a.kmer (search rules))

pub from_kmer-loop-nuc-init : goal.from_kmer-loop-nuc-init
from_kmer-loop-nuc-init t c =
    let a = c.args in
    (search rules, search rules, laws.kmer-on a.set.now.head.k (solid (set_of a.set.now.bytes.now)) a.to a.budget a.left a.kmer.code a.lookups (search rules) (search rules))

pub from_kmer-from_letter-r-requires : goal.from_kmer-from_letter-r-requires
from_kmer-from_letter-r-requires t c =
    let a = c.args in
    let sol = solid (set_of a.set.now.bytes.now) in
    let nuc = c.loop-nuc.nuc in
    let yes : sol (push 4 a.set.now.head.k a.kmer.code nuc) ≡ true =
    sym (laws.answer-is a.set.now.head.k sol a.kmer nuc (search rules) (search rules))
    ∙ ap (λ (l : List Bool). get_or l nuc false) (sym c.next_nucs-nucs.ensures.0)
    ∙ c.if-nucs-nuc.true in
    (search rules, (search rules, search rules, search rules, search rules, search rules, search rules, yes))

pub from_kmer-returns-in_default : goal.from_kmer-returns-in_default
from_kmer-returns-in_default t c =
    let at = c.loop-nuc in
    let r = c.from_letter-r in
    laws.back_is _ at.nuc at.spent _ at.invariant.2 (search rules) _ _ _ r.result r.ensures c.in_default.not-Tried

pub from_kmer-loop-nuc-preserved : goal.from_kmer-loop-nuc-preserved
from_kmer-loop-nuc-preserved t c =
    let a = c.args in
    let sol = solid (set_of a.set.now.bytes.now) in
    let at = c.loop-nuc in
    elim c.if-nucs-nuc.branch [
      | from_kmer-then-nucs-nuc+in-Tried w ↦ let r = w.from_letter-r in (
        search rules,
        omega (arith, r.ensures.within, w.spent-is),
        laws.tried-on _ at.nuc at.spent _ at.invariant.2 (search rules) _ _ _ r.result r.ensures c.if-nucs-nuc.spent w.in-Tried.is w.spent-is,
      )
      | from_kmer-else-nucs-nuc w ↦
          let no : sol (push 4 a.set.now.head.k a.kmer.code at.nuc) ≡ false =
          sym (laws.answer-is a.set.now.head.k sol a.kmer at.nuc (search rules) (search rules))
          ∙ ap (λ (l : List Bool). get_or l at.nuc false) (sym c.next_nucs-nucs.ensures.0)
          ∙ w.if-nucs-nuc.false in (
            search rules,
            omega (arith, w.spent-is),
            laws.skip-on _ at.nuc at.spent _ at.invariant.2 c.if-nucs-nuc.spent (search rules)
                (laws.letter-skip a.set.now.head.k sol a.to a.budget _ a.kmer.code at.nuc at.spent no) w.spent-is,
          )
    ]

pub from_kmer-returns : goal.from_kmer-returns
from_kmer-returns t c =
    let at = c.loop-nuc in
    laws.end_is _ at.nuc at.spent _ at.invariant.2 _ _ _ _ (search rules) c.ended-2.ensures.0 c.ended-2.ensures.1 (search rules)

pub from_letter-from_kmer-search-requires : goal.from_letter-from_kmer-search-requires
from_letter-from_kmer-search-requires t c =
    let a = c.args in
    let next = c.add_nuc_to_end-next.ensures in
    (search rules, (next.kmer, (laws.next-is a.set.now.head.k a.kmer _ a.nuc (search rules) (search rules) next.is).1, search rules, search rules))

pub from_letter-returns : goal.from_letter-returns
from_letter-returns t c =
    let a = c.args in
    let k = a.set.now.head.k in
    let sol = solid (set_of a.set.now.bytes.now) in
    let behind = rules.from_kmer k sol a.to a.budget (a.left - 1) in
    let next = c.add_nuc_to_end-next in
    let is = (laws.next-is k a.kmer _ a.nuc (search rules) (search rules) next.ensures.is).0 in
    let r = c.if-next-to.search in
    let put = ap (λ (x : ℕ). set r.letters a.made x) c.bit2nuc.ensures in
    elim c.if-next-to.branch [
      | from_letter-then-next-to w ↦ let e = w.ended-search.ensures in
          laws.found-is _ _ _ _ _ _ a.lookups (laws.letter-hit k sol a.to a.budget behind a.kmer.code a.nuc a.lookups c.requires.6 (sym is ∙ w.if-next-to.true))
          (laws.one-is a.made _ r _ (search rules) (ap (λ (z : Search). z.end) w.search-is ∙ e.0) (ap (λ (z : Search). z.letters) w.search-is ∙ e.2) refl put)
          (search rules)
          (ap (λ (z : Search). z.lookups) w.search-is ∙ e.1)
          (search rules)
      | from_letter-else-next-to w ↦
          laws.behind-is k sol a.to a.budget behind a.kmer.code a.nuc a.lookups a.made a.left (search rules) (search rules)
          next.result.code r _ c.requires.6 is w.if-next-to.false (rw w.search-is w.from_kmer-search.ensures) refl put refl
    ]
