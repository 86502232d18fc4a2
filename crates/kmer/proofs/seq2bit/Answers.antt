use mathlib.Core.Path.{sym, ◌∙◌}
use mathlib.Core.List.{List}
use lib.ListN.{take}
use Prim.Native.Nat.{ℕ}
use native.Mathlib.Omega.{arith}
use Rattle.std.proofs.lemmas.List.{at_drop_more, at_drop_all}
use Rattle.rules.specs.Letters.{add_all, kmer}
use Rattle.kmer.specs.Kmer.{kmer_of}
use Rattle.rules_laws.proofs.Kmer.{code-le}
use Rattle.kmer.proofs.seq2bit.Goals as goal

pub loop-nuc-init : goal.loop-nuc-init
unfolding kmer add_all
loop-nuc-init c = (c.all_a-kmer.ensures.kmer, rw c.all_a-kmer.ensures.is)

pub add_nuc_to_end-kmer-requires : goal.add_nuc_to_end-kmer-requires
add_nuc_to_end-kmer-requires c = (c.loop-nuc.invariant.0, rw c.nuc2bit.ensures (code-le _))

pub loop-nuc-preserved : goal.loop-nuc-preserved
unfolding add_all
loop-nuc-preserved c =
    let i = c.loop-nuc.invariant in
    let e = c.add_nuc_to_end-kmer.ensures in
    let next = at_drop_more (add_all c.args.head.k (kmer_of c.loop-nuc.kmer)) _ _ 0 c.loop-nuc-test.true in
    (e.kmer, rw (e.is, c.nuc2bit.ensures) (sym next ∙ i.1))

pub returns : goal.returns
unfolding add_all kmer
returns c =
    let i = c.loop-nuc.invariant in
    let items : List ℕ = take c.args.head.k c.args.seq.now in
    let done = at_drop_all (add_all c.args.head.k (kmer_of c.loop-nuc.kmer)) items c.loop-nuc.nuc-index (omega (arith, c.loop-nuc-test.false)) in
    record { is = sym done ∙ i.1; kmer = i.0 }
