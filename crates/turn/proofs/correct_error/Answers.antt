use native.Mathlib.Omega.{arith}
use Rattle.kmer.specs.Kmer.{kmer_of}
use Rattle.turn.proofs.Methods.{by_one, by_two, by-graph, by-gap-size}
use Rattle.turn.proofs.correct_error.Goals as goal

pub returns-in-1 : goal.returns-in-1
returns-in-1 c =
    let a = c.args in
    rw (by_one a.set.now a.entry a.s.now (kmer_of a.kmer) c.in-1.is) c.correct_error.ensures

pub returns-in-2 : goal.returns-in-2
returns-in-2 c =
    let a = c.args in
    rw (by_two a.set.now a.entry a.s.now (kmer_of a.kmer) c.in-2.is) c.correct_error-in-2.ensures

pub returns-in-3 : goal.returns-in-3
returns-in-3 c =
    let a = c.args in
    rw (by-graph a.set.now a.entry a.s.now (kmer_of a.kmer) c.in-3.is) c.correct_error-in-3.ensures

pub returns-in_default : goal.returns-in_default
returns-in_default c =
    let a = c.args in
    rw (by-gap-size a.set.now a.entry a.s.now (kmer_of a.kmer) (λ e. omega arith) (λ e. omega arith) (λ e. omega arith))
    c.correct_error-in_default.ensures
