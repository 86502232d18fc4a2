use Prim.Native.Nat.{ℕ, ◌≤◌, ◌<◌}
use native.Mathlib.Omega.{arith}
use mathlib.Core.Path.{◌≡◌, sym, ◌∙◌}
use borrow.Author.Rules.{rules}
use lib.ListN.{length, get_or, length-set}
use Rattle.rules.specs.Set.{set_of}
use Rattle.rules.specs.Scan.{successor, successors}
use Rattle.kmer.specs.Kmer.{kmer_of}
use Rattle.kmer.proofs.Laws.{unknown-is}
use Rattle.set.proofs.Opened.{set-count}
use Rattle.successors.specs.Successors.{place_at}
use Rattle.successors.proofs.Laws.{four-known, place-solid-at, place_at_lem, placed, four-listed}
use Rattle.successors.proofs.next_nucs.Goals as goal

pub place_of-requires : goal.place_of-requires
place_of-requires c =
    let h = c.add_nuc_to_end-next.ensures in
    (h.kmer, unknown-is h ∙ four-known _ _ c.args.set.now.head.shifts.k_low c.requires.1 c.loop-nuc.nuc (search rules))

pub loop-nuc-preserved : goal.loop-nuc-preserved
loop-nuc-preserved c =
    let i = c.loop-nuc.invariant in
    let h = c.add_nuc_to_end-next.ensures in
    let n_is : c.args.set.now.head.n ≡ length (set_of c.args.set.now.bytes.now).keys = c.args.set.now.ready.n_is ∙ sym (set-count c.args.set.now.bytes.now) in
    let here = place_at_lem (set_of c.args.set.now.bytes.now) c.args.set.now.head.k (kmer_of c.args.kmer) c.loop-nuc.nuc h _ _ n_is c.place_of.ensures in (
      search rules,
      length-set c.loop-nuc.places c.loop-nuc.nuc c.place_of.result ∙ i.1,
      placed _ _ _ c.loop-nuc.places c.loop-nuc.nuc c.place_of.result (omega (arith, i.1, c.loop-nuc-test.true)) i.2 here,
    )

pub returns : goal.returns
unfolding successors successor
returns c =
    let set = set_of c.args.set.now.bytes.now in
    let k = c.args.set.now.head.k in
    let y = kmer_of c.args.kmer in
    let n_is : c.args.set.now.head.n ≡ length set.keys = c.args.set.now.ready.n_is ∙ sym (set-count c.args.set.now.bytes.now) in
    let all : 4 ≤ c.loop-nuc.nuc = c.loop-nuc-test.false in
    let at : (a : ℕ) → a < 4 → get_or c.loop-nuc.places a 0 ≡ place_at set k y a = λ a h. c.loop-nuc.invariant.2 a (omega arith) in
    let known = four-known k y c.args.set.now.head.shifts.k_low c.requires.1 in (
      rw (
        place-solid-at set k y 0 _ _ n_is (at 0 (search rules)) (known 0 (search rules)),
        place-solid-at set k y 1 _ _ n_is (at 1 (search rules)) (known 1 (search rules)),
        place-solid-at set k y 2 _ _ n_is (at 2 (search rules)) (known 2 (search rules)),
        place-solid-at set k y 3 _ _ n_is (at 3 (search rules)) (known 3 (search rules)),
      ),
      four-listed 0 c.loop-nuc.places c.loop-nuc.invariant.1 ∙ rw (at 0 (search rules), at 1 (search rules), at 2 (search rules), at 3 (search rules)),
    )
