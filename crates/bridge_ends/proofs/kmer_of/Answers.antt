use Rattle.std.proofs.Common.{ap, ◌∙◌, ◌-◌, ◌*◌, ◌/◌, ◌%◌, ◌^◌, rules}
use Rattle.rules.specs.Letters.{Kmer, add}
use Rattle.bridge_ends.proofs.Ends.{none_yet, letter-on, none_left}
use Rattle.bridge_ends.proofs.kmer_of.Goals as goal

pub loop-behind-init : goal.loop-behind-init
loop-behind-init c =
    let e = c.all_a-kmer.ensures in
    (search rules, record { is = e.is ∙ none_yet c.args.head.k c.args.code c.requires; kmer = e.kmer })

pub loop-behind-preserved : goal.loop-behind-preserved
loop-behind-preserved c =
    let l = c.loop-behind in
    let k = c.args.head.k in
    let a = c.args.code / 2 ^ (2 * (l.behind - 1)) % 4 in
    let e = c.add_nuc_to_end-kmer.ensures in
    let v = l.invariant in (
      search rules,
      record { is = e.is ∙ ap (λ (y : Kmer). add k y a) v.1.is ∙ letter-on k c.args.code c.requires l.behind c.loop-behind-test.true v.0; kmer = e.kmer },
    )

pub returns : goal.returns
returns c =
    let l = c.loop-behind in
    record { is = l.invariant.1.is ∙ none_left c.args.head.k c.args.code c.requires l.behind (search rules); kmer = l.invariant.1.kmer }
