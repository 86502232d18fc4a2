use Rattle.std.proofs.Common.{sym, ap, ◌∙◌, length}
use Rattle.std.proofs.lemmas.List.Sums.{length-filter}
use Rattle.memchr.specs.Find.{is_byte}
use Rattle.memchr.proofs.lemmas.CallerLemmas.{length-places}
use Rattle.input.proofs.Batch.{is_end, lines-counted}
use Rattle.input.proofs.count_lines.Goals as goal

pub returns : goal.returns
returns c =
    let batch = c.args.batch.now in
    c.count.ensures ∙ ap length c.memchr_iter.ensures.value
    ∙ length-places (is_byte 10) batch ∙ sym (length-filter is_end batch) ∙ lines-counted batch
