use Rattle.std.proofs.Common.{refl, sym, ◌∙◌, []}
use Rattle.std.proofs.lemmas.Result.{err_from_is_err_and}
use mathlib.Core.Logic.{inl}
use Rattle.rules_laws.proofs.Index.{index_passes}
use Rattle.solid.proofs.Solids.{count_long, count-refused, count_none, count-all}
use Rattle.solid.proofs.count_solid.Goals as goal

pub returns-in_err-check_length : goal.returns-in_err-check_length
returns-in_err-check_length c =
    let p = err_from_is_err_and c.from_residual.result c.from_residual.ensures.1 in
    rw (p.1, p.2) (sym (count_long _ _ _ (sym c.in_err-check_length.ensures)))

pub returns-in_err-opened : goal.returns-in_err-opened
returns-in_err-opened c =
    let p = err_from_is_err_and c.from_residual-in_err-opened.result c.from_residual-in_err-opened.ensures.1 in
    rw (p.1, p.2) (sym (count-refused _ _ (sym c.in_ok-check_length.ensures) _ c.in_err-opened.ensures))

pub returns-then-read-k : goal.returns-then-read-k
returns-then-read-k c =
    let o = c.in_ok-opened in
    sym (count_none _ _ (sym c.in_ok-check_length.ensures) o.ensures.0 _ (rw o.ensures.1 at o.opened.opens.k_is) c.if-read-k.true)

pub prepare-ready-requires : goal.prepare-ready-requires
prepare-ready-requires c = (index_passes _ []).1 (inl refl)

pub count_kmers-solid-requires : goal.count_kmers-solid-requires
count_kmers-solid-requires c = rw c.prepare-ready.ensures.same.1 c.if-read-k.false

pub returns : goal.returns
returns c =
    let o = c.in_ok-opened in
    let same = c.prepare-ready.ensures.same in
    let solid = rw (same.0 ∙ o.ensures.1, same.1) at c.count_kmers-solid.ensures in
    sym (count-all _ _ (sym c.in_ok-check_length.ensures) o.ensures.0 _ (rw o.ensures.1 at o.opened.opens.k_is) _ c.if-read-k.false solid)
