use Prim.Native.Nat.{ℕ, ◌+◌, ◌-◌, ◌*◌, ◌/◌, ◌%◌, ◌<◌, ◌≤◌}
use native.Mathlib.Omega.{arith}
use mathlib.Core.Path.{◌≡◌, ◌∙◌}
use mathlib.Core.Bool.{◌&&◌}
use mathlib.Core.List.{List}
use lib.Dec.{eqb, ltb}
use lib.ListN.{drop}
use Rattle.rules.specs.Set.{little}
use Rattle.few_keys.specs.Find.{key_in}
use Rattle.cache_line.specs.Lines.{first_key}
use Rattle.cache_line.proofs.Lines.{line_word}
use Rattle.number.proofs.Picked.{picked}
use Rattle.cache_line.proofs.Window.{pair-at, pair-none}
use Rattle.cache_line.proofs.in_pair.Goals.{After-pick, After-word_at}
use Rattle.cache_line.proofs.in_pair.Goals as goal

one-le : (c : After-pick) → c.pick.result ≤ 1
one-le c =
    let a = c.args in
    picked (λ r. r ≤ 1) c.pick.result (eqb a.key c.word_at-next.result && ltb (a.at + a.line % 8) _) _ _ c.pick.ensures (omega arith) (omega arith)

pub overflow_add-result : goal.overflow_add-result
overflow_add-result c = omega (arith, one-le c)

-- A word by its number among all lines' words.
word-key : (skip : ℕ) (part : List ℕ) (line t at : ℕ) → at ≡ 512 + 64 * line + 8 * t → first_key line + t < first_key (line + 1)
    → little 8 (drop (at - skip) part) ≡ key_in skip part (first_key line + t)
word-key skip part line t at e h = rw e (line_word skip part line t h)

here : (c : After-word_at) → let a = c.args in
    c.word_at.result ≡ key_in a.part.now.skip a.part.now.bytes.now (first_key a.line + a.at)
here c =
    let a = c.args in
    let low = c.requires.1 in
    c.word_at.ensures ∙ word-key a.part.now.skip a.part.now.bytes.now a.line a.at _ (omega arith) (omega arith)

-- The word behind, if it is a key.
next : (c : After-word_at) → let a = c.args in
    first_key a.line + a.at + 1 < first_key (a.line + 1) → c.word_at-next.result ≡ key_in a.part.now.skip a.part.now.bytes.now (first_key a.line + a.at + 1)
next c h =
    let a = c.args in
    let place : first_key a.line + a.at + 1 ≡ first_key a.line + (a.at + 1) = omega arith in
    rw place (c.word_at-next.ensures ∙ word-key a.part.now.skip a.part.now.bytes.now a.line (a.at + 1) _ (omega arith) (omega arith))

pub returns-then-is_first-is_second : goal.returns-then-is_first-is_second
returns-then-is_first-is_second c =
    let a = c.args in
    let index : 8 * a.line + a.at + c.pick.result - a.line / 8 ≡ first_key a.line + a.at + c.pick.result = omega arith in
    rw (index, c.pick.ensures)
    (pair-at a.part.now.skip a.part.now.bytes.now a.key a.line a.at c.word_at-next.result c.requires.1 (next (goal.at.returns-then-is_first-is_second c).After-word_at)
    (rw (here (goal.at.returns-then-is_first-is_second c).After-word_at) at c.if-is_first-is_second.true))

pub returns : goal.returns
returns c =
    let a = c.args in
    pair-none a.part.now.skip a.part.now.bytes.now a.key a.line a.at c.word_at-next.result c.requires.1 (next (goal.at.returns c).After-word_at)
    (rw (here (goal.at.returns c).After-word_at) at c.if-is_first-is_second.false)
