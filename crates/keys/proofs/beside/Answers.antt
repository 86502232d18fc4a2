use Prim.Native.Nat.{◌≤◌}
use native.Mathlib.Nat.{add-zero}
use Rattle.few_keys.specs.Part.{BracketIn}
use Rattle.few_keys.proofs.Bracket.{answers-all}
use Rattle.cache_line.proofs.Window.{outside}
use Rattle.keys.proofs.beside.Goals.{After-pick-high}
use Rattle.keys.proofs.beside.Goals as goal

-- Where the key can stand, before the lines or behind them.
rest : (c : After-pick-high) → let a = c.args in
    (c.pick-low.result ≤ a.part.now.last) × BracketIn a.part.now a.key c.pick-low.result c.pick-high.result
rest c =
    let a = c.args in
    outside a.part.now.sorted a.key a.line a.from a.end c.pick-low.result c.pick-high.result c.requires.2.0 c.requires.2.1 c.requires.3 c.requires.1 c.requires.0
    (rw (c.line_key.ensures, add-zero, c.first_key.ensures) at c.pick-low.ensures)
    (rw (c.line_key.ensures, add-zero, c.first_key-2.ensures) at c.pick-high.ensures)

pub returns-then-high-low : goal.returns-then-high-low
returns-then-high-low c = answers-all (rest (goal.at.returns-then-high-low c).After-pick-high).1 c.in_eight.result c.in_eight.ensures
