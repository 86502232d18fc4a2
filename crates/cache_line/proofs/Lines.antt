-- Laws of lines: their words are keys.
use Prim.Native.Nat.{ℕ, ◌+◌, ◌*◌, ◌-◌, ◌<◌}
use native.Mathlib.Omega.{arith}
use mathlib.Core.Path.{◌≡◌, ap}
use mathlib.Core.List.{List}
use lib.ListN.{drop}
use Rattle.rules.specs.Set.{little}
use Rattle.few_keys.specs.Find.{place, key_in}
use Rattle.cache_line.specs.Lines.{first_key}

-- Word t of a line, if it is no check word, is key t of it.
pub line_word : (skip : ℕ) (part : List ℕ) (line t : ℕ) → first_key line + t < first_key (line + 1)
    → little 8 (drop (512 + 64 * line + 8 * t - skip) part) ≡ key_in skip part (first_key line + t)
unfolding key_in
line_word skip part line t h =
    let e : 512 + 64 * line + 8 * t ≡ place (first_key line + t) = omega arith in
    ap (λ (at : ℕ). little 8 (drop (at - skip) part)) e
