-- The places behind the mends kept.
use Rattle.std.specs.Prelude.{◌+◌, ◌-◌, ◌≤◌, ◌≡◌, ℕ, List, drop, replicate, set}
use Rattle.std.proofs.Common.{arith, ap, ◌∙◌, sym}
use Rattle.std.proofs.Math.Bridge.{le_prop}
use Rattle.std.proofs.lemmas.List.{drop-drop, drop-set-lt, drop-replicate}
use Rattle.scenario.specs.declared.mend.Mend.{Mend}
use Rattle.trials.specs.Group.{blank, blanks}

-- a mend of zeros is blank
pub blank-is : (s : (0 ≤ 3) × (0 ≤ 4)) → ◌≡◌ {A = Mend} (record { code = 0; letters = 0; resume = 0; tried = 0; place = 0; small = s }) blank
blank-is s i = record { code = 0; letters = 0; resume = 0; tried = 0; place = 0; small = (le_prop s.0 blank.small.0 i, le_prop s.1 blank.small.1 i) }

-- one more is kept, stored among these
pub blanks-next : (ms : List Mend) (n j : ℕ) (m : Mend) → j ≤ n → drop n ms ≡ blanks n → drop (n + 1) (set ms j m) ≡ blanks (n + 1)
blanks-next ms n j m le e =
    let less : 13 - n - 1 ≡ 13 - (n + 1) = omega arith in
    drop-set-lt (n + 1) ms j m (omega arith) ∙ sym (drop-drop 1 n ms) ∙ ap (drop 1) e ∙ drop-replicate 1 (13 - n) blank ∙ ap (λ l. replicate l blank) less
