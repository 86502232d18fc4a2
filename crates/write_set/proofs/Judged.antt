-- What a text that was judged lets pass.
use Prim.Native.Nat.{ℕ, ◌≤◌}
use mathlib.Core.Path.{◌≡◌}
use mathlib.Core.Bool.{true}
use mathlib.Core.Option.{none}
use mathlib.Core.List.{List}
use borrow.Author.Tests.{leb-true}
use lib.Dec.{leb}
use lib.ListN.{length}
use Rattle.rules.specs.Refusal.{Check, ◌or_else◌, unless}
use Rattle.rules.specs.Set.{max_keys, k_right}
use Rattle.rules_make.specs.MakeSet.{text_lines, text_keys, lines_check, text_check}
use Rattle.rules_laws.proofs.Opened.{passed, unless-passed}

module _ (text : List ℕ) (k least : ℕ) where
  pub text-passed : text_check text k least ≡ none → (k_right k ≡ true) × (lines_check k least 0 none (text_lines text) ≡ none) × (length (text_keys k least text) ≤ max_keys)
  unfolding text_check
  text-passed h =
      let lines_right : Check = lines_check k least 0 none (text_lines text) in
      let few : Check = unless (leb (length (text_keys k least text)) max_keys) 9 in
      let a = passed (unless (k_right k) 9) (lines_right or_else few) h in
      let b = passed lines_right few a.1 in
      (unless-passed (k_right k) 9 a.0, b.0, leb-true (length (text_keys k least text)) max_keys (unless-passed (leb (length (text_keys k least text)) max_keys) 9 b.1))
