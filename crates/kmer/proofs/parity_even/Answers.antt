use Prim.Native.Nat.{ℕ, ◌%◌}
use mathlib.Core.Path.{sym, ap}
use lib.Dec.{eqb}
use borrow.Author.Rules.{rules}
use Rattle.rules.specs.Letters.{even_ones}
use Rattle.rules_laws.proofs.Kmer.{ones-in}
use Rattle.kmer.proofs.parity_even.Goals as goal

pub returns : goal.returns
unfolding even_ones
returns c = ap (λ (n : ℕ). eqb (n % 2) 0) (sym (ones-in 64 c.args.code (search rules)))
