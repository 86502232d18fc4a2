-- A whole pass, by the rules' driver over any corrector.
use Prim.Native.Nat.{ℕ, ◌*◌, ◌≤◌, ◌<◌}
use native.Mathlib.Omega.{arith}
use mathlib.Core.Path.{◌≡◌, sym, ap}
use mathlib.Core.Bool.{Bool}
use mathlib.Core.List.{List}
use borrow.Author.Tests.{le-ltb, lt-ltb}
use native.Mathlib.Decide.{dec_le}
use lib.ListN.{length, drop, length-drop}
use lib.Seq.{length-take-le}
use Rattle.rules.specs.Letters.{Kmer}
use Rattle.rules.specs.Counted.{Try}
use Rattle.turn.proofs.Ends.{turns_of-keeps, turns_of-within}
use Rattle.correct.specs.Pass.{returned}
use Rattle.rules.specs.Exist.{Mend}
use Rattle.rules.specs.Driver.{Pass, State, keep_base, mend_base, turns_of, begin, drive}
use Rattle.rules_laws.proofs.Driver.{finish}

-- an attempt is made in a turn, and accepted once at most
pub record Fewer (a : Pass) : Type 0 where
  pub attempts : a.attempts ≤ a.turns
  pub accepted : a.accepted ≤ a.turns

module _ (k : ℕ) (sol : ℕ → Bool) (count : Kmer → ℕ) (ce : List ℕ → Kmer → Try Mend) where
  pub turns_of-fewer : (f : ℕ) (st : State) → Fewer st.done → Fewer (turns_of k sol count ce f st).done
  unfolding keep_base mend_base
  turns_of-fewer =
      turns_of-keeps k sol count ce Fewer
      (λ st b s y p a l le h. record { attempts = omega (arith, h.attempts); accepted = omega (arith, h.accepted) })
      (λ st s y m l h. record { attempts = omega (arith, h.attempts); accepted = omega (arith, h.accepted) })

  pub drive-short-is : (read : List ℕ) → length read < k → drive k sol count ce read ≡ returned read
  unfolding drive
  drive-short-is read lt = rw (drive, lt-ltb (length read) k lt)

  pub drive-is : (read : List ℕ) → k ≤ length read → drive k sol count ce read ≡ (finish k sol count ce (begin k sol count ce read)).done
  unfolding drive finish begin
  drive-is read le =
      rw (drive, le-ltb (length read) k le)
      (ap (λ (n : ℕ). (turns_of k sol count ce (2 * n) (begin k sol count ce read)).done) (sym (length-drop k read)))

  pub drive-fewer : (read : List ℕ) → Fewer (drive k sol count ce read)
  unfolding begin finish
  drive-fewer read = elim (dec_le k (length read)) [
    | yes le ↦ rw (drive-is read le) (turns_of-fewer _ (begin k sol count ce read) (record { attempts = omega arith; accepted = omega arith }))
    | no gt ↦ rw (drive-short-is read (omega arith)) (record { attempts = omega arith; accepted = omega arith })
  ]

  -- the first k-mer is part of the result
  pub drive-long : (read : List ℕ) → k ≤ length read → k ≤ length (drive k sol count ce read).bytes
  unfolding begin finish
  drive-long read le =
      rw (drive-is read le) (omega (arith, (turns_of-within k sol count ce (2 * length (drop k read)) (begin k sol count ce read)).bytes, length-take-le k read le))
