-- Which files make a call.
use Prim.Native.Nat.{ℕ, ◌%◌, ◌≤◌, ◌<◌}
use mathlib.Core.Path.{◌≡◌, refl, sym, ap, ◌∙◌}
use mathlib.Core.Option as maybe
use mathlib.Core.Option.{none, some}
use mathlib.Core.List.{List, []}
use lib.ListN.{length}
use borrow.Author.Tests.{lt-leb, le-leb, eq-eqb, ne_eqb}
use Rattle.std.specs.Prelude.{Option, Some, None}
use denote.Ref.{Bor}
use Rattle.rules.specs.Calls.{correct_batch}
use Rattle.rules_program.specs.Program.{Files, zeros, bad_file, up_to, call_on, call_of, printed_for, printed}
use Rattle.report.specs.Answer.{given}
use Rattle.program.specs.Given.{file_of}

-- A file that is missing, one that is not too long, and one that is.
pub no-file : (most : ℕ) {file r : Option (Bor (List ℕ))} → file ≡ None → r ≡ None → file_of r ≡ up_to most (file_of file)
unfolding up_to
no-file most e f = rw (e, f) refl

pub short-file : (most : ℕ) {file : Option (Bor (List ℕ))} (bytes : Bor (List ℕ)) → file ≡ Some bytes → length bytes.now ≤ most
    → some bytes.now ≡ up_to most (file_of file)
unfolding up_to
short-file most bytes e le = rw (e, up_to, le-leb _ _ le) refl

pub long-file : (most : ℕ) {file : Option (Bor (List ℕ))} (bytes : Bor (List ℕ)) → file ≡ Some bytes → most < length bytes.now
    → none ≡ up_to most (file_of file)
unfolding up_to
long-file most bytes e lt = rw (e, up_to, lt-leb _ _ lt) refl

-- What a taken file, and one that is not, say of the files.
pub not-taken : {r : Option (Bor (List ℕ))} {o : maybe.Option (List ℕ)} → file_of r ≡ o → r ≡ None → none ≡ o
not-taken e n = ap file_of (sym n) ∙ e

module _ (files : Files) where
  -- A file that is not taken.
  pub no-set : none ≡ up_to 65536 files.set → bad_file ≡ printed files
  unfolding printed call_of
  no-set e = rw (printed, call_of, ← e) refl

  pub no-job : (set : List ℕ) → some set ≡ up_to 65536 files.set → none ≡ up_to 64 files.job → bad_file ≡ printed files
  unfolding printed call_of
  no-job set s e = rw (printed, call_of, ← s, ← e) refl

  module _ (set job : List ℕ) (s : some set ≡ up_to 65536 files.set) (j : some job ≡ up_to 64 files.job) where
    pub no-batch : none ≡ up_to 16384 files.batch → bad_file ≡ printed files
    unfolding printed call_of
    no-batch e = rw (printed, call_of, ← s, ← j, ← e) refl

    module _ (batch : List ℕ) (b : some batch ≡ up_to 16384 files.batch) where
      -- A job of an odd count of bytes.
      pub odd-job : (length job % 2 ≡ 0 → ⊥) → bad_file ≡ printed files
      unfolding printed call_of call_on
      odd-job odd = rw (printed, call_of, ← s, ← j, ← b, call_on, ne_eqb _ 0 odd) refl

      pub prints-answer : length job % 2 ≡ 0 → printed_for (correct_batch (given set [] [] job batch (zeros 32768) (zeros 65536))) ≡ printed files
      unfolding printed call_of call_on
      prints-answer even = rw (printed, call_of, ← s, ← j, ← b, call_on, eq-eqb _ 0 even) refl
