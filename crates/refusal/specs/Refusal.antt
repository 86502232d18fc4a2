-- The documents' number and place for each case.
use Rattle.std.specs.Prelude.{ℕ, Result, Ok, Err}
use Rattle.std.proofs.Math.Option.{none, some}
use Rattle.rules.specs.Refusal as Rules
use Rattle.refusal.specs.declared.Refusal.{Refusal}
use Rattle.refusal.specs.declared.Refusal.TheVariants.{Long, Methods, Method, Confirm, Buffers, Batch, Length, Check, Header, Key, NoRoom, Line, NotRising, TooShort, Index, Counts, NotOne, Sequence, Edit, NotSolid}

abbrev numbered : ℕ → ℕ → Rules.Refusal
numbered number place = record { number = number; place = place }

abbrev pub refusal_of : Refusal → Rules.Refusal
refusal_of Long = numbered 1 0
refusal_of Methods = numbered 2 0
refusal_of (Method entry) = numbered 3 entry
refusal_of (Confirm entry) = numbered 4 entry
refusal_of Buffers = numbered 5 0
refusal_of Batch = numbered 6 0
refusal_of Length = numbered 7 0
refusal_of (Check block) = numbered 8 block
refusal_of Header = numbered 9 0
refusal_of (Key word) = numbered 10 word
refusal_of (NoRoom line) = numbered 11 line
refusal_of (Line line) = numbered 12 line
refusal_of (NotRising line) = numbered 13 line
refusal_of TooShort = numbered 14 0
refusal_of Index = numbered 15 0
refusal_of Counts = numbered 16 0
refusal_of NotOne = numbered 17 0
refusal_of (Sequence line) = numbered 18 line
refusal_of (Edit edit) = numbered 19 edit
refusal_of (NotSolid end) = numbered 20 end

-- A check's answer as the rules have it: none where it lets pass.
abbrev pub check_of : {A : Type 0} → Result A Refusal → Rules.Check
check_of (Ok a) = none
check_of (Err r) = some (refusal_of r)
