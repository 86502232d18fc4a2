-- The files as the rules have them.
use Rattle.std.specs.Prelude.{ℕ, List, Option, Some, None}
use mathlib.Core.Option as maybe
use denote.Ref.{Bor}
use Rattle.rules_program.specs.Program as rules
use Rattle.program.specs.declared.Files.{Files}

-- A file's bytes, or none.
abbrev pub file_of : Option (Bor (List ℕ)) → maybe.Option (List ℕ)
file_of None = maybe.none
file_of (Some bytes) = maybe.some bytes.now

abbrev pub files_of : Files → rules.Files
files_of files = record { set = file_of files.set; job = file_of files.job; batch = file_of files.batch }
