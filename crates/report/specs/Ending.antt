-- What the end of a call leaves.
use Rattle.std.specs.Prelude.{ℕ, ◌-◌, ◌≡◌, Bool, true, false, List, ◌++◌, length, take, replicate, Option as Told, None}
use Rattle.rules.specs.Report.{yield_of, quotient_of, remainder_of}
use Rattle.turn.specs.declared.Counts.{Counts}
use Rattle.report.specs.declared.Report.{Report}

-- The bytes written stay, the rest of the output and the whole work buffer, of length w, are zero.
pub record Cleared (written : ℕ) (o : List ℕ) (w : ℕ) (o' w' : List ℕ) : Type 0 where
  pub output : o' ≡ take written o ++ replicate (length o - written) 0
  pub work : w' ≡ replicate w 0

-- The support that is told: none where no counts are offered.
abbrev pub support_with : Bool → Told ℕ → Told ℕ
support_with true support = support
support_with false support = None

-- The report on what was written and counted, where the set has counts or not.
abbrev pub report_on : Bool → Counts → Report
report_on has_counts n =
    record {
      written = n.written;
      turns = n.turns;
      lookups = n.lookups;
      attempts = n.attempts;
      accepted = n.accepted;
      yield_ = yield_of n.accepted n.attempts;
      support = support_with has_counts n.support;
      quotient = quotient_of n.lookups n.bases;
      remainder = remainder_of n.lookups n.bases;
      bases = n.bases;
    }
