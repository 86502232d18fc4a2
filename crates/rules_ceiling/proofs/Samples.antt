-- The ceilings that the table of jobs prints, by computation.
use mathlib.Core.Path.{◌≡◌, refl}
use mathlib.Core.List.{[], ◌∷◌, map}
use Rattle.rules.specs.Job.{entries_of}
use Rattle.rules.specs.Counts.{sum, all_passes}
use Rattle.rules.specs.Samples.{sample_set, JobSample, job_table}
use Rattle.rules_ceiling.specs.Ceiling.{ceiling}

-- Of each read through its job: the ceiling on its lookups.
pub job_ceilings : map (λ (s : JobSample). sum (ceiling sample_set) (all_passes sample_set (entries_of s.job) (s.read ∷ []))) job_table ≡ map (λ (s : JobSample). s.ceiling) job_table
unfolding entries_of sum all_passes ceiling job_table sample_set
job_ceilings = refl
