-- The files of a job, over plain values.
use Rattle.std.proofs.Common.{◌≡◌, ℕ, ◌+◌, List, [], refl}
use Rattle.std.specs.Prelude.{codes}
use Rattle.sn_gen.specs.Generated.{capture_bytes}
use Rattle.sn_gen.specs.Job.{job_queries, job_switch}
use Rattle.sn_io.specs.MemInputs.{files_put, held_by}
use Rattle.sn_command_job.specs.Job.{job_files}

-- the files that are put are those of the job
pub files_are : (switch queries training capture : List ℕ) (number : ℕ) → switch ≡ job_switch → queries ≡ job_queries → training ≡ capture_bytes number → capture ≡ capture_bytes (number + 1)
    → held_by (files_put (codes "capture") capture (files_put (codes "training") training (files_put (codes "queries") queries (files_put (codes "switch") switch [])))) ≡ job_files number
files_are switch queries training capture number a b c d = rw (a, b, c, d) refl
