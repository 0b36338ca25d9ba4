use Rattle.sn_command_job.proofs.JobLemmas.{one_job}
use Rattle.sn_command_job.proofs.law.job_has_one_outcome.Goals as goal

pub returns : goal.returns
returns c = one_job
