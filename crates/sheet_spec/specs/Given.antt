-- The job that a structure of the code holds.
-- Assumes nothing.
use Rattle.sheet_spec.specs.Job.{Job, job}
use Rattle.sheet_spec.specs.declared.Job as declared

abbrev pub job_given : declared.Job → Job
job_given j = job j.n j.m j.k j.l j.order.now
