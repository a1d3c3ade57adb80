use Rattle.std.proofs.Common.{sym, ◌∙◌}
use Rattle.mtapi_objects.specs.Actions.{has_job}
use Rattle.settled_workloads.proofs.Actions.{any_in}
use Rattle.settled_workloads.proofs.deeds.any_has_job.Goals as goal

pub returns : goal.returns
returns c = any_in (has_job c.args.job) c.args.statements.now ∙ sym c.any_has_job_here.ensures
