use Rattle.std.proofs.Common.{sym, ◌∙◌}
use Rattle.mtapi_objects.specs.Actions.{is_eligible}
use Rattle.settled_workloads.proofs.Actions.{any_in}
use Rattle.settled_workloads.proofs.deeds.any_serves.Goals as goal

pub returns : goal.returns
returns c = any_in (is_eligible c.args.workers c.args.worker c.args.job c.args.cores.0) c.args.statements.now ∙ sym c.any_serves_here.ensures
