use Rattle.std.proofs.Common.{◌++◌, arith}
use Rattle.std.specs.List.{list_any}
use Rattle.mtapi_objects.specs.Actions.{is_eligible}
use Rattle.settled_runs.specs.Plain.{actions_in}
use Rattle.settled_workloads.proofs.Actions.{below_at}
use Rattle.settled_workloads.proofs.deeds.serves.Goals as goal

pub returns-then-serves_on : goal.returns-then-serves_on
returns-then-serves_on c =
    below_at c.args.workers c.loop-worker.worker
    (λ w. list_any (is_eligible c.args.workers w c.args.job c.args.cores.0) (actions_in c.args.earlier.now ++ actions_in c.args.before.now))
    (omega arith) c.if-serves_on.ensures
