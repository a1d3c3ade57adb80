use Rattle.std.proofs.Common.{◌≡◌, ◌++◌, false}
use Rattle.std.specs.List.{list_any}
use Rattle.mtapi_objects.specs.Actions.{some_below, is_eligible}
use Rattle.settled_runs.specs.Plain.{actions_in}
use Rattle.settled_workloads.proofs.deeds.serves.Given as goal

abbrev pub invariant-loop-worker : goal.invariant-loop-worker
invariant-loop-worker l =
    some_below l.worker (λ w. list_any (is_eligible l.workers w l.job l.cores.0) (actions_in l.earlier ++ actions_in l.before)) ≡ false
