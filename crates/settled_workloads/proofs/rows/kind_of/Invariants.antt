use Rattle.std.proofs.Common.{◌≡◌, drop}
use Rattle.settled_workloads.specs.Rows.{kind_found}
use Rattle.settled_workloads.proofs.rows.kind_of.Given as goal

abbrev pub invariant-loop-action : goal.invariant-loop-action
invariant-loop-action l =
    kind_found l.job (drop l.action-index l.actions) ≡ kind_found l.job l.actions
