use Rattle.std.proofs.Common.{◌≡◌, ◌++◌, take}
use Rattle.std.specs.Prelude.{map}
use Rattle.settled_runs.specs.Plain.{actions_in}
use Rattle.settled_workloads.specs.Rows.{row_action}
use Rattle.settled_workloads.proofs.whole.push_actions.Given as goal

abbrev pub invariant-loop-s : goal.invariant-loop-s
invariant-loop-s l =
    map row_action l.rows.items ≡ map row_action l.initial.rows.items ++ actions_in (take l.s-index l.statements)
