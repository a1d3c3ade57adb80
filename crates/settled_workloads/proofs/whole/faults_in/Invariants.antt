use Rattle.std.proofs.Common.{◌≡◌, take}
use Rattle.std.specs.Prelude.{map}
use Rattle.std.specs.List.{flat_map}
use Rattle.settled_runs.specs.Plain.{task_in}
use Rattle.settled_runs.specs.Settled.{fault_in}
use Rattle.settled_workloads.specs.Rows.{row_action}
use Rattle.settled_workloads.proofs.whole.faults_in.Given as goal

abbrev pub invariant-loop-s : goal.invariant-loop-s
invariant-loop-s l =
    l.faults.items ≡ flat_map (λ s. fault_in (map row_action l.rows) (task_in l.all s.deed)) (take l.s-index l.all)
