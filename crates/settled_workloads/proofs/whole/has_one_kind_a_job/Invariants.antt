use Rattle.std.proofs.Common.{◌≡◌, drop}
use Rattle.std.specs.Prelude.{map}
use Rattle.settled_runs.specs.Settled.{has_one_kind_a_job}
use Rattle.settled_workloads.specs.Rows.{row_action}
use Rattle.settled_workloads.proofs.whole.has_one_kind_a_job.Given as goal

abbrev pub invariant-loop-i : goal.invariant-loop-i
invariant-loop-i l =
    has_one_kind_a_job (map row_action (drop l.i l.rows)) ≡ has_one_kind_a_job (map row_action l.rows)
