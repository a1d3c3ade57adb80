use Rattle.std.proofs.Common.{◌≡◌, drop}
use Rattle.std.specs.Prelude.{map}
use Rattle.std.specs.List.{list_all}
use Rattle.settled_runs.specs.Settled.{has_one_fault_a_group}
use Rattle.settled_workloads.specs.Rows.{row_action}
use Rattle.settled_workloads.proofs.whole.all_have_one_fault.Given as goal

abbrev pub invariant-loop-part : goal.invariant-loop-part
invariant-loop-part l =
    list_all (has_one_fault_a_group (map row_action l.rows)) (drop l.part-index l.parts) ≡ list_all (has_one_fault_a_group (map row_action l.rows)) l.parts
