use Rattle.std.proofs.Common.{◌≡◌, drop}
use Rattle.settled_runs.specs.Settled.{have_one_fault_a_group}
use Rattle.settled_workloads.proofs.whole.have_one_fault_a_group.Given as goal

abbrev pub invariant-loop-i : goal.invariant-loop-i
invariant-loop-i l =
    have_one_fault_a_group (drop l.i l.faults) ≡ have_one_fault_a_group l.faults
