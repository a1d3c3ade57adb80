use Rattle.std.proofs.Common.{◌≡◌, drop}
use Rattle.settled_workloads.specs.Rows.{differ}
use Rattle.settled_workloads.proofs.whole.differ.Given as goal

abbrev pub invariant-loop-i : goal.invariant-loop-i
invariant-loop-i l =
    differ (drop l.i l.ids) ≡ differ l.ids
