use Rattle.std.proofs.Common.{◌≡◌, ◌++◌, take}
use Rattle.settled_workloads.specs.Rows.{ids_of}
use Rattle.settled_workloads.proofs.whole.push_ids.Given as goal

abbrev pub invariant-loop-s : goal.invariant-loop-s
invariant-loop-s l =
    l.ids.items ≡ l.initial.ids.items ++ ids_of (take l.s-index l.statements)
