use Rattle.std.proofs.Common.{◌≡◌, drop}
use Rattle.settled_runs.specs.Settled.{sets_up_first}
use Rattle.settled_workloads.proofs.parts.sets_up_first.Given as goal

abbrev pub invariant-loop-i : goal.invariant-loop-i
invariant-loop-i l =
    sets_up_first (drop l.i l.statements) ≡ sets_up_first l.statements
