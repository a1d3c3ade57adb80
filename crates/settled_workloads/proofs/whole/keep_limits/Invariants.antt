use Rattle.std.proofs.Common.{◌≡◌, drop}
use Rattle.settled_runs.specs.Settled.{keep_limits}
use Rattle.settled_workloads.proofs.whole.keep_limits.Given as goal

abbrev pub invariant-loop-place : goal.invariant-loop-place
invariant-loop-place l =
    keep_limits l.all l.place (drop l.place l.all) ≡ keep_limits l.all 0 l.all
