use Rattle.std.proofs.Common.{◌≡◌, ◌≤◌, ◌-◌, ◌++◌}
use Rattle.generated_workload.specs.Generated.{generated_tasks}
use Rattle.generated_workload.proofs.generator.push_tasks.Given as goal

abbrev pub invariant-loop-i : goal.invariant-loop-i
invariant-loop-i l = record {
  so_far : l.list ≡ l.fn.list ++ generated_tasks l.i;
  within : l.i ≤ l.n;
}

abbrev pub decreases-loop-i : goal.decreases-loop-i
decreases-loop-i l = l.n - l.i
