use Rattle.run_report.proofs.Names.{nat_eq, ◌≡◌, ◌≤◌, ◌+◌, length, get, nows, with_tasks, AreTotals}
use Rattle.run_report.proofs.totals.with_tasks.Given as goal

abbrev pub invariant-statements : goal.invariant-statements
invariant-statements l = record {
  value : with_tasks (get nat_eq l.ended) l.totals l.statements (nows l.replies)
      ≡ with_tasks (get nat_eq l.ended) l.initial.totals l.initial.statements (nows l.initial.replies);
  totals : AreTotals l.totals.tasks l.totals;
  tasks : l.totals.tasks + length l.statements ≤ l.initial.totals.tasks + length l.initial.statements;
}

abbrev pub decreases-statements : goal.decreases-statements
decreases-statements l = length l.statements
