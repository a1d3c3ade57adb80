use Rattle.run_report.proofs.Names.{nat_eq, ◌≡◌, ◌++◌, drop, task_lines_of, get, nows}
use Rattle.run_report.proofs.task_lines.push_task_lines.Given as goal

abbrev pub invariant-loop-i : goal.invariant-loop-i
invariant-loop-i l =
    l.out.items ++ task_lines_of l.part (get nat_eq l.ended) (drop l.i l.statements) (drop l.i (nows l.replies))
    ≡ l.fn.out.items ++ task_lines_of l.part (get nat_eq l.ended) l.statements (nows l.replies)
