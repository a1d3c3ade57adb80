use Rattle.run_report.proofs.Names.{nat_eq, ◌≡◌, ◌++◌, drop, get, nows, call_lines_of, names_by}
use Rattle.run_report.proofs.call_lines.push_calls.Given as goal

abbrev pub invariant-loop-i : goal.invariant-loop-i
invariant-loop-i l =
    l.out.items ++ call_lines_of l.part (names_by l.statements (get nat_eq l.places)) (drop l.i l.statements) (drop l.i (nows l.replies))
    ≡ l.fn.out.items ++ call_lines_of l.part (names_by l.statements (get nat_eq l.places)) l.statements (nows l.replies)
