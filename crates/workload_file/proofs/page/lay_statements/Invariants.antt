use Rattle.workload_file.proofs.Cited.{◌≡◌, ◌++◌, take, [], laid_out, statement_lines_behind, last_line}
use Rattle.workload_file.proofs.page.lay_statements.Given as goal

abbrev pub invariant-loop-i : goal.invariant-loop-i
invariant-loop-i l = record {
  text : l.page.text.items ≡ l.fn.page.text.items ++ laid_out l.fn.page.line (statement_lines_behind [] (take l.i l.statements));
  line : l.page.line ≡ last_line l.fn.page.line (statement_lines_behind [] (take l.i l.statements));
}
