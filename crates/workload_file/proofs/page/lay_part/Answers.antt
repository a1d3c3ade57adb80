use Rattle.workload_file.proofs.Cited.{[], caller_text, if_any, statement_lines_behind, on_ok}
use Rattle.workload_file.proofs.Phrases.{more_lines}
use Rattle.workload_file.proofs.page.lay_part.Goals as goal

pub returns-clause-text : goal.returns-clause-text
returns-clause-text c = rw c.as_slice.ensures at (on_ok c.lay_statements.result _ _
    (λ e. more_lines c.args.page.now.text.items c.lay_caller.new.page.text.items c.lay_statements.new.page.text.items c.args.page.now.line
    c.lay_caller.new.page.line (if_any c.args.part.now.line (caller_text c.args.part.now.name))
    (statement_lines_behind [] c.as_slice.result.now) c.in_ok-lay_caller.ensures.text c.in_ok-lay_caller.ensures.line e) c.lay_statements.ensures.text)
