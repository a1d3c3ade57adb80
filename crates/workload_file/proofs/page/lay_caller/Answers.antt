use Rattle.workload_file.proofs.Cited.{caller_text, on_ok}
use Rattle.workload_file.proofs.Phrases.{no_line, one_line}
use Rattle.workload_file.proofs.page.lay_caller.Goals as goal

pub returns-then-line-eq0-clause-text : goal.returns-then-line-eq0-clause-text
returns-then-line-eq0-clause-text c = no_line c.args.page.now.text.items (caller_text c.args.name.now) c.args.page.now.line c.args.line c.if-line-eq0.true

pub returns-clause-text : goal.returns-clause-text
returns-clause-text c = on_ok c.push_caller.result _ _
    (λ e. one_line c.args.page.now.text.items c.feed.new.page.text.items c.push_caller.new.out.items
    (caller_text c.args.name.now) c.args.page.now.line c.args.line c.if-line-eq0.false c.in_ok-feed.ensures.text e) c.push_caller.ensures
