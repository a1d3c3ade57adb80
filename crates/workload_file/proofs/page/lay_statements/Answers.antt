use Rattle.workload_file.proofs.Cited.{[], refl, sym, ◌∙◌, take, append-nil, statement_lines_behind, statement_text}
use Rattle.workload_file.proofs.Phrases.{text_more, line_more, statements_more, statements_none, laid_none}
use Rattle.workload_file.proofs.page.lay_statements.Goals as goal

pub loop-i-init : goal.loop-i-init
loop-i-init c = rw (statements_none [], laid_none c.args.page.now.line) (record { text = sym (append-nil c.args.page.now.text.items); line = refl })

pub loop-i-preserved : goal.loop-i-preserved
loop-i-preserved c =
    let s = c.index-statements-i.result in
    let xs = statement_lines_behind [] (take c.loop-i.i c.args.statements.now) in
    let more = statements_more c.args.statements.now c.loop-i.i s c.loop-i-test.true c.index-statements-i.is in
    let text = statement_text (take c.loop-i.i c.args.statements.now) s in
    let fed = rw c.loop-i.invariant.line at c.in_ok-feed.ensures.text in
    rw more (record {
      text = text_more c.args.page.now.text.items c.loop-i.page.text.items c.feed.new.page.text.items text c.push_statement.new.out.items c.args.page.now.line
          s.line xs c.loop-i.invariant.text fed c.in_ok-push_statement.ensures;
      line = c.in_ok-feed.ensures.line ∙ sym (line_more c.args.page.now.line s.line text xs);
    })
