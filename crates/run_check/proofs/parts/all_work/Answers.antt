use Rattle.run_check.proofs.Names.{◌∙◌, sym}
use Rattle.run_check.proofs.Ran.{work_more, work_none}
use Rattle.run_check.proofs.parts.all_work.Goals as goal

pub returns-then-not-is_work : goal.returns-then-not-is_work
returns-then-not-is_work c = sym (c.loop-line.invariant ∙ work_more c.args.lines.now c.loop-line.line-index c.line-item.result _ _ _ c.loop-line-test.true
    c.line-item.is c.op.ensures c.reply.ensures c.if-not-is_work.ensures)

pub loop-line-preserved : goal.loop-line-preserved
loop-line-preserved c = c.loop-line.invariant ∙ work_more c.args.lines.now c.loop-line.line-index c.line-item.result _ _ _ c.loop-line-test.true
    c.line-item.is c.op.ensures c.reply.ensures c.if-not-is_work.ensures

pub returns : goal.returns
returns c = sym (c.loop-line.invariant ∙ work_none c.args.lines.now c.loop-line.line-index c.loop-line-test.false)
