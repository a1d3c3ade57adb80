use Rattle.std.proofs.Common.{sym}
use Rattle.node_steps.proofs.Marks.{marks_false, marks_true, marks_end}
use Rattle.node_steps.proofs.phase_ops.all_marked.Goals as goal

pub returns-then-not-mark : goal.returns-then-not-mark
returns-then-not-mark c = sym (marks_false c.args.n c.loop-mark.left c.loop-mark.mark-index c.args.marks.now c.loop-mark-test.true c.if-left-eq0.false
    c.if-not-mark.true c.loop-mark.invariant)

pub loop-mark-preserved : goal.loop-mark-preserved
loop-mark-preserved c = marks_true c.args.n c.loop-mark.left c.loop-mark.mark-index c.args.marks.now c.loop-mark-test.true c.if-left-eq0.false
    c.if-not-mark.false c.loop-mark.invariant

pub returns : goal.returns
returns c = sym (marks_end c.args.n c.loop-mark.left c.loop-mark.mark-index c.args.marks.now c.loop-mark-test.false c.loop-mark.invariant)
