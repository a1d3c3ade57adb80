use Rattle.std.proofs.Common.{true, false, sym, ◌∙◌, arith}
use Rattle.settled_workloads.proofs.Loops.{differ_more, differ_end}
use Rattle.settled_workloads.proofs.whole.differ.Goals as goal

pub returns-then-not-first_differs : goal.returns-then-not-first_differs
returns-then-not-first_differs c = sym c.loop-i.invariant ∙ differ_more c.args.ids.now c.loop-i.i false (omega arith) c.if-not-first_differs.ensures

pub loop-i-preserved : goal.loop-i-preserved
loop-i-preserved c = sym (differ_more c.args.ids.now c.loop-i.i true (omega arith) c.if-not-first_differs.ensures) ∙ c.loop-i.invariant

pub returns : goal.returns
returns c = sym c.loop-i.invariant ∙ differ_end c.args.ids.now c.loop-i.i (omega arith)
