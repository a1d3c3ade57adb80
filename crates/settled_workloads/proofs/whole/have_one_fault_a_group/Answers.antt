use Rattle.std.proofs.Common.{true, false, sym, ◌∙◌, arith}
use Rattle.settled_workloads.proofs.Loops.{agree_more, agree_end}
use Rattle.settled_workloads.proofs.whole.have_one_fault_a_group.Goals as goal

pub returns-then-not-first_agrees : goal.returns-then-not-first_agrees
returns-then-not-first_agrees c = sym c.loop-i.invariant ∙ agree_more c.args.faults.now c.loop-i.i false (omega arith) c.if-not-first_agrees.ensures

pub loop-i-preserved : goal.loop-i-preserved
loop-i-preserved c = sym (agree_more c.args.faults.now c.loop-i.i true (omega arith) c.if-not-first_agrees.ensures) ∙ c.loop-i.invariant

pub returns : goal.returns
returns c = sym c.loop-i.invariant ∙ agree_end c.args.faults.now c.loop-i.i (omega arith)
