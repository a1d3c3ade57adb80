use Rattle.std.proofs.Common.{◌+◌, true, false, not, sym, ap, ◌∙◌, arith}
use Rattle.settled_runs.specs.Settled.{set_up}
use Rattle.settled_workloads.proofs.Loops.{tail_is, begin_more, begin_end}
use Rattle.settled_workloads.proofs.parts.sets_up_first.Goals as goal

pub returns-then-is_begin : goal.returns-then-is_begin
returns-then-is_begin c = sym c.loop-i.invariant ∙ (begin_more c.args.statements.now c.loop-i.i c.index-statements-i.result true (omega arith)
    c.index-statements-i.is c.if-is_begin.ensures ∙ ap not (ap set_up (sym (tail_is c.args.statements.now (c.loop-i.i + 1))) ∙ sym c.set_up.ensures))

pub loop-i-preserved : goal.loop-i-preserved
loop-i-preserved c = sym (begin_more c.args.statements.now c.loop-i.i c.index-statements-i.result false (omega arith) c.index-statements-i.is
    c.if-is_begin.ensures) ∙ c.loop-i.invariant

pub returns : goal.returns
returns c = sym c.loop-i.invariant ∙ begin_end c.args.statements.now c.loop-i.i (omega arith)
