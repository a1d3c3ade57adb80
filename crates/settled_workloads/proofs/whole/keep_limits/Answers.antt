use Rattle.std.proofs.Common.{true, false, sym, ◌∙◌, arith}
use Rattle.settled_workloads.proofs.Loops.{limits_more, limits_end}
use Rattle.settled_workloads.proofs.whole.keep_limits.Goals as goal

pub returns-then-is_over : goal.returns-then-is_over
returns-then-is_over c = sym c.loop-place.invariant ∙ limits_more c.args.all.now c.loop-place.place c.index-all-place.result true (omega arith)
    c.index-all-place.is c.if-is_over.ensures

pub loop-place-preserved : goal.loop-place-preserved
loop-place-preserved c = sym (limits_more c.args.all.now c.loop-place.place c.index-all-place.result false (omega arith) c.index-all-place.is
    c.if-is_over.ensures) ∙ c.loop-place.invariant

pub returns : goal.returns
returns c = sym c.loop-place.invariant ∙ limits_end c.args.all.now c.loop-place.place (omega arith)
