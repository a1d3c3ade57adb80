use Rattle.std.proofs.Common.{true, false, sym, ◌∙◌, arith}
use Rattle.settled_workloads.proofs.Loops.{kinds_more, kinds_end}
use Rattle.settled_workloads.proofs.whole.has_one_kind_a_job.Goals as goal

pub returns-then-not-first_is_alike : goal.returns-then-not-first_is_alike
returns-then-not-first_is_alike c = sym c.loop-i.invariant ∙ kinds_more c.args.rows.now c.loop-i.i false (omega arith) c.if-not-first_is_alike.ensures

pub loop-i-preserved : goal.loop-i-preserved
loop-i-preserved c = sym (kinds_more c.args.rows.now c.loop-i.i true (omega arith) c.if-not-first_is_alike.ensures) ∙ c.loop-i.invariant

pub returns : goal.returns
returns c = sym c.loop-i.invariant ∙ kinds_end c.args.rows.now c.loop-i.i (omega arith)
