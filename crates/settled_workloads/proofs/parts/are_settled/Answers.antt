use Rattle.std.proofs.Common.{true, false, sym, ◌∙◌, arith}
use Rattle.settled_runs.specs.Plain.{actions_in}
use Rattle.settled_workloads.proofs.Loops.{settled_more, settled_end}
use Rattle.settled_workloads.proofs.parts.are_settled.Goals as goal

pub returns-then-not-is_settled_deed : goal.returns-then-not-is_settled_deed
returns-then-not-is_settled_deed c = sym c.loop-i.invariant ∙ settled_more c.args.settings.now (actions_in c.args.earlier.now) c.args.all.now
    c.loop-i.i c.index-all-i.result false (omega arith) c.index-all-i.is c.if-not-is_settled_deed.ensures

pub loop-i-preserved : goal.loop-i-preserved
loop-i-preserved c = sym (settled_more c.args.settings.now (actions_in c.args.earlier.now) c.args.all.now
    c.loop-i.i c.index-all-i.result true (omega arith) c.index-all-i.is c.if-not-is_settled_deed.ensures) ∙ c.loop-i.invariant

pub returns : goal.returns
returns c = sym c.loop-i.invariant ∙ settled_end c.args.settings.now (actions_in c.args.earlier.now) c.args.all.now c.loop-i.i (omega arith)
