use Rattle.std.proofs.Common.{true, false, map, sym, ◌∙◌, arith}
use Rattle.settled_runs.specs.Settled.{has_one_fault_a_group}
use Rattle.settled_workloads.specs.Rows.{row_action}
use Rattle.settled_workloads.proofs.Loops.{parts_more, parts_end}
use Rattle.settled_workloads.proofs.whole.all_have_one_fault.Goals as goal

pub returns-then-not-branch : goal.returns-then-not-branch
returns-then-not-branch c = sym c.loop-part.invariant ∙ parts_more (has_one_fault_a_group (map row_action c.args.rows.now)) c.args.parts.now
    c.loop-part.part-index c.part-item.result false (omega arith) c.part-item.is (sym c.if-not-branch.true ∙ c.in_ok-has_one_fault_a_group.ensures)

pub loop-part-preserved : goal.loop-part-preserved
loop-part-preserved c = sym (parts_more (has_one_fault_a_group (map row_action c.args.rows.now)) c.args.parts.now c.loop-part.part-index c.part-item.result
    true (omega arith) c.part-item.is (sym c.if-not-branch.false ∙ c.in_ok-has_one_fault_a_group.ensures)) ∙ c.loop-part.invariant

pub returns : goal.returns
returns c = sym c.loop-part.invariant ∙ parts_end (has_one_fault_a_group (map row_action c.args.rows.now)) c.args.parts.now c.loop-part.part-index (omega arith)
