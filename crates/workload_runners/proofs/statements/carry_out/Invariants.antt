use Rattle.std.proofs.Common.{take}
use Rattle.workload_runners.specs.Turns.{AddsOwn}
use Rattle.workload_runners.proofs.CarryLemmas.{SoFar}
use Rattle.workload_runners.proofs.statements.carry_out.Given as goal

abbrev pub invariant-loop-statement : goal.invariant-loop-statement
invariant-loop-statement g l = AddsOwn (SoFar l.fn.bound.items l.bound.items (take l.statement-index l.statements)) l.fn.seat l.seat
