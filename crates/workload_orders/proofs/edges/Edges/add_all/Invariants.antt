use Rattle.std.proofs.Common.{length}
use Rattle.workload_orders.proofs.edges.Edges.add_all.Given as goal

abbrev pub decreases-loop-step : goal.decreases-loop-step
decreases-loop-step l = length l.steps.items
