use Rattle.workload_orders.specs.Shown.{IsShown}
use Rattle.workload_orders.proofs.by_line.list_runs.Given as goal

abbrev pub invariant-loop-place : goal.invariant-loop-place
invariant-loop-place l = IsShown l.load l.listing.orders
