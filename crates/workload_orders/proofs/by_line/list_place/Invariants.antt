use Rattle.workload_orders.specs.Shown.{IsShown}
use Rattle.workload_orders.proofs.by_line.list_place.Given as goal

abbrev pub invariant-loop-edge : goal.invariant-loop-edge
invariant-loop-edge l = IsShown l.load l.listing.orders
