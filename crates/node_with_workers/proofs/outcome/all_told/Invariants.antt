use Rattle.node_with_workers.proofs.Names.{◌≡◌, Ok, map, ◌++◌}
use Rattle.node_with_workers.proofs.outcome.all_told.Given as goal

abbrev pub invariant-loop-other : goal.invariant-loop-other
invariant-loop-other g l = map Ok l.told.items ++ l.other-iterator.rest.items ≡ l.fn.others.items
