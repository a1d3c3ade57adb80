use Rattle.node_with_workers.proofs.Names.{◌≡◌, map, ◌++◌}
use Rattle.node_with_workers.proofs.run.entering.Given as goal

abbrev pub invariant-loop-client : goal.invariant-loop-client
invariant-loop-client g l = map (λ e. e.client) l.all.items ++ l.client-iterator.rest.items ≡ l.fn.clients.items
