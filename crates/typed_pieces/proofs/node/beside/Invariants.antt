use Rattle.typed_pieces.proofs.Names.{◌≡◌, map, ◌++◌}
use Rattle.typed_pieces.proofs.node.beside.Given as goal

abbrev pub invariant-loop-client : goal.invariant-loop-client
invariant-loop-client g l = map (λ b. b.client) l.all.items ++ l.client-iterator.rest.items ≡ l.fn.clients.items
