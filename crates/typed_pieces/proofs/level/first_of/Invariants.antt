use Rattle.typed_pieces.proofs.Names.{◌≡◌, take, drop}
use Rattle.typed_pieces.proofs.level.first_of.Given as goal

abbrev pub invariant-loop : goal.invariant-loop
invariant-loop g l = (l.first.items ≡ take l.counter l.fn.results.items) × (l.results.items ≡ drop l.counter l.fn.results.items)
