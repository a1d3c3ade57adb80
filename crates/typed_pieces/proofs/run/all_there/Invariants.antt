use Rattle.typed_pieces.proofs.Names.{◌≡◌, Some, map, ◌++◌}
use Rattle.typed_pieces.proofs.run.all_there.Given as goal

abbrev pub invariant-loop-result : goal.invariant-loop-result
invariant-loop-result g l = map Some l.there.items ++ l.result-iterator.rest.items ≡ l.fn.results.items
