use Rattle.typed_pieces.proofs.Names.{◌≡◌, ◌+◌, ◌++◌, map, suc, sum_by}
use Rattle.nested_pieces.proofs.frame.uncounted.Given as goal

abbrev pub invariant-loop-one : goal.invariant-loop-one
invariant-loop-one g l =
    (l.results.items ++ map (λ c. c.result) l.one-iterator.rest.items ≡ map (λ c. c.result) l.fn.all.items)
    × (l.pieces + sum_by (λ c. c.pieces) l.one-iterator.rest.items ≡ suc (sum_by (λ c. c.pieces) l.fn.all.items))
