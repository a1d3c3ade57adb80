use Rattle.std.proofs.Common.{List, ◌++◌}
use Rattle.std.specs.List.{AllZip}
use Rattle.chunked_pieces.proofs.chunks.results_of.Given as goal

abbrev pub invariant-loop-item : goal.invariant-loop-item
invariant-loop-item g l =
    (more : List _) → AllZip (λ x d. g.F.Fn.post l.fn.f (x, tt) d) l.item-iterator.rest.items more
    → AllZip (λ x d. g.F.Fn.post l.fn.f (x, tt) d) l.fn.items.items (l.results.items ++ more)
