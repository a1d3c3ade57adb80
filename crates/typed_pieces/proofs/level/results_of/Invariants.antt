use Rattle.typed_pieces.proofs.Names.{List, AllKept, Waits}
use Rattle.typed_pieces.proofs.Levels.{Joining}
use Rattle.typed_pieces.proofs.level.results_of.Given as goal

abbrev pub invariant-loop-pending : goal.invariant-loop-pending
invariant-loop-pending g l =
    (pieces parts : List _) → Waits g.P.Split.promise g.P.Split.joined pieces l.fn.level.items parts → AllKept g.P.Split.promise parts l.fn.results.items
    → Joining g.P.Split.promise g.P.Split.joined pieces l.out.items l.pending-iterator.rest.items l.left.items
