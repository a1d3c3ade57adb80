use Rattle.typed_pieces.proofs.Names.{List, AllKept, IsKeptBy}
use Rattle.typed_pieces.proofs.Levels.{Running}
use Rattle.typed_pieces.proofs.level.level_of.Given as goal

abbrev pub invariant-loop-outcome : goal.invariant-loop-outcome
invariant-loop-outcome g l =
    (pieces : List _) → AllKept (IsKeptBy g.P.Split.promise g.P.Split.joined) pieces l.fn.outcomes.items
    → Running g.P.Split.promise g.P.Split.joined pieces l.level.pending.items l.level.parts.items l.outcome-iterator.rest.items
