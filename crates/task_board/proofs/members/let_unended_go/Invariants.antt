use Rattle.task_board.specs.GroupMoves.{Left}
use Rattle.task_board.proofs.members.let_unended_go.Given as goal

abbrev pub invariant-loop-index : goal.invariant-loop-index
invariant-loop-index l = Left l.fn.scheduler l.scheduler l.g.0 l._index
