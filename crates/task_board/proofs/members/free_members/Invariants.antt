use Rattle.task_board.specs.GroupMoves.{Freed}
use Rattle.task_board.proofs.members.free_members.Given as goal

abbrev pub invariant-loop-index : goal.invariant-loop-index
invariant-loop-index l = Freed l.fn.scheduler l.scheduler l.g.0 l._index l.fault
