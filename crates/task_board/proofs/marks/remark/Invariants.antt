use Rattle.task_board.proofs.Names.{◌≡◌, slice_get, seen_in, begins_in, walked, Remarked}
use Rattle.task_board.proofs.marks.remark.Given as goal

abbrev pub invariant-loop-index : goal.invariant-loop-index
invariant-loop-index l =
    (l.next ≡ slice_get (walked l.walk l.waiting l.queues.pool) l._index)
    × Remarked l.actions (begins_in l.queues.pool) (seen_in l.tasks.pool) l.job (walked l.walk l.waiting l.queues.pool) l._index l.fn.ready l.ready
