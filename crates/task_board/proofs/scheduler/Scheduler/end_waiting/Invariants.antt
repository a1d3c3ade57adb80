use Rattle.task_board.proofs.Names.{records_of, ends_by}
use Rattle.task_board.proofs.EndLemmas.{Going}
use Rattle.task_board.proofs.scheduler.Scheduler.end_waiting.Given as goal

abbrev pub invariant-loop-index : goal.invariant-loop-index
invariant-loop-index l = Going l.walk (ends_by l.fn.self.settings.workers (records_of l.fn.self.queues.pool) l.test) l.end l.fn.self l.self l._index l.next
