use Rattle.task_board.proofs.Names.{sym, begins_in, and_parts}
use Rattle.task_board.proofs.SeenLemmas.{if_some-any}
use Rattle.task_board.proofs.marks.mark_by.Goals as goal

pub returns-clause-right : goal.returns-clause-right
returns-clause-right c actions covers =
    let ready = sym c.if-not-is_ready.ensures in
    c.mark_of.ensures.right actions (begins_in c.args.queues.now.pool c.args.task.0) (and_parts _ _ ready).0 (and_parts _ _ ready).1 covers

pub returns-clause-unstarted : goal.returns-clause-unstarted
returns-clause-unstarted c = if_some-any c.mark_of.result (and_parts _ _ (sym c.if-not-is_ready.ensures)).0
