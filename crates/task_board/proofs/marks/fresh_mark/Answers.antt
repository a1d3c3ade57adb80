use Rattle.task_board.proofs.Names.{Option, sym, subst, Task, Covers, seen, begins_in, IsMarkOf, and_parts}
use Rattle.task_board.proofs.SeenLemmas.{mark-known, if_some-any}
use Rattle.task_board.proofs.marks.fresh_mark.Goals as goal

pub returns-clause-right : goal.returns-clause-right
returns-clause-right c =
    let ready = sym c.if-not-is_ready.ensures in
    subst (λ (o : Option Task). IsMarkOf c.args.actions.now (begins_in c.args.queues.now.pool c.args.task.0) (seen o) c.mark_of.result) c.in-Some.ensures
    (c.mark_of.ensures.right c.args.actions.now (begins_in c.args.queues.now.pool c.args.task.0) (and_parts _ _ ready).0 (and_parts _ _ ready).1
    (subst (λ job. Covers c.args.actions.now job c.cover.result) c.job.ensures c.cover.ensures))

pub returns-clause-known : goal.returns-clause-known
returns-clause-known c n r =
    mark-known c.args.tasks.now.pool c.args.task.0 c.in-Some.record.now n c.mark_of.result (sym c.in-Some.ensures) r
    (if_some-any c.mark_of.result (and_parts _ _ (sym c.if-not-is_ready.ensures)).0) c.mark_of.ensures.priority
