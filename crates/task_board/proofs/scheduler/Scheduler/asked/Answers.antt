use Rattle.task_board.proofs.Names.{after_asked}
use Rattle.task_board.proofs.TaskMemberLemmas.{quiet-pool, member-asked}
use Rattle.task_board.proofs.MoveLemmas.{seen-changed, seen-asked, max-changed}
use Rattle.task_board.proofs.scheduler.Scheduler.asked.Goals as goal

pub invariant_of-self : goal.invariant_of-self
invariant_of-self c =
    let pool = c.self.inside.tasks.pool in
    quiet-pool _ _ _ c.asked.ensures.new (seen-changed pool c.args.t.0 (after_asked c.args.worker) (seen-asked c.args.worker))
    (max-changed pool c.args.t.0 (after_asked c.args.worker)) (member-asked pool c.args.t.0 c.args.worker) c.self.invariant
