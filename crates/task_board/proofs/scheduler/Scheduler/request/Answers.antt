use Rattle.task_board.proofs.Names.{with_notes, cancel_requested}
use Rattle.task_board.proofs.TaskMemberLemmas.{quiet-pool, member-requested}
use Rattle.task_board.proofs.MoveLemmas.{seen-changed, seen-noted, max-changed}
use Rattle.task_board.proofs.scheduler.Scheduler.request.Goals as goal

pub invariant_of-self : goal.invariant_of-self
invariant_of-self c =
    let pool = c.self.inside.tasks.pool in
    quiet-pool _ _ _ c.request.ensures (seen-changed pool c.args.t.0 (with_notes cancel_requested) (seen-noted cancel_requested))
    (max-changed pool c.args.t.0 (with_notes cancel_requested)) (member-requested pool c.args.t.0) c.self.invariant
