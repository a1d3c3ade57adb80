use Rattle.task_board.proofs.Names.{with_tally, notes_of, tallied}
use Rattle.task_board.proofs.TaskMemberLemmas.{quiet-pool, member-tallied}
use Rattle.task_board.proofs.MoveLemmas.{seen-changed, seen-noted, max-changed}
use Rattle.task_board.proofs.scheduler.Scheduler.note_tally.Goals as goal

pub invariant_of-self : goal.invariant_of-self
invariant_of-self c =
    let pool = c.self.inside.tasks.pool in
    let f = tallied c.args.tally in
    quiet-pool _ _ _ c.note_tally.ensures (seen-changed pool c.args.t.0 f (λ t. seen-noted (with_tally (λ n. notes_of t.args c.args.tally)) t))
    (max-changed pool c.args.t.0 f) (λ k. member-tallied pool c.args.t.0 k c.args.tally) c.self.invariant
