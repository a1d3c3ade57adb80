use Rattle.task_board.proofs.Names.{◌≡◌, ℕ, Option, inl, sym, ap, subst, ◌∙◌, slice_set, Task, Covers, seen, begins_in, IsMarkOf}
use Rattle.task_board.proofs.SeenLemmas.{mark-known, seen-as}
use Rattle.task_board.proofs.marks.refresh_for.Goals as goal

pub put_mark-requires-clause-known : goal.put_mark-requires-clause-known
put_mark-requires-clause-known c = mark-known c.args.tasks.now.pool c.args.task.0 c.in-Some.record.now c.args.ready.now.priorities c.mark_by.result
    (sym c.in-Some.ensures) c.requires.ranked c.mark_by.ensures.unstarted c.mark_by.ensures.priority

pub returns-in-Some : goal.returns-in-Some
returns-in-Some c actions covers =
    let t = c.in-Some.record.now in
    let job : t.job ≡ c.args.job = sym c.job.ensures ∙ c.if-job.true in
    inl (
      (λ s e. (seen-as t t.state s (ap seen c.in-Some.ensures ∙ e)).job ∙ job),
      record {
        mark = c.mark_by.result;
        right = subst (λ (o : Option Task). IsMarkOf actions (begins_in c.args.queues.now.pool c.args.task.0) (seen o) c.mark_by.result) c.in-Some.ensures
            (c.mark_by.ensures.right actions (subst (λ (j : ℕ). Covers actions j c.args.cover) (sym job) covers));
        now = subst (λ (place : ℕ). c.put_mark.new.ready
            ≡ record c.args.ready.now { marks = slice_set c.args.ready.now.marks place c.mark_by.result }) c.slot_of.ensures c.put_mark.ensures;
      },
    )
