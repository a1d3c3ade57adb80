use Rattle.task_board.proofs.Names.{refl, ◌<◌, ◌∙◌, ℕ, sym, ap, subst, arith, asked_task, group_number, QueueTable, with_task, seen_in, IsRoomFor, SchedulerTable, AreRanked, records_of, MayJoin, the_view}
use Rattle.task_board.proofs.TaskMemberLemmas.{may-join, no-member}
use Rattle.task_board.proofs.SchedulerLemmas.{nowhere, nowhere-by-job, new-slot, new-ranked, no-task, enqueue-scheduler}
use Rattle.task_board.proofs.RecordLemmas.{records-same}
use Rattle.task_board.proofs.scheduler.Scheduler.enqueue_task.Goals as goal

pub push-requires-clause-apart : goal.push-requires-clause-apart
push-requires-clause-apart c =
    nowhere-by-job _ c.add.new.self.pool c.in-Ok.task.0 _ c.self.invariant c.in-Ok.ensures.1

pub push-requires-clause-nowhere : goal.push-requires-clause-nowhere
push-requires-clause-nowhere c =
    nowhere _ c.add.new.self.pool c.in-Ok.task.0 _ c.self.invariant c.in-Ok.ensures.1

pub put_in-requires-clause-slot : goal.put_in-requires-clause-slot
put_in-requires-clause-slot c =
    omega (arith, new-slot (the_view c.self.inside) c.add.new.self.pool c.in-Ok.task.0 _ c.in-Ok.ensures.1, c.self.invariant.room)

pub put_in-requires-clause-alone : goal.put_in-requires-clause-alone
put_in-requires-clause-alone c =
    no-task _ c.add.new.self.pool c.in-Ok.task.0 _ c.self.invariant c.in-Ok.ensures.1

pub refresh-requires-clause-place : goal.refresh-requires-clause-place
refresh-requires-clause-place c =
    omega (arith, new-slot (the_view c.self.inside) c.add.new.self.pool c.in-Ok.task.0 _ c.in-Ok.ensures.1, c.self.invariant.slots)

pub refresh-requires-clause-ranked : goal.refresh-requires-clause-ranked
refresh-requires-clause-ranked c =
    let r = subst (λ (b : SchedulerTable). IsRoomFor b.queues.pool c.args.queue.0 (asked_task c.args.task)) (sym c.self.view_is) c.requires.queue in
    subst (λ (n : ℕ). AreRanked (seen_in c.add.new.self.pool) n) (sym c.self.invariant.priorities)
    (new-ranked _ c.add.new.self.pool c.in-Ok.task.0 c.self.inside.tasks.starts (asked_task c.args.task) c.self.invariant c.in-Ok.ensures.1
    (subst (λ (n : ℕ). n < c.self.inside.settings.priorities) (sym r.priority) (c.self.invariant.queued.ranked c.args.queue.0 r.x r.live)))

pub invariant_of-self : goal.invariant_of-self
invariant_of-self c =
    let r = subst (λ (b : SchedulerTable). IsRoomFor b.queues.pool c.args.queue.0 (asked_task c.args.task)) (sym c.self.view_is) c.requires.queue in
    let may = subst (λ (b : SchedulerTable). MayJoin b.groups.pool c.args.task.detached (group_number c.args.task.group))
    (sym c.self.view_is) c.requires.member in
    enqueue-scheduler _ c.add.new.self c.put_in.new.queues c.refresh.new.ready c.push.new.self c.join.new.groups c.in-Ok.task.0 c.self.inside.tasks.starts
    c.args.queue.0 (asked_task c.args.task) r.x c.self.invariant c.in-Ok.ensures.1 refl c.in-Ok.ensures.2 r.live r.names r.job r.priority c.push.ensures
    c.put_in.ensures c.refresh.ensures c.in-Ok.ensures.3 may c.join.ensures.new

pub returns-in-Ok-clause-new : goal.returns-in-Ok-clause-new
returns-in-Ok-clause-new c =
    rw (← c.self.view_is) (record {
      settings = refl;
      actions_are = refl;
      tasks_are = refl;
      queues_are = ap (λ (z : QueueTable). records_of z.pool) c.put_in.ensures
          ∙ records-same c.self.inside.queues.pool c.args.queue.0 (with_task c.in-Ok.task.0) (λ x. refl) c.is_kept.ensures;
      groups_are = c.join.ensures.slots;
    })

pub join-requires-clause-live : goal.join-requires-clause-live
join-requires-clause-live c =
    may-join c.self.inside.groups.pool c.args.task.detached c.args.task.group
    (subst (λ (b : SchedulerTable). MayJoin b.groups.pool c.args.task.detached (group_number c.args.task.group)) (sym c.self.view_is) c.requires.member)

pub join-requires-clause-slot : goal.join-requires-clause-slot
join-requires-clause-slot c =
    omega (arith, new-slot (the_view c.self.inside) c.add.new.self.pool c.in-Ok.task.0 _ c.in-Ok.ensures.1, c.self.invariant.task_slots)

pub join-requires-clause-alone : goal.join-requires-clause-alone
join-requires-clause-alone c =
    no-member c.self.inside.tasks.pool c.add.new.self.pool c.in-Ok.task.0 _ c.self.inside.groups.pool c.self.inside.tasks.starts c.self.inside.tasks.ends
    c.self.invariant.members c.in-Ok.ensures.1
