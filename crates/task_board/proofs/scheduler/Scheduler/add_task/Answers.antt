use Rattle.task_board.proofs.Names.{refl, ◌<◌, ℕ, Option, sym, ap, subst, arith, QueueHandle, asked_task, queue_number, group_number, seen_in, SchedulerTable, AreRanked, MayJoin, the_view}
use Rattle.task_board.proofs.TaskMemberLemmas.{may-join, no-member}
use Rattle.task_board.proofs.SchedulerLemmas.{nowhere, nowhere-by-job, new-slot, new-ranked, add-scheduler}
use Rattle.task_board.proofs.scheduler.Scheduler.add_task.Goals as goal

pub push-requires-clause-apart : goal.push-requires-clause-apart
push-requires-clause-apart c =
    nowhere-by-job _ c.add.new.self.pool c.in-Ok.task.0 _ c.self.invariant c.in-Ok.ensures.1

pub push-requires-clause-nowhere : goal.push-requires-clause-nowhere
push-requires-clause-nowhere c =
    nowhere _ c.add.new.self.pool c.in-Ok.task.0 _ c.self.invariant c.in-Ok.ensures.1

pub refresh-requires-clause-place : goal.refresh-requires-clause-place
refresh-requires-clause-place c =
    omega (arith, new-slot (the_view c.self.inside) c.add.new.self.pool c.in-Ok.task.0 _ c.in-Ok.ensures.1, c.self.invariant.slots)

pub refresh-requires-clause-ranked : goal.refresh-requires-clause-ranked
refresh-requires-clause-ranked c =
    let less = subst (λ (b : SchedulerTable). c.args.task.priority < b.settings.priorities) (sym c.self.view_is) c.requires.priority in
    subst (λ (n : ℕ). AreRanked (seen_in c.add.new.self.pool) n) (sym c.self.invariant.priorities)
    (new-ranked _ c.add.new.self.pool c.in-Ok.task.0 c.self.inside.tasks.starts (asked_task c.args.task) c.self.invariant c.in-Ok.ensures.1 less)

pub invariant_of-self : goal.invariant_of-self
invariant_of-self c =
    let less = subst (λ (b : SchedulerTable). c.args.task.priority < b.settings.priorities) (sym c.self.view_is) c.requires.priority in
    let may = subst (λ (b : SchedulerTable). MayJoin b.groups.pool c.args.task.detached (group_number c.args.task.group))
    (sym c.self.view_is) c.requires.member in
    add-scheduler _ c.add.new.self c.refresh.new.ready c.push.new.self c.join.new.groups c.in-Ok.task.0 c.self.inside.tasks.starts
    (asked_task c.args.task) c.self.invariant c.in-Ok.ensures.1 refl c.in-Ok.ensures.2 less
    (ap (λ (o : Option QueueHandle). queue_number o) c.requires.no_queue) c.push.ensures c.refresh.ensures c.in-Ok.ensures.3 may c.join.ensures.new

pub join-requires-clause-live : goal.join-requires-clause-live
join-requires-clause-live c =
    may-join c.self.inside.groups.pool c.args.task.detached c.args.task.group
    (subst (λ (b : SchedulerTable). MayJoin b.groups.pool c.args.task.detached (group_number c.args.task.group)) (sym c.self.view_is) c.requires.member)

pub join-requires-clause-slot : goal.join-requires-clause-slot
join-requires-clause-slot c =
    omega (arith, new-slot (the_view c.self.inside) c.add.new.self.pool c.in-Ok.task.0 _ c.in-Ok.ensures.1, c.self.invariant.task_slots)

pub join-requires-clause-alone : goal.join-requires-clause-alone
join-requires-clause-alone c =
    no-member c.self.inside.tasks.pool c.add.new.self.pool c.in-Ok.task.0 _ c.self.inside.groups.pool c.self.inside.tasks.starts c.self.inside.tasks.ends
    c.self.invariant.members c.in-Ok.ensures.1
