use Rattle.task_board.proofs.Names.{Option, sym, ap, subst, ◌∙◌, slot_value, Task, detached_in, SchedulerTable, Leaves, the_view}
use Rattle.task_board.proofs.PartLemmas.{unended-first, unended-member, is-live, leave-first, leaves-made}
use Rattle.task_board.proofs.scheduler.Scheduler.leave_first.Goals as goal

pub detach-requires : goal.detach-requires
detach-requires c =
    let f = unended-first (slot_value c.self.inside.groups.pool c.args.g.0) c.in-Some.task.0 (sym c.in-Some.ensures.task) in
    let x = unended-member _ c.args.g.0 c.in-Some.task.0 f.m f.rest c.self.invariant f.live f.is in
    is-live c.self.inside.tasks.pool c.args.g.0 c.in-Some.task.0 _ x

pub invariant_of-self : goal.invariant_of-self
invariant_of-self c =
    let b = the_view c.self.inside in
    let f = unended-first (slot_value c.self.inside.groups.pool c.args.g.0) c.in-Some.task.0 (sym c.in-Some.ensures.task) in
    let x = unended-member b c.args.g.0 c.in-Some.task.0 f.m f.rest c.self.invariant f.live f.is in
    let pool = c.detach.ensures ∙ ap (λ (o : Option Task). record b.tasks { pool = detached_in b.tasks.pool c.in-Some.task.0 o }) x.live in
    leave-first b c.detach.new.self c.leave.new.self c.args.g.0 c.in-Some.task.0 f.m f.rest x c.self.invariant f.live f.is pool c.in-Some.ensures.some

pub returns-in-Some : goal.returns-in-Some
returns-in-Some c =
    let b = the_view c.self.inside in
    let f = unended-first (slot_value c.self.inside.groups.pool c.args.g.0) c.in-Some.task.0 (sym c.in-Some.ensures.task) in
    let x = unended-member b c.args.g.0 c.in-Some.task.0 f.m f.rest c.self.invariant f.live f.is in
    let pool = c.detach.ensures ∙ ap (λ (o : Option Task). record b.tasks { pool = detached_in b.tasks.pool c.in-Some.task.0 o }) x.live in
    subst (λ (z : SchedulerTable). Leaves z (record b { tasks = c.detach.new.self; groups = c.leave.new.self }) c.args.g.0 c.in-Some.task.0) c.self.view_is
    (leaves-made b c.detach.new.self c.leave.new.self c.args.g.0 c.in-Some.task.0 f x c.is_kept.ensures pool c.in-Some.ensures.some)
