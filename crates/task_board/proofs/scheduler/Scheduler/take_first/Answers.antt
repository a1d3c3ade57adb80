use Rattle.task_board.proofs.Names.{sym, subst, slot_value, SchedulerTable, the_view}
use Rattle.task_board.specs.GroupMoves.{TakesMember}
use Rattle.task_board.proofs.PartLemmas.{ended-first, ended-member, may-free, take-first, takes-made}
use Rattle.task_board.proofs.scheduler.Scheduler.take_first.Goals as goal

pub free-requires : goal.free-requires
free-requires c =
    let f = ended-first (slot_value c.self.inside.groups.pool c.args.g.0) c.in-Some.task.0 (sym c.in-Some.ensures.task) in
    let x = ended-member _ c.args.g.0 c.in-Some.task.0 f.m f.rest c.self.invariant f.live f.is in
    may-free c.self.inside.tasks.pool c.args.g.0 c.in-Some.task.0 x.0 x.1

pub invariant_of-self : goal.invariant_of-self
invariant_of-self c =
    let b = the_view c.self.inside in
    let f = ended-first (slot_value c.self.inside.groups.pool c.args.g.0) c.in-Some.task.0 (sym c.in-Some.ensures.task) in
    let x = ended-member b c.args.g.0 c.in-Some.task.0 f.m f.rest c.self.invariant f.live f.is in
    take-first b c.free.new.self c.take.new.self c.args.g.0 c.in-Some.task.0 x.0 f.m f.rest x.1 c.self.invariant f.live f.is c.free.ensures.new
    c.in-Some.ensures.some

pub returns-in-Some : goal.returns-in-Some
returns-in-Some c =
    let b = the_view c.self.inside in
    let f = ended-first (slot_value c.self.inside.groups.pool c.args.g.0) c.in-Some.task.0 (sym c.in-Some.ensures.task) in
    let x = ended-member b c.args.g.0 c.in-Some.task.0 f.m f.rest c.self.invariant f.live f.is in
    subst (λ (z : SchedulerTable). TakesMember z (record b { tasks = c.free.new.self; groups = c.take.new.self }) c.args.g.0 c.in-Some.task.0 c.free.result)
    c.self.view_is
    (takes-made b c.free.new.self c.take.new.self c.args.g.0 c.in-Some.task.0 x.0 c.free.result f x.1 c.is_kept.ensures c.free.ensures.end c.free.ensures.new
    c.in-Some.ensures.some)
