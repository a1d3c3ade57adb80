use Rattle.task_board.proofs.Names.{◌≡◌, Some, sym, subst, slot_value, no_members, SchedulerTable}
use Rattle.task_board.proofs.PartLemmas.{deleted-told, delete-scheduler}
use Rattle.task_board.proofs.scheduler.Scheduler.delete_group.Goals as goal

pub invariant_of-self : goal.invariant_of-self
invariant_of-self c =
    let live = subst (λ (b : SchedulerTable). slot_value b.groups.pool c.args.g.0 ≡ Some no_members) (sym c.self.view_is) c.requires.empty in
    delete-scheduler _ c.delete.new.self c.args.g.0 c.self.invariant live
    (deleted-told (slot_value c.self.inside.groups.pool c.args.g.0) no_members c.delete.result live c.delete.ensures.reply c.delete.ensures.ok)
