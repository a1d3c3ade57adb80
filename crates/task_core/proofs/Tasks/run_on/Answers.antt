use Rattle.std.proofs.Common.{◌≡◌, Some, sym, ap, ◌∙◌}
use Rattle.handle_pool.specs.Slots.{slot_value}
use Rattle.mtapi_objects.specs.Tasks.{is_unstarted}
use Rattle.task_core.specs.Table.{TaskTable, IsLiveAnd}
use Rattle.task_core.proofs.CountLemmas.{AreCounted-write, unended-unstarted}
use Rattle.task_core.proofs.Tasks.run_on.Goals as goal

pub invariant_of-self : goal.invariant_of-self
invariant_of-self c =
    let found : slot_value c.args.self.now.pool c.args.t.0 ≡ Some c.in-Some.record.now =
    ap (λ (t : TaskTable). slot_value t.pool c.args.t.0) (sym c.self.view_is) ∙ sym c.in-Some.ensures.value in
    let unstarted : IsLiveAnd is_unstarted (Some c.in-Some.record.now) = rw found at c.requires in
    let unended = unended-unstarted c.in-Some.record.now unstarted in
    AreCounted-write c.self.inside.pool c.args.t.0 c.in-Some.record.now c.run_on.new.self c.self.inside.starts c.self.inside.ends (sym c.in-Some.ensures.value)
    (rw c.run_on.ensures (sym unended)) c.self.invariant
