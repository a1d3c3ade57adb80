use Rattle.std.proofs.Common.{not, Some, sym, ap, ◌∙◌}
use Rattle.handle_pool.specs.Slots.{slot_value}
use Rattle.mtapi_objects.specs.Tasks.{is_unended}
use Rattle.task_core.specs.Table.{TaskTable, IsLiveAnd}
use Rattle.task_core.proofs.CountLemmas.{AreCounted-give_up, is_ended}
use Rattle.task_core.proofs.Tasks.free.Goals as goal

pub invariant_of-self : goal.invariant_of-self
invariant_of-self c =
    let found = sym c.remove.ensures.value ∙ c.in-Some.is in
    let live = ap (λ (t : TaskTable). slot_value t.pool c.args.t.0) (sym c.self.view_is) ∙ found in
    let over : IsLiveAnd (λ t. not (is_unended t)) (Some c.in-Some.record) = rw live at c.requires in
    rw c.in-Some.ensures.removed (AreCounted-give_up c.self.inside.pool c.args.t.0 c.in-Some.record c.self.inside.starts c.self.inside.ends found
    (is_ended c.in-Some.record over) c.self.invariant)
