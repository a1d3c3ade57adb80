use Rattle.std.proofs.Common.{refl}
use Rattle.handle_pool.specs.Slots.{slot_of}
use Rattle.linked_places.specs.Lists.{list_at, without_handle, with_list}
use Rattle.queue_core.specs.Held.{without_task}
use Rattle.queue_core.proofs.QueueLemmas.{unended_from, view_changed, list-changed}
use Rattle.queue_core.proofs.Queues.ended.Goals as goal

pub remove-requires : goal.remove-requires
remove-requires c = rw c.slot_of.ensures
    (unended_from c.self.inside.pool c.self.inside.tasks c.args.q.0 c.args.self.now c.args.t.0 c.self.view_is c.requires).has

pub returns : goal.returns
returns c =
    let one = unended_from c.self.inside.pool c.self.inside.tasks c.args.q.0 c.args.self.now c.args.t.0 c.self.view_is c.requires in
    let list = without_handle c.args.t.0 (list_at c.self.inside.tasks.lists (slot_of c.args.q.0)) in
    rw (c.remove.ensures.new, c.slot_of.ensures)
    (view_changed c.self.inside.pool c.self.inside.tasks c.args.q.0 c.self.invariant one.queue one.live c.args.self.now c.self.inside.pool
    (with_list c.self.inside.tasks (slot_of c.args.q.0) list) (without_task c.args.t.0) c.self.view_is
    (list-changed c.self.inside.pool c.self.inside.tasks c.args.q.0 c.self.invariant one.queue one.live list) refl)
