use Rattle.std.proofs.Common.{◌≡◌, None, Some, slice_get, refl, sym, ◌∙◌}
use Rattle.handle_pool.specs.Slots.{slot_of, slot_value}
use Rattle.linked_places.specs.Lists.{list_at}
use Rattle.queue_core.proofs.QueueLemmas.{get-live, get-dead, within}
use Rattle.queue_core.proofs.Queues.head.Goals as goal

pub first-requires : goal.first-requires
first-requires c =
    let live : slot_value c.self.inside.pool c.args.q.0 ≡ Some c.in-Some.field-0.now = sym c.in-Some.ensures.value in
    rw c.slot_of.ensures (within c.self.inside.pool c.self.inside.tasks c.args.q.0 c.self.invariant c.in-Some.field-0.now live)

pub returns-in-Some-first : goal.returns-in-Some-first
returns-in-Some-first c =
    let live : slot_value c.self.inside.pool c.args.q.0 ≡ Some c.in-Some.field-0.now = sym c.in-Some.ensures.value in
    let first : slice_get (list_at c.self.inside.tasks.lists (slot_of c.args.q.0)) 0 ≡ Some c.in-Some-first.task =
    rw (← c.slot_of.ensures) (sym c.first.ensures ∙ c.in-Some-first.is) in
    rw (get-live c.self.inside.pool c.self.inside.tasks c.args.q.0 c.args.self.now c.in-Some.field-0.now c.self.view_is live, first) refl

pub returns-in-None : goal.returns-in-None
returns-in-None c =
    let live : slot_value c.self.inside.pool c.args.q.0 ≡ Some c.in-Some.field-0.now = sym c.in-Some.ensures.value in
    let none : slice_get (list_at c.self.inside.tasks.lists (slot_of c.args.q.0)) 0 ≡ None = rw (← c.slot_of.ensures) (sym c.first.ensures ∙ c.in-None.is) in
    rw (get-live c.self.inside.pool c.self.inside.tasks c.args.q.0 c.args.self.now c.in-Some.field-0.now c.self.view_is live, none) refl

pub returns-in_default : goal.returns-in_default
returns-in_default c =
    let dead : slot_value c.self.inside.pool c.args.q.0 ≡ None = sym c.in_default.ensures.value in
    rw (get-dead c.self.inside.pool c.self.inside.tasks c.args.q.0 c.args.self.now c.self.view_is dead) refl
