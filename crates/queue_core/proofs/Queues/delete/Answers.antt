use Rattle.std.proofs.Common.{◌≡◌, None, Some, refl, sym, ◌∙◌}
use Rattle.handle_pool.specs.Slots.{slot_value}
use Rattle.queue_core.proofs.QueueLemmas.{get-live, get-dead, within, AreQueues-delete, view_deleted}
use Rattle.queue_core.proofs.Queues.delete.Goals as goal

pub clear-requires : goal.clear-requires
clear-requires c =
    let live : slot_value c.self.inside.pool c.args.q.0 ≡ Some c.in-Some.field-0 = sym c.remove.ensures.value ∙ c.in-Some.is in
    rw c.slot_of.ensures (within c.self.inside.pool c.self.inside.tasks c.args.q.0 c.self.invariant c.in-Some.field-0 live)

pub invariant_of-self-2 : goal.invariant_of-self-2
invariant_of-self-2 c =
    let live : slot_value c.self.inside.pool c.args.q.0 ≡ Some c.in-Some.field-0 = sym c.remove.ensures.value ∙ c.in-Some.is in
    rw (c.in-Some.ensures.removed, c.clear.ensures, c.slot_of.ensures)
    (AreQueues-delete c.self.inside.pool c.self.inside.tasks c.args.q.0 c.self.invariant c.in-Some.field-0 live)

pub returns-clause-reply : goal.returns-clause-reply
returns-clause-reply c =
    let live : slot_value c.self.inside.pool c.args.q.0 ≡ Some c.in-Some.field-0 = sym c.remove.ensures.value ∙ c.in-Some.is in
    rw (get-live c.self.inside.pool c.self.inside.tasks c.args.q.0 c.args.self.now c.in-Some.field-0 c.self.view_is live) refl

pub returns-clause-ok : goal.returns-clause-ok
returns-clause-ok c =
    let live : slot_value c.self.inside.pool c.args.q.0 ≡ Some c.in-Some.field-0 = sym c.remove.ensures.value ∙ c.in-Some.is in
    rw (c.in-Some.ensures.removed, c.clear.ensures, c.slot_of.ensures)
    (view_deleted c.self.inside.pool c.self.inside.tasks c.args.q.0 c.self.invariant c.in-Some.field-0 live c.args.self.now c.self.view_is)

pub returns-in_default-clause-reply : goal.returns-in_default-clause-reply
returns-in_default-clause-reply c =
    let dead : slot_value c.self.inside.pool c.args.q.0 ≡ None = sym c.remove.ensures.value ∙ c.in_default.is in
    rw (get-dead c.self.inside.pool c.self.inside.tasks c.args.q.0 c.args.self.now c.self.view_is dead) refl
