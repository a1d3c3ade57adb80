use Rattle.std.proofs.Common.{◌≡◌, ◌++◌, ◌∷◌, [], length, None, Some, refl, sym, ◌∙◌}
use Rattle.handle_pool.specs.Slots.{slot_of, slot_value}
use Rattle.linked_places.specs.Lists.{list_at, with_list}
use Rattle.mtapi_objects.specs.Queues.{put_refusals}
use Rattle.queue_core.specs.Held.{held, with_task}
use Rattle.mtapi_values.specs.Conditions.{first}
use Rattle.queue_core.proofs.QueueLemmas.{get-live, get-dead, within, view_changed, list-changed, nowhere, put_refused, put_full, put_ok}
use Rattle.queue_core.proofs.Queues.put.Goals as goal

pub returns-in_default-clause-reply : goal.returns-in_default-clause-reply
returns-in_default-clause-reply c =
    let dead : slot_value c.self.inside.pool c.args.q.0 ≡ None = sym c.in_default.ensures.value in
    rw (get-dead c.self.inside.pool c.self.inside.tasks c.args.q.0 c.args.self.now c.self.view_is dead) refl

pub returns-in-Some-put_refusal-clause-reply : goal.returns-in-Some-put_refusal-clause-reply
returns-in-Some-put_refusal-clause-reply c =
    let live : slot_value c.self.inside.pool c.args.q.0 ≡ Some c.in-Some.queue.now = sym c.in-Some.ensures.value in
    let refused : first (put_refusals c.in-Some.queue.now) ≡ Some c.in-Some-put_refusal.status = sym c.put_refusal.ensures ∙ c.in-Some-put_refusal.is in
    rw (get-live c.self.inside.pool c.self.inside.tasks c.args.q.0 c.args.self.now c.in-Some.queue.now c.self.view_is live)
    (sym (put_refused (held c.in-Some.queue.now (list_at c.self.inside.tasks.lists (slot_of c.args.q.0))) c.in-Some-put_refusal.status refused))

pub len-requires : goal.len-requires
len-requires c =
    let live : slot_value c.self.inside.pool c.args.q.0 ≡ Some c.in-Some.queue.now = sym c.in-Some.ensures.value in
    rw c.slot_of.ensures (within c.self.inside.pool c.self.inside.tasks c.args.q.0 c.self.invariant c.in-Some.queue.now live)

pub returns-then-len-limit-clause-reply : goal.returns-then-len-limit-clause-reply
returns-then-len-limit-clause-reply c =
    let live : slot_value c.self.inside.pool c.args.q.0 ≡ Some c.in-Some.queue.now = sym c.in-Some.ensures.value in
    let none : first (put_refusals c.in-Some.queue.now) ≡ None = sym c.put_refusal.ensures ∙ c.in_default-put_refusal.is in
    let count : c.len.result ≡ length (list_at c.self.inside.tasks.lists (slot_of c.args.q.0)) = rw (← c.slot_of.ensures) c.len.ensures.count in
    rw (get-live c.self.inside.pool c.self.inside.tasks c.args.q.0 c.args.self.now c.in-Some.queue.now c.self.view_is live)
    (sym (put_full (held c.in-Some.queue.now (list_at c.self.inside.tasks.lists (slot_of c.args.q.0))) none (sym count
    ∙ (c.if-len-limit.true ∙ c.limit.ensures))))

pub push-requires-clause-list : goal.push-requires-clause-list
push-requires-clause-list c =
    let live : slot_value c.self.inside.pool c.args.q.0 ≡ Some c.in-Some.queue.now = sym c.in-Some.ensures.value in
    rw c.slot_of-2.ensures (within c.self.inside.pool c.self.inside.tasks c.args.q.0 c.self.invariant c.in-Some.queue.now live)

pub push-requires-clause-nowhere : goal.push-requires-clause-nowhere
push-requires-clause-nowhere c = nowhere c.self.inside.pool c.self.inside.tasks c.args.self.now
    (slot_of c.args.t.0) c.self.view_is c.self.invariant c.requires.alone

pub returns-clause-reply : goal.returns-clause-reply
returns-clause-reply c =
    let live : slot_value c.self.inside.pool c.args.q.0 ≡ Some c.in-Some.queue.now = sym c.in-Some.ensures.value in
    let none : first (put_refusals c.in-Some.queue.now) ≡ None = sym c.put_refusal.ensures ∙ c.in_default-put_refusal.is in
    let count : c.len.result ≡ length (list_at c.self.inside.tasks.lists (slot_of c.args.q.0)) = rw (← c.slot_of.ensures) c.len.ensures.count in
    rw (get-live c.self.inside.pool c.self.inside.tasks c.args.q.0 c.args.self.now c.in-Some.queue.now c.self.view_is live)
    (sym (put_ok (held c.in-Some.queue.now (list_at c.self.inside.tasks.lists (slot_of c.args.q.0))) none
    (λ same. c.if-len-limit.false (count ∙ (same ∙ sym c.limit.ensures)))))

pub returns-clause-ok : goal.returns-clause-ok
returns-clause-ok c =
    let live : slot_value c.self.inside.pool c.args.q.0 ≡ Some c.in-Some.queue.now = sym c.in-Some.ensures.value in
    let list = (list_at c.self.inside.tasks.lists (slot_of c.args.q.0)) ++ c.args.t.0 ∷ [] in
    rw (c.push.ensures, c.slot_of-2.ensures)
    (view_changed c.self.inside.pool c.self.inside.tasks c.args.q.0 c.self.invariant c.in-Some.queue.now live c.args.self.now c.self.inside.pool
    (with_list c.self.inside.tasks (slot_of c.args.q.0) list) (with_task c.args.t.0) c.self.view_is
    (list-changed c.self.inside.pool c.self.inside.tasks c.args.q.0 c.self.invariant c.in-Some.queue.now live list) refl)
