use Rattle.std.proofs.Common.{◌≡◌, None, Some, refl, sym}
use Rattle.handle_pool.specs.Slots.{slot_value}
use Rattle.queue_core.proofs.QueueLemmas.{get-live, get-dead}
use Rattle.queue_core.proofs.Queues.facts.Goals as goal

pub returns-in-Some : goal.returns-in-Some
returns-in-Some c =
    let live : slot_value c.self.inside.pool c.args.q.0 ≡ Some c.in-Some.queue.now = sym c.in-Some.ensures.value in
    rw (
      get-live c.self.inside.pool c.self.inside.tasks c.args.q.0 c.args.self.now c.in-Some.queue.now c.self.view_is live,
      c.facts.ensures,
      c.len.ensures.count,
      c.slot_of.ensures,
    ) refl

pub returns-in-None : goal.returns-in-None
returns-in-None c =
    let dead : slot_value c.self.inside.pool c.args.q.0 ≡ None = sym c.in-None.ensures.value in
    rw (get-dead c.self.inside.pool c.self.inside.tasks c.args.q.0 c.args.self.now c.self.view_is dead) refl
