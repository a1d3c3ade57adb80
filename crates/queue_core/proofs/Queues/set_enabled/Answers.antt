use Rattle.std.proofs.Common.{◌≡◌, rules, refl}
use Rattle.handle_pool.specs.Slots.{with_value}
use Rattle.mtapi_objects.specs.Queues.{opened}
use Rattle.queue_core.specs.Held.{with_opened}
use Rattle.queue_core.proofs.QueueLemmas.{get-live, get-dead, dead_unchanged, view_changed, value-changed}
use Rattle.queue_core.proofs.Queues.set_enabled.Goals as goal
use Rattle.queue_core.proofs.Queues.set_enabled.Goals.{in-Some, in-None}

pub returns-clause-reply : goal.returns-clause-reply
returns-clause-reply c = elim c.match-update.branch [
  | in-Some w ↦ let e = w.in-Some.ensures in
      rw (w.result-is, get-live c.self.inside.pool c.self.inside.tasks c.args.q.0 c.args.self.now e.0 c.self.view_is e.2) refl
  | in-None w ↦ rw (w.result-is, get-dead c.self.inside.pool c.self.inside.tasks c.args.q.0 c.args.self.now c.self.view_is w.in-None.ensures.0) refl
]

pub returns-clause-new : goal.returns-clause-new
returns-clause-new c = elim c.match-update.branch [
  | in-Some w ↦
      let e = w.in-Some.ensures in
      let p = c.self.inside.pool in
      let tasks = c.self.inside.tasks in
      let becomes : e.1 ≡ opened c.args.enabled e.0 = let met = e.4.met in let shows = e.4.shows in let leaves = e.4.leaves in search rules in
      rw (e.5, becomes)
      (view_changed p tasks c.args.q.0 c.self.invariant e.0 e.2 c.args.self.now (with_value p c.args.q.0 (opened c.args.enabled e.0)) tasks
      (with_opened c.args.enabled) c.self.view_is (value-changed p tasks c.args.q.0 c.self.invariant e.0 e.2 (opened c.args.enabled e.0)) refl)
  | in-None w ↦ rw w.in-None.ensures.1 (dead_unchanged c.self.inside.pool c.self.inside.tasks c.args.q.0 c.args.self.now
      (with_opened c.args.enabled) c.self.view_is w.in-None.ensures.0)
]
