use Rattle.std.proofs.Common.{◌≡◌, Ok, Err, subst}
use Rattle.keyed_pool.specs.declared.InsertError.{InsertError}
use Rattle.keyed_pool.specs.Keyed.{WhyRefused}
use Rattle.mtapi_objects.specs.Queues.{Queue}
use Rattle.mtapi_values.specs.declared.statuses.MtapiStatus.TheVariants.{ErrQueueExists, ErrQueueLimit}
use Rattle.queue_core.specs.Held.{CreatesQueue, table_of}
use Rattle.queue_core.proofs.QueueLemmas.{created, not_created_taken, not_created_full}
use Rattle.queue_core.proofs.Queues.create.Goals as goal
use Rattle.queue_core.proofs.Queues.create.Goals.{in-Ok, in-Err-IdTaken, in-Err-Full}

pub returns : goal.returns
returns c =
    let p = c.self.inside.pool in
    let tasks = c.self.inside.tasks in
    let old = c.args.self.now in
    let new = c.insert.new.self in
    elim c.match-insert.branch [
      | in-Ok w ↦
          let made = w.in-Ok.ensures in
          rw w.result-is (subst (λ (v : Queue). CreatesQueue old v (Ok (record { 0 = w.in-Ok.handle })) (table_of new tasks)) c.new.ensures
          (created p tasks old new w.in-Ok.handle c.new.result c.self.invariant c.self.view_is made.new_id made.room made.inserts))
      | in-Err-IdTaken w ↦
          let refused = w.in-Err-IdTaken.ensures in
          let why = subst (λ (e : InsertError). WhyRefused p (λ (x : Queue). x.id ≡ c.new.result.id) e) w.in-Err-IdTaken.field-0-is refused.refused in
          rw w.result-is (subst (λ (v : Queue). CreatesQueue old v (Err ErrQueueExists) (table_of new tasks)) c.new.ensures
          (not_created_taken p tasks old new c.new.result c.self.view_is why refused.unchanged))
      | in-Err-Full w ↦
          let refused = w.in-Err-Full.ensures in
          let why = subst (λ (e : InsertError). WhyRefused p (λ (x : Queue). x.id ≡ c.new.result.id) e) w.in-Err-Full.field-0-is refused.refused in
          rw w.result-is (subst (λ (v : Queue). CreatesQueue old v (Err ErrQueueLimit) (table_of new tasks)) c.new.ensures
          (not_created_full p tasks old new c.new.result c.self.view_is why refused.unchanged))
    ]
