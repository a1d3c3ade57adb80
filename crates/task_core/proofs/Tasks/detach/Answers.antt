use Rattle.std.proofs.Common.{refl}
use Rattle.handle_pool.specs.Slots.{slot_value}
use Rattle.task_core.proofs.CountLemmas.{AreCounted-detach}
use Rattle.task_core.proofs.Tasks.detach.Goals as goal

pub invariant_of-self : goal.invariant_of-self
invariant_of-self c =
    rw c.leave_group.ensures (AreCounted-detach c.self.inside.pool c.args.t.0
    (slot_value c.self.inside.pool c.args.t.0) c.self.inside.starts c.self.inside.ends refl c.self.invariant)
