use Rattle.std.proofs.Common.{◌<◌, ◌^◌, refl, ap}
use Rattle.task_core.specs.Table.{TaskTable}
use Rattle.task_core.proofs.CountLemmas.{AreCounted-add}
use Rattle.task_core.proofs.Tasks.add.Goals as goal

pub invariant_of-self : goal.invariant_of-self
invariant_of-self c =
    let room : c.self.inside.starts < 2 ^ 63 = rw (ap (λ (t : TaskTable). t.starts) c.self.view_is) c.requires in
    AreCounted-add c.self.inside.pool c.insert.new.self c.in-Ok.handle c.new.result c.self.inside.starts c.self.inside.ends c.in-Ok.ensures.inserts
    (rw c.new.ensures refl) room c.self.invariant
