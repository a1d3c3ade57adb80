use Rattle.std.proofs.Common.{sym, refl}
use Rattle.task_core.proofs.CountLemmas.{AreCounted-write}
use Rattle.task_core.proofs.Tasks.request.Goals as goal

pub invariant_of-self : goal.invariant_of-self
invariant_of-self c = AreCounted-write c.self.inside.pool c.args.t.0 c.in-Some.record.now c.request.new.self c.self.inside.starts c.self.inside.ends
    (sym c.in-Some.ensures.value) (rw c.request.ensures refl) c.self.invariant
