use Rattle.std.proofs.Common.{sym, refl}
use Rattle.task_core.proofs.CountLemmas.{AreCounted-write}
use Rattle.task_core.proofs.Tasks.look.Goals as goal

pub invariant_of-self-then-is_unended : goal.invariant_of-self-then-is_unended
invariant_of-self-then-is_unended c = AreCounted-write c.self.inside.pool c.args.t.0 c.in-Some.record.now c.wait.new.self c.self.inside.starts
    c.self.inside.ends (sym c.in-Some.ensures.value) (rw c.wait.ensures.new refl) c.self.invariant
