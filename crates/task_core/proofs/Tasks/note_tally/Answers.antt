use Rattle.std.proofs.Common.{refl}
use Rattle.task_core.specs.Tallies.{tallied}
use Rattle.task_core.proofs.CountLemmas.{AreCounted-changed}
use Rattle.task_core.proofs.Tasks.note_tally.Goals as goal

pub invariant_of-self : goal.invariant_of-self
invariant_of-self c =
    rw c.note_tally.ensures
    (AreCounted-changed c.self.inside.pool c.args.t.0 (tallied c.args.tally) c.self.inside.starts c.self.inside.ends (λ t. refl) c.self.invariant)
