use Rattle.std.proofs.Common.{[], ◌∷◌}
use Rattle.nested_workers.proofs.worker.act.Given as goal

abbrev pub ghosts-act_since : goal.ghosts-act_since
ghosts-act_since g a = record { began = a.seat ∷ [] }
