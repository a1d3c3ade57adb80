use Rattle.std.proofs.Common.{◌≡◌, [], take, drop}
use Rattle.settled_runs.specs.Plain.{actions_in}
use Rattle.settled_runs.specs.Settled.{are_settled}
use Rattle.settled_workloads.proofs.parts.are_settled.Given as goal

abbrev pub invariant-loop-i : goal.invariant-loop-i
invariant-loop-i l =
    are_settled l.settings (actions_in l.earlier) l.all (take l.i l.all) (drop l.i l.all) ≡ are_settled l.settings (actions_in l.earlier) l.all [] l.all
