use Rattle.std.proofs.Common.{◌≡◌, None, Option}
use Rattle.std.specs.Prelude.{All}
use Rattle.workload_runners.specs.declared.statements.Stop.{Stop}
use Rattle.workload_runners.proofs.run.first_stop.Given as goal

abbrev pub invariant-loop-stop : goal.invariant-loop-stop
invariant-loop-stop l = All (λ (s : Option Stop). s ≡ None) l.stop-iterator.rest.items → All (λ (s : Option Stop). s ≡ None) l.fn.stops.items
