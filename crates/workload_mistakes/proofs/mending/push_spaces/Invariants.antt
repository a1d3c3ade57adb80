use Rattle.workload_mistakes.proofs.Names.{◌≡◌, ◌++◌, replicate}
use Rattle.workload_mistakes.proofs.mending.push_spaces.Given as goal

abbrev pub invariant-spaces : goal.invariant-spaces
invariant-spaces l = l.out.items ≡ l.initial.out.items ++ replicate l.counter 32
