use Rattle.begun_runs.specs.Begun.{EntriesGoOn}
use Rattle.begun_runs.proofs.begun.add_all.Given as goal

abbrev pub invariant-loop-added : goal.invariant-loop-added
invariant-loop-added l = EntriesGoOn l.fn.list l.list
