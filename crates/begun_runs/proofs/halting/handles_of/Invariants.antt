use Rattle.std.proofs.Common.{◌≡◌}
use Rattle.std.specs.Prelude.{take}
use Rattle.begun_runs.specs.Halts.{reply_handles}
use Rattle.begun_runs.proofs.halting.handles_of.Given as goal

abbrev pub invariant-loop-entry : goal.invariant-loop-entry
invariant-loop-entry l = l.handles.items ≡ reply_handles l.who (take l.entry-index l.entries)
