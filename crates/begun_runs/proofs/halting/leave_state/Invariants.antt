use Rattle.std.specs.Prelude.{take}
use Rattle.std.specs.List.{All}
use Rattle.begun_runs.specs.Halts.{LeavesState}
use Rattle.begun_runs.proofs.halting.leave_state.Given as goal

abbrev pub invariant-loop-entry : goal.invariant-loop-entry
invariant-loop-entry l = All (LeavesState l.refused) (take l.entry-index l.looks)
