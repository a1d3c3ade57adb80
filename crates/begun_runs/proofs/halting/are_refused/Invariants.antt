use Rattle.std.specs.Prelude.{take}
use Rattle.std.specs.List.{All}
use Rattle.begun_runs.specs.Halts.{IsProbeRefusal}
use Rattle.begun_runs.proofs.halting.are_refused.Given as goal

abbrev pub invariant-loop-entry : goal.invariant-loop-entry
invariant-loop-entry l = All (IsProbeRefusal l.main) (take l.entry-index l.refused)
