-- A worked history: a task that is started, runs and is looked at, on a node that is closed then.
use Rattle.std.specs.Prelude.{◌≡◌, [], ◌∷◌, pos}
use Rattle.history_law.specs.Names.{Completed, usual, worked_first_handle, one_task}
use Rattle.history_law.specs.Accepted.{EndsOnce}

-- its one task ends once, completed with 5
abbrev pub OneTaskEnds : Type 0
OneTaskEnds = (x : EndsOnce usual one_task worked_first_handle) × (x.end ≡ Completed (pos 5 ∷ []))
