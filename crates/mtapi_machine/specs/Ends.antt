-- How a task of a state ended.
use Rattle.std.specs.Prelude.{ℕ, ◌==◌, List, [], ◌∷◌, Option, Some, None, if◌then◌else◌}
use Rattle.mtapi_machine.specs.Names.{TaskEnd, Listed, Task, TaskState, Scheduled, Running, Ended}

-- the end of a task in this state: completed, cancelled or failed
abbrev pub end_in : TaskState → Option TaskEnd
end_in Scheduled = None
end_in (Running w k) = None
end_in (Ended e n) = Some e

-- the end in the record of this handle's task, live or not
unfoldable pub end_at : List (Listed Task) → ℕ → Option TaskEnd
end_at [] h = None
end_at (r ∷ rs) h = if r.handle == h then end_in r.fields.state else end_at rs h
