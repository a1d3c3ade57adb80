-- How the code's records of tallies are seen.
use Rattle.std.specs.Prelude.{List, ℤ, ◌-ℤ◌}
use Rattle.mtapi_objects.specs.Tasks.{Task, TallyNotes, no_tally, with_notes, with_tally, tally_args, number_in, Adds, tally_failed, tally_has, tally_read, tally_written}
use Rattle.task_core.specs.declared.tallies.TallyArgs.{TallyArgs}
use Rattle.task_core.specs.declared.tallies.TallyState.{TallyState}
use Rattle.task_core.specs.declared.tallies.TallyState.TheVariants.{Begun, Locked, Read, Written, Failed}

-- what the arguments name
abbrev pub adds_of : TallyArgs → Adds
adds_of a = record { mutex = a.mutex; segment = a.segment; cell = a.cell; number = a.number }

-- what the tally of a task with these arguments has done
abbrev pub notes_of : List ℤ → TallyState → TallyNotes
notes_of args Begun = no_tally
notes_of args (Locked mutex segment) = tally_has mutex.0 segment.0 no_tally
notes_of args (Read mutex segment kept) = tally_read kept (tally_has mutex.0 segment.0 no_tally)
notes_of args (Written mutex segment sum) = tally_written (tally_read (sum -ℤ number_in (tally_args args)) (tally_has mutex.0 segment.0 no_tally))
notes_of args (Failed status) = tally_failed status no_tally

-- the task whose tally has come so far
abbrev pub tallied : TallyState → Task → Task
tallied y t = with_notes (with_tally (λ n. notes_of t.args y)) t
