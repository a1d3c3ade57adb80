-- Changes that end no task but one that they name.
use Rattle.std.specs.Prelude.{◌≡◌, ℕ, true, false, Bool, Option, Some}
use Rattle.mtapi_values.specs.declared.ends.TaskEnd.{TaskEnd}
use Rattle.run_report.specs.declared.changes.EndEffect.{EndEffect}
use Rattle.run_report.specs.declared.changes.EndEffect.TheVariants.{DisablesAction, DeletesAction, EndsTask, CancelsTask, MakesQueue, DisablesQueue, DeletesQueue}
use Rattle.run_report.specs.Seen.{SeenRun, put_at}

-- where no queue is disabled, the change ends no task but one that it names, and disables none
abbrev pub names_each_end : EndEffect → Bool
names_each_end (DisablesAction h) = false
names_each_end (DeletesAction h) = false
names_each_end (CancelsTask h) = false
names_each_end (DisablesQueue h) = false
names_each_end (DeletesQueue h) = false
names_each_end (MakesQueue h q) = q.enabled
names_each_end _ = true

-- the ends with the one that the change names
abbrev pub with_named_end : EndEffect → (ℕ → Option TaskEnd) → ℕ → Option TaskEnd
with_named_end (EndsTask h e) ends = put_at h (Some e) ends
with_named_end _ ends = ends

-- these are the ends that are seen
abbrev pub AreEnds : (ℕ → Option TaskEnd) → SeenRun → Type 0
AreEnds ends v = (h : ℕ) → ends h ≡ v.ends h
