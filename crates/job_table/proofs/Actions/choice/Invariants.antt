use Rattle.job_table.proofs.Names.{◌≡◌, slice_get, list_at, Passes, runs_job_on, NoneBefore}
use Rattle.job_table.proofs.Actions.choice.Given as goal

abbrev pub invariant-loop-index : goal.invariant-loop-index
invariant-loop-index l =
    (l.next ≡ slice_get (list_at l.self-inside.jobs.lists l.list) l._index)
    × NoneBefore l.self-inside.pool (list_at l.self-inside.jobs.lists l.list) l._index (Passes (runs_job_on l.job l.worker))
