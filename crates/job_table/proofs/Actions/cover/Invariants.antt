use Rattle.job_table.proofs.Names.{◌≡◌, slice_get, list_at, CoversBefore}
use Rattle.job_table.proofs.Actions.cover.Given as goal

abbrev pub invariant-loop-index : goal.invariant-loop-index
invariant-loop-index l =
    (l.next ≡ slice_get (list_at l.self-inside.jobs.lists l.list) l._index)
    × CoversBefore l.self-inside.pool (list_at l.self-inside.jobs.lists l.list) l._index l.job l.cover
