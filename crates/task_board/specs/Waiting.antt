-- The tasks that haven't begun, in one list, and again in lists by their jobs.
use Rattle.std.specs.Prelude.{◌≡◌, ℕ, ◌≤◌, ◌%◌, List, [], ◌∷◌, ◌++◌, length, slice_set}
use Rattle.linked_places.specs.Lists.{HandleLists, list_at, without_handle}

-- how many places there are, the list of all, alone in a list, and the lists by jobs
pub record WaitingTable : Type 0 where
  pub places : ℕ
  pub lists : List (List ℕ)
  pub by_job : List (List ℕ)

-- the list that has those of a job: that of its number's remainder
abbrev pub job_list : WaitingTable → ℕ → List ℕ
job_list w job = list_at w.by_job (job % length w.by_job)

-- with a task of this job behind the others
abbrev pub with_waiting : WaitingTable → ℕ → ℕ → WaitingTable
with_waiting w job h = record {
  places = w.places;
  lists = slice_set w.lists 0 (list_at w.lists 0 ++ h ∷ []);
  by_job = slice_set w.by_job (job % length w.by_job) (job_list w job ++ h ∷ []);
}

-- without a task of this job
abbrev pub without_waiting : WaitingTable → ℕ → ℕ → WaitingTable
without_waiting w job h = record {
  places = w.places;
  lists = slice_set w.lists 0 (without_handle h (list_at w.lists 0));
  by_job = slice_set w.by_job (job % length w.by_job) (without_handle h (job_list w job));
}

-- there is one list of all, and so many by jobs over as many places
pub record AreSized (all by_job : HandleLists) (jobs : ℕ) : Type 0 where
  pub one : length all.lists ≡ 1
  pub some : 1 ≤ jobs
  pub count : length by_job.lists ≡ jobs
  pub places : by_job.places ≡ all.places
