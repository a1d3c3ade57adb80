-- Worked rows of the places that ends tell, and of the starts of pieces, with values that all differ. Each is decided by computing.
use Rattle.std.specs.Prelude.{◌≡◌, ℕ, pos, negsuc, true, false, List, [], ◌∷◌, map, Some, None, Ok, Err}
use Rattle.history.specs.Histories.{entry}
use Rattle.mtapi_values.specs.Masks.{in_mask}
use Rattle.mtapi_values.specs.declared.ends.TaskEnd.{TaskEnd}
use Rattle.mtapi_values.specs.declared.ends.TaskEnd.TheVariants as end
use Rattle.mtapi_values.specs.declared.handles.GroupHandle.{GroupHandle}
use Rattle.mtapi_values.specs.declared.handles.TaskHandle.{TaskHandle}
use Rattle.mtapi_values.specs.declared.statuses.MtapiStatus.TheVariants as status
use Rattle.mtapi_machine.specs.declared.ops.Op.TheVariants.{TaskStart}
use Rattle.mtapi_machine.specs.declared.replies.Reply.TheVariants as reply
use Rattle.mtapi_values.specs.declared.statuses.MrapiStatus.TheVariants as resource
use Rattle.workload_runners.specs.Replies.{mtapi_standard, mrapi_standard}
use Rattle.typed_pieces.specs.Runs.{every_worker, starts_of}
use Rattle.typed_pieces.specs.Told.{as_place, place_in_end, first_place, place_alone}

-- these numbers, against the places that they are: none below 0, and none from 2^32 on
pub record WorkedPlaces : Type 0 where
  pub low : map as_place (pos 0 ∷ pos 7 ∷ negsuc 0 ∷ negsuc 7 ∷ []) ≡ (Some 0 ∷ Some 7 ∷ None ∷ None ∷ [])
  pub high : map as_place (pos 4294967295 ∷ pos 4294967296 ∷ []) ≡ (Some 4294967295 ∷ None ∷ [])

-- ends of tasks: with one number, none, two, one that is no place, and without a completion
abbrev pub some_ends : List TaskEnd
some_ends = end.Completed (pos 7 ∷ []) ∷ end.Completed [] ∷ end.Completed (pos 7 ∷ pos 8 ∷ []) ∷ end.Completed (negsuc 0 ∷ [])
    ∷ end.Completed (pos 4294967296 ∷ []) ∷ end.Cancelled ∷ end.Failed status.ErrActionFailed ∷ []

-- The place that an end tells, and what is told of the member of a group that ended first.
pub record WorkedToldEnds (task : TaskHandle) : Type 0 where
  pub places : map place_in_end some_ends ≡ (Some 7 ∷ None ∷ None ∷ None ∷ None ∷ None ∷ None ∷ [])
  pub first : map first_place (reply.Given task (end.Completed (pos 9 ∷ [])) ∷ reply.Given task end.Cancelled ∷ reply.Ok ∷ reply.Handle 9 ∷ reply.Number (pos 9)
      ∷ reply.Ended (end.Completed (pos 9 ∷ [])) ∷ reply.Pending ∷ reply.Mtapi status.GroupCompleted ∷ [])
      ≡ (Some (Some 9) ∷ Some None ∷ None ∷ None ∷ None ∷ None ∷ None ∷ None ∷ [])
  pub alone : map place_alone (Ok (task, end.Completed (pos 3 ∷ [])) ∷ Ok (task, end.Cancelled) ∷ Err status.Timeout ∷ [])
      ≡ (Ok (Some 3) ∷ Ok None ∷ Err status.Timeout ∷ [])

-- the workers that a node may have, the first and the last of them, and the last core
abbrev pub some_workers : List ℕ
some_workers = 0 ∷ 1 ∷ 2 ∷ 3 ∷ 4 ∷ 5 ∷ 6 ∷ 7 ∷ 8 ∷ 9 ∷ 10 ∷ 11 ∷ 12 ∷ 13 ∷ 14 ∷ 15 ∷ 63 ∷ []

-- Pieces are started on every worker, each as a task of job 1 with its place, priority 0 and no detachment, in the group.
pub record WorkedStarts (group : GroupHandle) : Type 0 where
  pub cores : map (λ core. in_mask core every_worker.0) some_workers
      ≡ (true ∷ true ∷ true ∷ true ∷ true ∷ true ∷ true ∷ true ∷ true ∷ true ∷ true ∷ true ∷ true ∷ true ∷ true ∷ true ∷ true ∷ [])
  pub mask : every_worker ≡ record { 0 = 18446744073709551615 }
  pub none : starts_of 3 group 5 [] ≡ []
  pub two : starts_of 3 group 5 (11 ∷ 12 ∷ [])
      ≡ (entry 3 (TaskStart 1 (pos 5 ∷ []) 0 (record { 0 = 18446744073709551615 }) false (Some group)) (reply.Handle 11)
      ∷ entry 3 (TaskStart 1 (pos 6 ∷ []) 0 (record { 0 = 18446744073709551615 }) false (Some group)) (reply.Handle 12) ∷ [])

-- what a call answers once the turns are used up, of either standard, and which statuses say so
pub record WorkedSpent : Type 0 where
  pub tasks : mtapi_standard.spent ≡ status.ErrSpent
  pub resources : mrapi_standard.spent ≡ resource.ErrSpent
  pub says : map mtapi_standard.is_spent (status.ErrSpent ∷ status.Timeout ∷ status.ErrTaskLimit ∷ []) ≡ (true ∷ false ∷ false ∷ [])
  pub resource_says : map mrapi_standard.is_spent (resource.ErrSpent ∷ resource.Timeout ∷ resource.ErrMutexExists ∷ []) ≡ (true ∷ false ∷ false ∷ [])

pub record WorkedTold : Type 0 where
  pub places : WorkedPlaces
  pub ends : (task : TaskHandle) → WorkedToldEnds task
  pub starts : (group : GroupHandle) → WorkedStarts group
  pub spent : WorkedSpent
