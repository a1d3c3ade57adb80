-- Worked reports. Each is found by computing.
use Rattle.std.specs.Prelude.{◌≡◌, ℕ, List, [], ◌∷◌, ◌++◌, codes, pos, false, true, Some, None}
use Rattle.std.specs.List.{flat_map}
use Rattle.mtapi_values.specs.declared.kinds.Kind.TheVariants as kind
use Rattle.mtapi_values.specs.declared.handles.Layout.TheVariants.{One}
use Rattle.mtapi_values.specs.declared.timeouts.Timeout.TheVariants as timeout
use Rattle.mtapi_values.specs.declared.statuses.MtapiStatus.TheVariants as mtapi
use Rattle.mtapi_values.specs.declared.statuses.MrapiStatus.TheVariants as mrapi
use Rattle.run_report.specs.Names.{Completed, Deed, Statement, Workload, NodeEntry, main_entry, task_handle, worked_first_handle, next_handle, every_core_mask, add_task, picks_first, finishes_first, closed, one_task}
use Rattle.workload_file.specs.declared.workload.Deed.TheVariants as deed
use Rattle.mtapi_machine.specs.declared.ops.Op.TheVariants as op
use Rattle.mtapi_machine.specs.declared.replies.Reply.TheVariants as reply
use Rattle.run_report.specs.Replies.{Told}
use Rattle.run_report.specs.Calls.{call_lines}
use Rattle.run_report.specs.Report.{report}

abbrev pub statement : ℕ → List ℕ → Deed → Statement
statement line name deed = record { line = line; name = Some name; deed = deed }

-- a statement that binds no name
abbrev pub using : ℕ → Deed → Statement
using line deed = record { line = line; name = None; deed = deed }

-- main's part alone, on a node with one worker and room for so many tasks
abbrev pub workload : ℕ → List Statement → Workload
workload tasks statements = record {
  node_line = 0;
  settings = record { workers = 1; tasks = tasks; actions = 64; groups = 128; queues = 16; objects = 16; priorities = 4; generations = 4294967295 };
  parts = record { line = 0; name = codes "main"; statements = statements } ∷ [];
}

-- lines, each with its line feed
abbrev pub lines : List (List ℕ) → List ℕ
lines texts = flat_map (λ text. text ++ 10 ∷ []) texts

abbrev pub action_line : Statement
action_line = statement 1 (codes "a") (deed.Action 1 kind.Add every_core_mask)

abbrev pub start_line : ℕ → List ℕ → Statement
start_line line name = statement line name (deed.Start 1 (pos 2 ∷ pos 3 ∷ []) 0 every_core_mask false None)

-- one task, and a wait for it
abbrev pub sum_load : Workload
sum_load = workload 1024 (action_line ∷ start_line 2 (codes "t") ∷ using 3 (deed.Wait 1 timeout.Infinite) ∷ [])

-- room for one task: the second is refused, and a wait for it is answered by a status
abbrev pub full_load : Workload
full_load = workload 1 (action_line ∷ start_line 2 (codes "t") ∷ start_line 3 (codes "u") ∷ using 4 (deed.Wait 2 timeout.Infinite)
    ∷ using 5 (deed.Wait 1 timeout.Infinite) ∷ [])

abbrev pub full_run : List NodeEntry
full_run =
    main_entry op.Initialize reply.Ok
    ∷ main_entry op.Release reply.Ok
    ∷ main_entry (op.ActionCreate 1 kind.Add every_core_mask) (reply.Handle worked_first_handle)
    ∷ main_entry (add_task 0) (reply.Handle worked_first_handle)
    ∷ main_entry (add_task 0) (reply.Mtapi mtapi.ErrTaskLimit)
    ∷ main_entry (op.TaskLook (task_handle 0) false) (reply.Mtapi mtapi.ErrTaskInvalid)
    ∷ picks_first
    ∷ finishes_first
    ∷ main_entry (op.TaskLook (task_handle worked_first_handle) false) (reply.Ended (Completed (pos 5 ∷ [])))
    ∷ closed

-- a task that is cancelled before it begins
abbrev pub cancelled_load : Workload
cancelled_load = workload 1024 (action_line ∷ start_line 2 (codes "t") ∷ using 3 (deed.Cancel 1) ∷ [])

abbrev pub cancelled_run : List NodeEntry
cancelled_run =
    main_entry op.Initialize reply.Ok
    ∷ main_entry op.Release reply.Ok
    ∷ main_entry (op.ActionCreate 1 kind.Add every_core_mask) (reply.Handle worked_first_handle)
    ∷ main_entry (add_task 0) (reply.Handle worked_first_handle)
    ∷ main_entry (op.TaskCancel (task_handle worked_first_handle)) reply.Ok
    ∷ closed

-- the keys of a mutex, and the statuses of two unlocks
abbrev pub lock_replies : Told
lock_replies = record {
  name = codes "main";
  statements =
      statement 1 (codes "m") (deed.Mutex 1 true)
      ∷ using 2 (deed.Lock 0 timeout.Infinite)
      ∷ using 3 (deed.Lock 0 timeout.Infinite)
      ∷ using 4 (deed.Unlock 0 1)
      ∷ using 5 (deed.Unlock 0 2)
      ∷ using 6 (deed.Unlock 0 1)
      ∷ using 7 (deed.Unlock 0 1) ∷ [];
  replies =
      reply.Handle worked_first_handle
      ∷ reply.Number (pos 1)
      ∷ reply.Number (pos 2)
      ∷ reply.Mrapi mrapi.ErrMutexLockorder
      ∷ reply.Ok
      ∷ reply.Ok
      ∷ reply.Mrapi mrapi.ErrMutexNotlocked ∷ [];
}

-- the tasks of a group, each handed out under its name, and a wait that finds none left
abbrev pub handed_out : Told
handed_out = record {
  name = codes "main";
  statements =
      statement 4 (codes "g") deed.Group
      ∷ statement 5 (codes "x") (deed.Enqueue 1 (pos 1 ∷ []) every_core_mask false (Some 0))
      ∷ statement 6 (codes "y") (deed.Enqueue 1 (pos 2 ∷ []) every_core_mask false (Some 0))
      ∷ using 7 (deed.WaitAny 0 timeout.Infinite)
      ∷ using 8 (deed.WaitAny 0 timeout.Infinite)
      ∷ using 9 (deed.WaitAny 0 timeout.Infinite) ∷ [];
  replies =
      reply.Handle worked_first_handle
      ∷ reply.Handle worked_first_handle
      ∷ reply.Handle next_handle
      ∷ reply.Given (task_handle next_handle) (Completed (pos 2 ∷ []))
      ∷ reply.Given (task_handle worked_first_handle) (Completed (pos 1 ∷ []))
      ∷ reply.Mtapi mtapi.GroupCompleted ∷ [];
}

pub record WorkedReports : Type 0 where
  pub sum : report One sum_load one_task ≡ lines (codes "main.t completed 5" ∷ [])
  pub full : report One full_load full_run
      ≡ lines (codes "main.t completed 5" ∷ codes "main.u refused MTAPI_ERR_TASK_LIMIT" ∷ codes "! main 4 MTAPI_ERR_TASK_INVALID" ∷ [])
  pub cancelled : report One cancelled_load cancelled_run ≡ lines (codes "main.t cancelled" ∷ [])
  pub locks_shown : call_lines lock_replies ≡ lines (codes "= main 2 1" ∷ codes "= main 3 2" ∷ codes "! main 4 MRAPI_ERR_MUTEX_LOCKORDER"
      ∷ codes "! main 7 MRAPI_ERR_MUTEX_NOTLOCKED" ∷ [])
  pub handed_out_shown : call_lines handed_out ≡ lines (codes "= main 7 y" ∷ codes "= main 8 x" ∷ codes "! main 9 MTAPI_GROUP_COMPLETED" ∷ [])
