-- Worked lists: a workload with two reports, and one with a deadlock, of which lists that lack one are refused.
use Rattle.std.specs.Prelude.{◌≡◌, ℕ, false, List, [], ◌∷◌, codes, replicate, length}
use Rattle.mtapi_values.specs.declared.handles.Layout.TheVariants.{One}
use Rattle.mtapi_values.specs.declared.timeouts.Timeout.TheVariants as timeout
use Rattle.workload_file.specs.declared.workload.Deed.TheVariants as deed
use Rattle.workload_file.specs.declared.workload.Statement.{Statement}
use Rattle.workload_file.specs.declared.workload.Workload.{Workload}
use Rattle.mtapi_machine.specs.declared.ops.Op.TheVariants as op
use Rattle.mtapi_machine.specs.declared.replies.Reply.TheVariants as reply
use Rattle.mtapi_machine.specs.Legal.{NodeEntry, Legal}
use Rattle.mtapi_machine.specs.Worked.{main_entry, task_handle, worked_first_handle, every_core_mask, add_task, picks_first, finishes_first, closed}
use Rattle.mtapi_values.specs.declared.kinds.Kind.TheVariants as kind
use Rattle.run_report.specs.Report.{report, run_terms}
use Rattle.run_report.specs.Worked.{lines, statement, using, workload, cancelled_load, cancelled_run}
use Rattle.workload_runs.specs.RunOf.{RunOf}
use Rattle.begun_runs.specs.Begun.{Begun, Stuck}
use Rattle.begun_runs.specs.Complete.{HasAllReports, HasAllDeadlocks}

-- no skipped entries beside the others
abbrev pub none_skipped : List NodeEntry → List ℕ
none_skipped es = replicate (length es) 0

-- a task of the workload `cancelled_load` may also complete before it is cancelled
abbrev pub completed_run : List NodeEntry
completed_run =
    main_entry op.Initialize reply.Ok
    ∷ main_entry op.Release reply.Ok
    ∷ main_entry (op.ActionCreate 1 kind.Add every_core_mask) (reply.Handle worked_first_handle)
    ∷ main_entry (add_task 0) (reply.Handle worked_first_handle)
    ∷ picks_first
    ∷ finishes_first
    ∷ main_entry (op.TaskCancel (task_handle worked_first_handle)) reply.Ok
    ∷ closed

abbrev pub cancelled_text : List ℕ
cancelled_text = lines (codes "main.t cancelled" ∷ [])

abbrev pub completed_text : List ℕ
completed_text = lines (codes "main.t completed 5" ∷ [])

-- main takes a semaphore of one unit twice
abbrev pub stuck_statements : List Statement
stuck_statements = statement 1 (codes "s") (deed.Sem 1 1) ∷ using 2 (deed.SemLock 0 timeout.Infinite) ∷ using 3 (deed.SemLock 0 timeout.Infinite) ∷ []

abbrev pub stuck_load : Workload
stuck_load = workload 1024 stuck_statements

abbrev pub stuck_history : List NodeEntry
stuck_history =
    main_entry op.Initialize reply.Ok
    ∷ main_entry op.Release reply.Ok
    ∷ main_entry (op.SemCreate 1 1) (reply.Handle worked_first_handle)
    ∷ main_entry (op.SemLook (record { 0 = worked_first_handle }) false) reply.Ok
    ∷ []

-- beside it a further caller that may still enter
abbrev pub free_load : Workload
free_load = record stuck_load {
  parts = record { line = 0; name = codes "main"; statements = stuck_statements }
      ∷ record { line = 4; name = codes "b"; statements = using 5 (deed.Sem 2 1) ∷ [] } ∷ [];
}

-- main has nothing to make, and a further caller has
abbrev pub early_load : Workload
early_load = record stuck_load {
  parts = record { line = 0; name = codes "main"; statements = [] }
      ∷ record { line = 4; name = codes "b"; statements = using 5 (deed.Sem 2 1) ∷ [] } ∷ [];
}

abbrev pub early_close : List NodeEntry
early_close = main_entry op.Initialize reply.Ok ∷ main_entry op.Release reply.Ok ∷ main_entry op.Close reply.Ok ∷ []

-- a legal journal of a run, with this report
pub record RunsToReport (load : Workload) (es : List NodeEntry) (text : List ℕ) : Type 0 where
  pub legal : Legal (run_terms One load) es
  pub run : RunOf load es (none_skipped es)
  pub reads : report One load es ≡ text

-- a list without one of the two reports isn't complete, whatever else it has; nor is one of deadlocks without the only one, nor one that has
-- a shorter history in its place
pub record WorkedComplete : Type 0 where
  pub cancelled : RunsToReport cancelled_load cancelled_run cancelled_text
  pub completed : RunsToReport cancelled_load completed_run completed_text
  pub lacks_completed : HasAllReports cancelled_load (cancelled_text ∷ []) → ⊥
  pub lacks_cancelled : HasAllReports cancelled_load (completed_text ∷ []) → ⊥
  pub deadlock : Stuck stuck_load One stuck_history (none_skipped stuck_history)
  -- where one caller waits for good and another may still go on, it is none; and no run closes before each caller has made its statements
  pub goes_on : Stuck free_load One stuck_history (none_skipped stuck_history) → ⊥
  pub closes_early : Begun early_load early_close (none_skipped early_close) → ⊥
  pub lacks_deadlock : HasAllDeadlocks stuck_load [] → ⊥
  pub too_early : HasAllDeadlocks stuck_load ((main_entry op.Initialize reply.Ok ∷ []) ∷ []) → ⊥
