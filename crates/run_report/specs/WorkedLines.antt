-- Worked lines of the report: what each kind of statement shows, how tasks end, and whose replies are read. Each is found by computing.
use Rattle.std.specs.Prelude.{◌≡◌, ℕ, ◌+◌, ◌==◌, List, [], ◌∷◌, map, codes, pos, negsuc, false, true, Option, Some, None, if◌then◌else◌}
use Rattle.mtapi_values.specs.declared.kinds.Kind.TheVariants as kind
use Rattle.mtapi_values.specs.declared.timeouts.Timeout.TheVariants as timeout
use Rattle.mtapi_values.specs.declared.statuses.MtapiStatus.TheVariants as mtapi
use Rattle.mtapi_values.specs.declared.statuses.MrapiStatus.TheVariants as mrapi
use Rattle.run_report.specs.Names.{TaskEnd, Completed, Cancelled, Failed, Deed, Statement, Workload, Reply, NodeEntry, task_handle, every_core_mask}
use Rattle.history.specs.Histories.{entry}
use Rattle.workload_file.specs.declared.workload.Deed.TheVariants as deed
use Rattle.mtapi_machine.specs.declared.ops.Op.TheVariants as op
use Rattle.mtapi_machine.specs.declared.replies.Reply.TheVariants as reply
use Rattle.run_report.specs.Replies.{Told}
use Rattle.run_report.specs.Calls.{task_lines, call_lines}
use Rattle.run_report.specs.Report.{parts_told}
use Rattle.run_report.specs.Summary.{with_parts, totals_text, no_totals}
use Rattle.run_report.specs.Worked.{statement, using, lines}

-- What each kind of statement shows

-- a statement of each kind
abbrev pub every_deed : List Deed
every_deed =
    deed.Begin
    ∷ deed.Action 1 kind.Add every_core_mask
    ∷ deed.ActionDelete 0
    ∷ deed.ActionEnable 0
    ∷ deed.ActionDisable 0
    ∷ deed.Start 1 [] 0 every_core_mask false None
    ∷ deed.Enqueue 0 [] every_core_mask false None
    ∷ deed.Wait 0 timeout.Infinite
    ∷ deed.Cancel 0
    ∷ deed.Group
    ∷ deed.WaitAll 0 timeout.Infinite
    ∷ deed.WaitAny 0 timeout.Infinite
    ∷ deed.GroupDelete 0
    ∷ deed.Queue 1 1 0 1 false false
    ∷ deed.QueueGet 1
    ∷ deed.QueueEnable 0
    ∷ deed.QueueDisable 0
    ∷ deed.QueueDelete 0
    ∷ deed.Mutex 1 false
    ∷ deed.MutexGet 1
    ∷ deed.MutexDelete 0
    ∷ deed.Lock 0 timeout.Infinite
    ∷ deed.Unlock 0 1
    ∷ deed.Sem 1 1
    ∷ deed.SemGet 1
    ∷ deed.SemDelete 0
    ∷ deed.SemLock 0 timeout.Infinite
    ∷ deed.SemUnlock 0
    ∷ deed.Rwl 1 1
    ∷ deed.RwlGet 1
    ∷ deed.RwlDelete 0
    ∷ deed.RwlLock 0 true timeout.Infinite
    ∷ deed.RwlUnlock 0 true
    ∷ deed.Shmem 1 1
    ∷ deed.ShmemGet 1
    ∷ deed.ShmemDelete 0
    ∷ deed.Attach 0
    ∷ deed.Detach 0
    ∷ deed.Read 0 1
    ∷ deed.Write 0 1 (pos 1) ∷ []

-- each on its line, from this line on, and under the name x
abbrev pub lined : ℕ → List Deed → List Statement
lined line [] = []
lined line (d ∷ ds) = statement line (codes "x") d ∷ lined (line + 1) ds

-- main's part, each statement of which came to this reply
abbrev pub all_answered : Reply → Told
all_answered r = record { name = codes "main"; statements = lined 1 every_deed; replies = map (λ d. r) every_deed }

-- the end of the task with handle 71
abbrev pub end_71 : ℕ → Option TaskEnd
end_71 h = if h == 71 then Some Cancelled else None

-- a status is shown of each statement but `begin` and those that ask for a task; a number of a lock and a read alone, and a given task of
-- a wait for any alone; and the tasks are those that a start and an enqueue ask for
pub record WorkedShown : Type 0 where
  pub mtapi_status : call_lines (all_answered (reply.Mtapi mtapi.ErrParameter))
      ≡ lines (codes "! main 2 MTAPI_ERR_PARAMETER" ∷ codes "! main 3 MTAPI_ERR_PARAMETER" ∷ codes "! main 4 MTAPI_ERR_PARAMETER"
      ∷ codes "! main 5 MTAPI_ERR_PARAMETER" ∷ codes "! main 8 MTAPI_ERR_PARAMETER" ∷ codes "! main 9 MTAPI_ERR_PARAMETER"
      ∷ codes "! main 10 MTAPI_ERR_PARAMETER" ∷ codes "! main 11 MTAPI_ERR_PARAMETER" ∷ codes "! main 12 MTAPI_ERR_PARAMETER"
      ∷ codes "! main 13 MTAPI_ERR_PARAMETER" ∷ codes "! main 14 MTAPI_ERR_PARAMETER" ∷ codes "! main 15 MTAPI_ERR_PARAMETER"
      ∷ codes "! main 16 MTAPI_ERR_PARAMETER" ∷ codes "! main 17 MTAPI_ERR_PARAMETER" ∷ codes "! main 18 MTAPI_ERR_PARAMETER"
      ∷ codes "! main 19 MTAPI_ERR_PARAMETER" ∷ codes "! main 20 MTAPI_ERR_PARAMETER" ∷ codes "! main 21 MTAPI_ERR_PARAMETER"
      ∷ codes "! main 22 MTAPI_ERR_PARAMETER" ∷ codes "! main 23 MTAPI_ERR_PARAMETER" ∷ codes "! main 24 MTAPI_ERR_PARAMETER"
      ∷ codes "! main 25 MTAPI_ERR_PARAMETER" ∷ codes "! main 26 MTAPI_ERR_PARAMETER" ∷ codes "! main 27 MTAPI_ERR_PARAMETER"
      ∷ codes "! main 28 MTAPI_ERR_PARAMETER" ∷ codes "! main 29 MTAPI_ERR_PARAMETER" ∷ codes "! main 30 MTAPI_ERR_PARAMETER"
      ∷ codes "! main 31 MTAPI_ERR_PARAMETER" ∷ codes "! main 32 MTAPI_ERR_PARAMETER" ∷ codes "! main 33 MTAPI_ERR_PARAMETER"
      ∷ codes "! main 34 MTAPI_ERR_PARAMETER" ∷ codes "! main 35 MTAPI_ERR_PARAMETER" ∷ codes "! main 36 MTAPI_ERR_PARAMETER"
      ∷ codes "! main 37 MTAPI_ERR_PARAMETER" ∷ codes "! main 38 MTAPI_ERR_PARAMETER" ∷ codes "! main 39 MTAPI_ERR_PARAMETER"
      ∷ codes "! main 40 MTAPI_ERR_PARAMETER" ∷ [])
  pub mrapi_status : call_lines (all_answered (reply.Mrapi mrapi.ErrSpent))
      ≡ lines (codes "! main 2 MRAPI_ERR_SPENT" ∷ codes "! main 3 MRAPI_ERR_SPENT" ∷ codes "! main 4 MRAPI_ERR_SPENT" ∷ codes "! main 5 MRAPI_ERR_SPENT"
      ∷ codes "! main 8 MRAPI_ERR_SPENT" ∷ codes "! main 9 MRAPI_ERR_SPENT" ∷ codes "! main 10 MRAPI_ERR_SPENT" ∷ codes "! main 11 MRAPI_ERR_SPENT"
      ∷ codes "! main 12 MRAPI_ERR_SPENT" ∷ codes "! main 13 MRAPI_ERR_SPENT" ∷ codes "! main 14 MRAPI_ERR_SPENT" ∷ codes "! main 15 MRAPI_ERR_SPENT"
      ∷ codes "! main 16 MRAPI_ERR_SPENT" ∷ codes "! main 17 MRAPI_ERR_SPENT" ∷ codes "! main 18 MRAPI_ERR_SPENT" ∷ codes "! main 19 MRAPI_ERR_SPENT"
      ∷ codes "! main 20 MRAPI_ERR_SPENT" ∷ codes "! main 21 MRAPI_ERR_SPENT" ∷ codes "! main 22 MRAPI_ERR_SPENT" ∷ codes "! main 23 MRAPI_ERR_SPENT"
      ∷ codes "! main 24 MRAPI_ERR_SPENT" ∷ codes "! main 25 MRAPI_ERR_SPENT" ∷ codes "! main 26 MRAPI_ERR_SPENT" ∷ codes "! main 27 MRAPI_ERR_SPENT"
      ∷ codes "! main 28 MRAPI_ERR_SPENT" ∷ codes "! main 29 MRAPI_ERR_SPENT" ∷ codes "! main 30 MRAPI_ERR_SPENT" ∷ codes "! main 31 MRAPI_ERR_SPENT"
      ∷ codes "! main 32 MRAPI_ERR_SPENT" ∷ codes "! main 33 MRAPI_ERR_SPENT" ∷ codes "! main 34 MRAPI_ERR_SPENT" ∷ codes "! main 35 MRAPI_ERR_SPENT"
      ∷ codes "! main 36 MRAPI_ERR_SPENT" ∷ codes "! main 37 MRAPI_ERR_SPENT" ∷ codes "! main 38 MRAPI_ERR_SPENT" ∷ codes "! main 39 MRAPI_ERR_SPENT"
      ∷ codes "! main 40 MRAPI_ERR_SPENT" ∷ [])
  pub number : call_lines (all_answered (reply.Number (negsuc 8))) ≡ lines (codes "= main 22 -9" ∷ codes "= main 39 -9" ∷ [])
  pub given : call_lines (record { name = codes "c"; statements = lined 1 every_deed; replies = map (λ d. reply.Given (task_handle 5) Cancelled) every_deed })
      ≡ lines (codes "= c 12 " ∷ [])
  pub handle : call_lines (all_answered (reply.Handle 9)) ≡ []
  pub ok : call_lines (all_answered reply.Ok) ≡ []
  pub tasks : task_lines end_71 (all_answered (reply.Handle 71)) ≡ lines (codes "main.x cancelled" ∷ codes "main.x cancelled" ∷ [])
  pub refused : task_lines end_71 (all_answered (reply.Mtapi mtapi.ErrNoCore))
      ≡ lines (codes "main.x refused MTAPI_ERR_NO_CORE" ∷ codes "main.x refused MTAPI_ERR_NO_CORE" ∷ [])

-- How tasks end

-- the ends of five tasks, by their handles
abbrev pub ends_of_five : ℕ → Option TaskEnd
ends_of_five h = if h == 71 then Some (Completed (pos 5 ∷ negsuc 6 ∷ []))
    else (if h == 72 then Some Cancelled
    else (if h == 73 then Some (Failed mtapi.ErrArgSize)
    else (if h == 74 then Some (Completed [])
    else (if h == 76 then Some (Completed (negsuc 0 ∷ pos 4 ∷ negsuc 29 ∷ []))
    else None))))

-- a start
abbrev pub start_asked : Deed
start_asked = deed.Start 1 [] 0 every_core_mask false None

-- a part with a task of each end, one that has none, and two that are refused
abbrev pub every_end : Told
every_end = record {
  name = codes "main";
  statements =
      statement 1 (codes "a") start_asked
      ∷ statement 2 (codes "b") start_asked
      ∷ statement 3 (codes "c") start_asked
      ∷ statement 4 (codes "d") start_asked
      ∷ statement 5 (codes "e") (deed.Enqueue 0 [] every_core_mask false None)
      ∷ statement 6 (codes "f") start_asked
      ∷ statement 7 (codes "g") start_asked
      ∷ statement 8 (codes "h") start_asked ∷ [];
  replies =
      reply.Handle 71
      ∷ reply.Handle 72
      ∷ reply.Handle 73
      ∷ reply.Handle 74
      ∷ reply.Handle 75
      ∷ reply.Handle 76
      ∷ reply.Mtapi mtapi.ErrTaskLimit
      ∷ reply.Mtapi mtapi.ErrQueueDisabled ∷ [];
}

-- a further part with one task, and a group, which is none
abbrev pub one_end : Told
one_end = record {
  name = codes "c";
  statements = statement 12 (codes "a") start_asked ∷ statement 13 (codes "g") deed.Group ∷ [];
  replies = reply.Handle 73 ∷ reply.Handle 72 ∷ [];
}

pub record WorkedTaskEnds : Type 0 where
  pub told : task_lines ends_of_five every_end ≡ lines (codes "main.a completed 5,-7" ∷ codes "main.b cancelled" ∷ codes "main.c error MTAPI_ERR_ARG_SIZE"
      ∷ codes "main.d completed" ∷ codes "main.e " ∷ codes "main.f completed -1,4,-30" ∷ codes "main.g refused MTAPI_ERR_TASK_LIMIT"
      ∷ codes "main.h refused MTAPI_ERR_QUEUE_DISABLED" ∷ [])
  pub further : task_lines ends_of_five one_end ≡ lines (codes "c.a error MTAPI_ERR_ARG_SIZE" ∷ [])
  pub counted : totals_text (with_parts ends_of_five no_totals (every_end ∷ one_end ∷ []))
      ≡ lines (codes "tasks 9 completed 3 cancelled 1 error 2 refused 2 sum -29" ∷ [])
  pub written : totals_text (record { tasks = 21; completed = 22; cancelled = 23; failed = 24; refused = 25; sum = negsuc 25 })
      ≡ lines (codes "tasks 21 completed 22 cancelled 23 error 24 refused 25 sum -26" ∷ [])

-- Whose replies are read

-- two workers, main's part with `begin` or without, and two further callers, of whom the second does nothing
abbrev pub three_parts : List Statement → Workload
three_parts main = record {
  node_line = 0;
  settings = record { workers = 2; tasks = 1024; actions = 64; groups = 128; queues = 16; objects = 16; priorities = 4; generations = 4294967295 };
  parts =
      record { line = 0; name = codes "main"; statements = main }
      ∷ record { line = 11; name = codes "c"; statements = statement 12 (codes "g") deed.Group ∷ using 13 (deed.WaitAny 0 timeout.Infinite) ∷ [] }
      ∷ record { line = 14; name = codes "d"; statements = [] } ∷ [];
}

abbrev pub with_begin : List Statement
with_begin = statement 1 (codes "g") deed.Group ∷ using 2 deed.Begin ∷ []

abbrev pub without_begin : List Statement
without_begin = statement 1 (codes "g") deed.Group ∷ []

-- a journal whose replies all differ, with one look of main's that was answered Pending
abbrev pub journal : List NodeEntry
journal =
    entry 2 op.Initialize (reply.Handle 31)
    ∷ entry 2 op.GroupCreate (reply.Handle 32)
    ∷ entry 0 op.Pick (reply.Handle 33)
    ∷ entry 3 op.Enter (reply.Handle 34)
    ∷ entry 2 op.Release reply.Pending
    ∷ entry 3 op.GroupCreate (reply.Handle 35)
    ∷ entry 2 op.Release (reply.Handle 36)
    ∷ entry 4 op.Enter (reply.Handle 37)
    ∷ entry 3 (op.AnyLook (record { 0 = 35 }) false) (reply.Handle 38)
    ∷ entry 2 op.Close (reply.Handle 39)
    ∷ entry 1 op.Pick (reply.Handle 40)
    ∷ entry 2 op.Final (reply.Handle 41) ∷ []

-- the parts behind main's
abbrev pub further_told : List Told
further_told =
    record {
      name = codes "c";
      statements = statement 12 (codes "g") deed.Group ∷ using 13 (deed.WaitAny 0 timeout.Infinite) ∷ [];
      replies = reply.Handle 35 ∷ reply.Handle 38 ∷ [];
    }
    ∷ record { name = codes "d"; statements = []; replies = [] } ∷ []

pub record WorkedReplies : Type 0 where
  pub begins : parts_told (three_parts with_begin) journal
      ≡ record { name = codes "main"; statements = with_begin; replies = reply.Handle 32 ∷ reply.Handle 36 ∷ [] } ∷ further_told
  pub releases : parts_told (three_parts without_begin) journal
      ≡ record { name = codes "main"; statements = without_begin; replies = reply.Handle 36 ∷ [] } ∷ further_told

-- the lines of the report
pub record WorkedReportLines : Type 0 where
  pub shown : WorkedShown
  pub ends : WorkedTaskEnds
  pub replies : WorkedReplies
