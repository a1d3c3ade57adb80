-- Worked workloads: two that are settled, with their plain reports, and some that aren't. Each is decided by computing.
use Rattle.std.specs.Prelude.{◌≡◌, ℕ, ◌+◌, ◌-◌, ◌^◌, Bool, true, false, List, [], ◌∷◌, ◌++◌, codes, ℤ, pos, Option, Some, None}
use Rattle.std.specs.List.{flat_map}
use Rattle.settled_runs.specs.Names.{NodeSettings, Kind, Mask, Deed, Statement, Part, Workload, report, summary}
use Rattle.mtapi_values.specs.declared.kinds.Kind.TheVariants as kind
use Rattle.mtapi_values.specs.declared.timeouts.Timeout.TheVariants as timeout
use Rattle.workload_file.specs.declared.workload.Deed.TheVariants as deed
use Rattle.mtapi_values.specs.declared.handles.Layout.TheVariants.{One}
use Rattle.mtapi_machine.specs.Worked.{one_task}
use Rattle.run_report.specs.Worked.{sum_load, full_load, full_run, cancelled_load, cancelled_run}
use Rattle.settled_runs.specs.Plain.{plain_report}
use Rattle.settled_runs.specs.PlainSummary.{plain_summary}
use Rattle.settled_runs.specs.Settled.{is_settled}

-- How a workload is written here

-- the deeds of a part, from this line on, each under one name
abbrev pub lined_part : ℕ → List Deed → List Statement
lined_part line [] = []
lined_part line (d ∷ ds) = record { line = line; name = Some (codes "x"); deed = d } ∷ lined_part (line + 1) ds

-- two workers, room for three tasks, three actions, two groups and two queues, and two priorities
abbrev pub small_settings : NodeSettings
small_settings = record { workers = 2; tasks = 3; actions = 3; groups = 2; queues = 2; objects = 1; priorities = 2; generations = 9 }

abbrev pub main_part : List Deed → Part
main_part ds = record { line = 0; name = codes "main"; statements = lined_part 2 ds }

abbrev pub further_part : List Deed → Part
further_part ds = record { line = 20; name = codes "c"; statements = lined_part 21 ds }

abbrev pub load_of : List Part → Workload
load_of parts = record { node_line = 1; settings = small_settings; parts = parts }

-- main's part alone, and main's part with a further caller's
abbrev pub alone : List Deed → Bool
alone ds = is_settled (load_of (main_part ds ∷ []))

abbrev pub deeds_together : List Deed → List Deed → Bool
deeds_together ds es = is_settled (load_of (main_part ds ∷ further_part es ∷ []))

-- a set of cores, and all of them
abbrev pub set_of_cores : ℕ → Mask
set_of_cores mask = record { 0 = mask }

abbrev pub set_of_all_cores : Mask
set_of_all_cores = set_of_cores (2 ^ 64 - 1)

-- an action of the kind for every core; a task of job 1, in a group, if any; a queue of job 1 for two tasks; a task of a queue; a wait
abbrev pub action_deed : ℕ → Kind → Deed
action_deed job k = deed.Action job k set_of_all_cores

abbrev pub start_in_group : List ℤ → Option ℕ → Deed
start_in_group args group = deed.Start 1 args 0 set_of_all_cores false group

abbrev pub makes_queue_deed : ℕ → Deed
makes_queue_deed id = deed.Queue id 1 1 2 true false

abbrev pub put_deed : ℕ → Deed
put_deed place = deed.Enqueue place [] set_of_all_cores false None

abbrev pub wait : ℕ → Deed
wait place = deed.Wait place timeout.Infinite

abbrev pub wait_all : ℕ → Deed
wait_all place = deed.WaitAll place timeout.Infinite

-- lines, each with its line feed
abbrev pub report_lines : List (List ℕ) → List ℕ
report_lines texts = flat_map (λ text. text ++ 10 ∷ []) texts

-- Settled ones

-- a task that is waited for, and a group with a member that fails, whose second wait finds none
abbrev pub failing : Workload
failing = load_of (main_part (action_deed 1 kind.Triangle ∷ start_in_group (pos 4 ∷ []) None ∷ wait 1 ∷ deed.Group ∷ start_in_group (pos 3 ∷ []) (Some 3)
    ∷ start_in_group [] (Some 3) ∷ wait_all 3
    ∷ wait_all 3 ∷ []) ∷ [])

-- a queue of main's, and a further caller
abbrev pub shared : Workload
shared = load_of (main_part (action_deed 1 kind.Echo ∷ makes_queue_deed 5 ∷ deed.Begin ∷ put_deed 1 ∷ wait 3 ∷ [])
    ∷ further_part (start_in_group (pos 7 ∷ []) None ∷ []) ∷ [])

pub record WorkedSettled : Type 0 where
  pub failing_settled : is_settled failing ≡ true
  pub failing_report : plain_report failing
      ≡ report_lines (codes "main.x completed 10" ∷ codes "main.x completed 6" ∷ codes "main.x error MTAPI_ERR_ARG_SIZE" ∷ codes "! main 8 MTAPI_ERR_ARG_SIZE"
      ∷ [])
  pub failing_summary : plain_summary failing ≡ report_lines (codes "tasks 3 completed 2 cancelled 0 error 1 refused 0 sum 16" ∷ [])
  pub shared_settled : is_settled shared ≡ true
  pub shared_report : plain_report shared ≡ report_lines (codes "main.x completed" ∷ codes "c.x completed 7" ∷ [])
  -- a run of a settled workload, whose report is found from its journal
  pub sum_settled : is_settled sum_load ≡ true
  pub sum_report : report One sum_load one_task ≡ plain_report sum_load
  pub sum_summary : summary One sum_load one_task ≡ plain_summary sum_load
  pub two_actions : alone (action_deed 1 kind.Add ∷ action_deed 1 kind.Add ∷ action_deed 2 kind.Mul ∷ start_in_group [] None ∷ []) ≡ true
  -- a priority above 0, of a task and of a queue
  pub priority_one : alone (action_deed 1 kind.Add ∷ deed.Start 1 [] 1 set_of_all_cores false None ∷ deed.Queue 1 1 1 1 true false
      ∷ deed.Enqueue 2 [] set_of_all_cores false None ∷ []) ≡ true
  -- as many actions, groups, queues and tasks as there is room for, and as many tasks of a queue as its limit
  pub all_room : alone (action_deed 1 kind.Add ∷ action_deed 2 kind.Add ∷ action_deed 3 kind.Add ∷ deed.Group ∷ deed.Group ∷ makes_queue_deed 1
      ∷ makes_queue_deed 2 ∷ put_deed 5 ∷ put_deed 5 ∷ start_in_group [] None
      ∷ []) ≡ true
  -- a wait for a task of a queue, and a wait for each of two
  pub two_waits : alone (action_deed 1 kind.Add ∷ makes_queue_deed 1 ∷ put_deed 1 ∷ start_in_group [] None ∷ wait 3 ∷ wait 2 ∷ []) ≡ true
  pub begin_alone : alone (deed.Begin ∷ action_deed 1 kind.Add ∷ start_in_group [] None ∷ []) ≡ true

-- Others

pub record WorkedUnsettled : Type 0 where
  -- a kind that isn't pure, and a job with two kinds
  pub watch : alone (action_deed 1 kind.Watch ∷ []) ≡ false
  pub tally : alone (action_deed 1 kind.Tally ∷ []) ≡ false
  pub two_kinds : alone (action_deed 1 kind.Add ∷ action_deed 1 kind.Mul ∷ []) ≡ false
  -- where there are further callers: no begin; an action behind it; an action of a further caller
  pub no_begin : deeds_together (action_deed 1 kind.Add ∷ []) [] ≡ false
  pub late_action : deeds_together (action_deed 1 kind.Add ∷ deed.Begin ∷ action_deed 2 kind.Add ∷ []) [] ≡ false
  pub further_action : deeds_together (deed.Begin ∷ []) (action_deed 1 kind.Add ∷ []) ≡ false
  -- a task and a queue with no action of the job before them, and a task without a common core below the number of workers
  pub no_action : alone (start_in_group [] None ∷ action_deed 1 kind.Add ∷ []) ≡ false
  pub no_action_of_queue : alone (makes_queue_deed 1 ∷ action_deed 1 kind.Add ∷ []) ≡ false
  pub no_core : alone (deed.Action 1 kind.Add (set_of_cores 5) ∷ deed.Start 1 [] 0 (set_of_cores 6) false None ∷ []) ≡ false
  pub one_core : alone (deed.Action 1 kind.Add (set_of_cores 7) ∷ deed.Start 1 [] 0 (set_of_cores 6) false None ∷ []) ≡ true
  -- a priority that isn't one of the node, a detached task, two queues of one id, and timeouts
  pub priority : alone (action_deed 1 kind.Add ∷ deed.Start 1 [] 2 set_of_all_cores false None ∷ []) ≡ false
  pub queue_priority : alone (action_deed 1 kind.Add ∷ deed.Queue 1 1 2 1 true false ∷ []) ≡ false
  pub detached : alone (action_deed 1 kind.Add ∷ deed.Start 1 [] 0 set_of_all_cores true None ∷ []) ≡ false
  pub ids : alone (action_deed 1 kind.Add ∷ makes_queue_deed 3 ∷ makes_queue_deed 3 ∷ []) ≡ false
  pub bounded : alone (action_deed 1 kind.Add ∷ start_in_group [] None ∷ deed.Wait 1 (timeout.Looks 5) ∷ []) ≡ false
  pub bounded_all : alone (deed.Group ∷ deed.WaitAll 0 timeout.NoWait ∷ []) ≡ false
  -- a task that is waited for twice, and one of a group
  pub twice : alone (action_deed 1 kind.Add ∷ start_in_group [] None ∷ wait 1 ∷ wait 1 ∷ []) ≡ false
  pub member : alone (action_deed 1 kind.Add ∷ deed.Group ∷ start_in_group [] (Some 1) ∷ wait 2 ∷ []) ≡ false
  -- more tasks, groups, actions and queues than there is room for, and more tasks of a queue than its limit
  pub tasks : alone (action_deed 1 kind.Add ∷ start_in_group [] None ∷ start_in_group [] None ∷ start_in_group [] None ∷ start_in_group [] None ∷ []) ≡ false
  pub tasks_of_all : deeds_together (action_deed 1 kind.Add ∷ deed.Begin ∷ start_in_group [] None ∷ start_in_group [] None ∷ []) (start_in_group [] None
      ∷ start_in_group [] None ∷ []) ≡ false
  pub groups : alone (deed.Group ∷ deed.Group ∷ deed.Group ∷ []) ≡ false
  pub actions : alone (action_deed 1 kind.Add ∷ action_deed 2 kind.Add ∷ action_deed 3 kind.Add ∷ action_deed 4 kind.Add ∷ []) ≡ false
  pub queues : alone (action_deed 1 kind.Add ∷ makes_queue_deed 1 ∷ makes_queue_deed 2 ∷ makes_queue_deed 3 ∷ []) ≡ false
  pub limit : alone (action_deed 1 kind.Add ∷ makes_queue_deed 1 ∷ put_deed 1 ∷ put_deed 1 ∷ put_deed 1 ∷ []) ≡ false
  -- a group with two faults
  pub faults : alone (action_deed 1 kind.Triangle ∷ deed.Group ∷ start_in_group [] (Some 1) ∷ start_in_group (pos 1000001 ∷ []) (Some 1) ∷ []) ≡ false
  pub faults_apart : alone (action_deed 1 kind.Triangle ∷ deed.Group ∷ deed.Group ∷ start_in_group [] (Some 1) ∷ start_in_group (pos 1000001 ∷ []) (Some 2)
      ∷ []) ≡ true
  -- what cancels, deletes, disables or looks for any task, and the resources
  pub cancel : alone (action_deed 1 kind.Add ∷ start_in_group [] None ∷ deed.Cancel 1 ∷ []) ≡ false
  pub wait_any : alone (deed.Group ∷ deed.WaitAny 0 timeout.Infinite ∷ []) ≡ false
  pub mutex : alone (deed.Mutex 1 false ∷ []) ≡ false
  -- two workloads of which the report of a run isn't the plain one: a task that is cancelled, and a second one for which there is no room
  pub cancelled_unsettled : is_settled cancelled_load ≡ false
  pub cancelled_plain : plain_report cancelled_load ≡ report_lines (codes "main.t completed 5" ∷ [])
  pub cancelled_report : report One cancelled_load cancelled_run ≡ report_lines (codes "main.t cancelled" ∷ [])
  pub full_unsettled : is_settled full_load ≡ false
  pub full_plain : plain_report full_load ≡ report_lines (codes "main.t completed 5" ∷ codes "main.u completed 5" ∷ [])
  pub full_report : report One full_load full_run
      ≡ report_lines (codes "main.t completed 5" ∷ codes "main.u refused MTAPI_ERR_TASK_LIMIT" ∷ codes "! main 4 MTAPI_ERR_TASK_INVALID" ∷ [])
