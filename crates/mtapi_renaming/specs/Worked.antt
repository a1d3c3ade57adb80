-- Worked: where histories of a small node stop being legal, two histories that are one but for their handles and limits, what creates
-- are refused for where there is no room, and what last handles tell.
use Rattle.std.specs.Prelude.{◌≡◌, ℕ, true, false, List, [], ◌∷◌, ◌++◌, Some, None, pos}
use Rattle.mtapi_values.specs.declared.kinds.Kind.TheVariants as kinds
use Rattle.mtapi_values.specs.declared.handles.ObjectKind.TheVariants as kind
use Rattle.mtapi_values.specs.declared.handles.Layout.TheVariants.{One, Two}
use Rattle.mtapi_renaming.specs.Names.{Completed, Done, Terms, Op, State, opening, NodeEntry, after}
use Rattle.mtapi_values.specs.declared.statuses.MtapiStatus.TheVariants as status
use Rattle.mtapi_values.specs.declared.statuses.MrapiStatus.TheVariants as cause
use Rattle.history.specs.Histories.{entry}
use Rattle.mtapi_machine.specs.declared.ops.Op.TheVariants as op
use Rattle.mtapi_machine.specs.declared.replies.Reply.TheVariants as reply
use Rattle.mtapi_machine.specs.Tables.{node_of, small, h1, h2, h3, again1, action, task, mutex, action_of, start, put_in, look, finish}
use Rattle.mtapi_renaming.specs.Renaming.{Renaming, renames_nothing, with_pair}
use Rattle.mtapi_renaming.specs.Renamed.{Room, terms_in, renamed}
use Rattle.mtapi_renaming.specs.Kinds.{live_in, is_full_of}
use Rattle.mtapi_renaming.specs.Refusals.{refusal_of}
use Rattle.mtapi_renaming.specs.Lasts.{lasts_of, gone_of}
use Rattle.mtapi_renaming.specs.Verdicts.{first_illegal}

-- the run of an empty workload: main is seat 1, the worker is seat 0
abbrev pub opened_run : List NodeEntry
opened_run = entry 1 op.Initialize reply.Ok ∷ entry 1 op.Release reply.Ok ∷ entry 1 op.Close reply.Ok ∷ []

abbrev pub stopped : List NodeEntry
stopped = entry 0 op.Pick reply.Stop ∷ []

abbrev pub closed_run : List NodeEntry
closed_run = entry 1 op.Final reply.Ok ∷ []

-- a node of layout two with room for two tasks, in which a task is executed and its place is used again
abbrev pub own_terms : Terms
own_terms = record small { layout = Two }

abbrev pub a1 : ℕ
a1 = 4311744512

abbrev pub t1 : ℕ
t1 = 4328521728

abbrev pub t1_again : ℕ
t1_again = 8623489024

-- the history, where the action has this handle, the first task that one and the second task the last one
abbrev pub executed : ℕ → ℕ → ℕ → List NodeEntry
executed a t u =
    entry 1 op.Initialize reply.Ok
    ∷ entry 1 (action_of kinds.Add) (reply.Handle a)
    ∷ entry 1 (start (pos 2 ∷ pos 3 ∷ [])) (reply.Handle t)
    ∷ entry 0 op.Pick (reply.Picked (task t) (action a) kinds.Add (pos 2 ∷ pos 3 ∷ []))
    ∷ entry 0 (finish t kinds.Add (pos 2 ∷ pos 3 ∷ []) (Done (pos 5 ∷ []))) reply.Ok
    ∷ entry 1 (look t) (reply.Ended (Completed (pos 5 ∷ [])))
    ∷ entry 1 (start (pos 4 ∷ [])) (reply.Handle u)
    ∷ []

-- a node of layout one with the greatest limits
abbrev pub roomy : Room
roomy = record { layout = One; tasks = 65536; actions = 1024; groups = 1024; queues = 256; objects = 256; generations = 4294967295 }

-- it gives each of these objects another place
abbrev pub pairs : Renaming
pairs = with_pair kind.Task t1_again h1 (with_pair kind.Task t1 h3 (with_pair kind.Action a1 h2 renames_nothing))

-- where these lists aren't legal any more
pub record WorkedVerdicts : Type 0 where
  pub whole : first_illegal (opening small) (opened_run ++ stopped ++ closed_run) ≡ None
  -- the worker hasn't stopped
  pub unstopped : first_illegal (opening small) (opened_run ++ closed_run) ≡ Some 4
  -- there is no such seat
  pub no_seat : first_illegal (opening small) (entry 3 op.Initialize reply.Ok ∷ []) ≡ Some 1
  -- another reply than the machine's
  pub refused : first_illegal (opening small) (opened_run ++ entry 1 op.GroupCreate (reply.Mtapi status.ErrParameter) ∷ []) ≡ Some 4
  -- a handle that was never issued, one of another kind, and one that was issued before
  pub never_issued : first_illegal (opening own_terms) (executed a1 h1 t1_again) ≡ Some 3
  pub of_another_kind : first_illegal (opening own_terms) (executed t1 t1 t1_again) ≡ Some 2
  pub issued_before : first_illegal (opening own_terms) (executed a1 t1 t1) ≡ Some 7

-- the actions and the tasks that each of the two nodes has then
abbrev pub own_after : State
own_after = after own_terms (executed a1 t1 t1_again)

abbrev pub other_after : State
other_after = after (terms_in roomy own_terms) (executed h2 h3 h1)

-- the two nodes, and the objects of one as the other's
pub record WorkedRenaming : Type 0 where
  pub own : first_illegal (opening own_terms) (executed a1 t1 t1_again) ≡ None
  pub other : first_illegal (opening (terms_in roomy own_terms)) (executed h2 h3 h1) ≡ None
  pub actions : (renamed pairs roomy own_after).actions ≡ other_after.actions
  pub tasks : (renamed pairs roomy own_after).tasks ≡ other_after.tasks

-- a mutex of this id
abbrev pub mutex_of : ℕ → Op
mutex_of id = op.MutexCreate id false

-- a node with room for one mutex, which has this id
abbrev pub one_mutex : Terms
one_mutex = node_of 1 2 1

abbrev pub taken_run : List NodeEntry
taken_run = entry 1 op.Initialize reply.Ok ∷ entry 1 (mutex_of 7) (reply.Handle h1) ∷ []

-- what a create is refused for where its kind has no room
pub record WorkedRefusals : Type 0 where
  -- the node isn't open
  pub unopened : refusal_of (opening one_mutex) 1 (mutex_of 7) ≡ Some (reply.Mrapi cause.ErrNodeNotinit)
  -- there is no room, and yet the id is told of; a worker may not ask at all; and with another id nothing is told before the limit
  pub full : is_full_of kind.Mutex (after one_mutex taken_run) ≡ true
  pub exists : refusal_of (after one_mutex taken_run) 1 (mutex_of 7) ≡ Some (reply.Mrapi cause.ErrMutexExists)
  pub worker : refusal_of (after one_mutex taken_run) 0 (mutex_of 7) ≡ Some (reply.Mrapi cause.ErrParameter)
  pub unrefused : refusal_of (after one_mutex taken_run) 1 (mutex_of 8) ≡ None
  -- there is no such queue; a refusal that stands behind no limit
  pub absent : refusal_of (after one_mutex taken_run) 1 (put_in h1 []) ≡ Some (reply.Mtapi status.ErrQueueInvalid)
  -- so it is in histories
  pub exists_told : first_illegal (opening one_mutex) (taken_run ++ entry 1 (mutex_of 7) (reply.Mrapi cause.ErrMutexExists) ∷ []) ≡ None
  pub exists_first : first_illegal (opening one_mutex) (taken_run ++ entry 1 (mutex_of 7) (reply.Mrapi cause.ErrMutexLimit) ∷ []) ≡ Some 3
  pub limit_told : first_illegal (opening one_mutex) (taken_run ++ entry 1 (mutex_of 8) (reply.Mrapi cause.ErrMutexLimit) ∷ []) ≡ None

-- a node with room for two mutexes, each of whose places is used so often
abbrev pub used_often : ℕ → Terms
used_often generations = record small { settings = record (small.settings) { generations = generations } }

-- two mutexes, of which the first is deleted
abbrev pub first_gone : List NodeEntry
first_gone =
    entry 1 op.Initialize reply.Ok
    ∷ entry 1 (mutex_of 7) (reply.Handle h1)
    ∷ entry 1 (mutex_of 8) (reply.Handle h2)
    ∷ entry 1 (op.MutexDelete (mutex h1)) reply.Ok
    ∷ []

abbrev pub used_once : State
used_once = after (used_often 1) first_gone

abbrev pub used_twice : State
used_twice = after (used_often 2) first_gone

-- whether there is room is told by the last handles
pub record WorkedLasts : Type 0 where
  -- where each place is used once: one handle is gone, the other is live, and there is no room
  pub lasts : lasts_of kind.Mutex used_once ≡ h1 ∷ h2 ∷ []
  pub gone : gone_of kind.Mutex used_once (h1 ∷ h2 ∷ []) ≡ 1
  pub live : live_in kind.Mutex used_once ≡ 1
  pub full : is_full_of kind.Mutex used_once ≡ true
  pub limit : first_illegal (opening (used_often 1)) (first_gone ++ entry 1 (mutex_of 9) (reply.Mrapi cause.ErrMutexLimit) ∷ []) ≡ None
  pub no_handle : first_illegal (opening (used_often 1)) (first_gone ++ entry 1 (mutex_of 9) (reply.Handle again1) ∷ []) ≡ Some 5
  -- where each is used twice: neither handle was the last one, and there is room; the next handle of the first place is its last one
  pub no_lasts : lasts_of kind.Mutex used_twice ≡ []
  pub room : is_full_of kind.Mutex used_twice ≡ false
  pub no_limit : first_illegal (opening (used_often 2)) (first_gone ++ entry 1 (mutex_of 9) (reply.Mrapi cause.ErrMutexLimit) ∷ []) ≡ Some 5
  pub again : lasts_of kind.Mutex (after (used_often 2) (first_gone ++ entry 1 (mutex_of 9) (reply.Handle again1) ∷ [])) ≡ again1 ∷ []
  pub handle : first_illegal (opening (used_often 2)) (first_gone ++ entry 1 (mutex_of 9) (reply.Handle again1) ∷ []) ≡ None
