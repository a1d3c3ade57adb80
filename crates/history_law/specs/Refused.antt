-- For each law a list that isn't legal, and that what the law says refuses.
use Rattle.std.specs.Prelude.{Bool, true, false, List, [], ◌∷◌, ◌++◌, None, pos, ℕ}
use Rattle.mtapi_values.specs.declared.kinds.Kind.TheVariants as kind
use Rattle.mtapi_values.specs.declared.handles.ObjectKind.TheVariants as object
use Rattle.history_law.specs.Names.{Two, QueueHandle, Cancelled, Completed, Terms, Op, Reply, Mask, entry, NodeEntry, usual, main_entry, worker, worked_first_handle, next_handle, the_action, every_core_mask, add_task, h1, mutex}
use Rattle.mtapi_values.specs.declared.handles.ShmemHandle.{ShmemHandle}
use Rattle.mtapi_machine.specs.declared.ops.Op.TheVariants as op
use Rattle.mtapi_machine.specs.declared.replies.Reply.TheVariants as reply
use Rattle.mtapi_machine.specs.Laws.{DropsToSame}
use Rattle.mtapi_machine.specs.Worked.{task_handle}
use Rattle.history_law.specs.Ends.{EndsAfterClose}
use Rattle.history_law.specs.Affinity.{ObeysMasks}
use Rattle.history_law.specs.Exclusion.{MutexesKeepTo, SemsKeepTo, RwlsKeepTo}
use Rattle.history_law.specs.Order.{GivenInOrder}
use Rattle.history_law.specs.Ordered.{RunsInOrder}
use Rattle.history_law.specs.Told.{TellsItsEnd}
use Rattle.history_law.specs.Tally.{HoldsTheSum}
use Rattle.history_law.specs.WorkedSum.{two_workers, asks_of_main, gets_both, tallies_begin}
use Rattle.history_law.specs.Reuse.{NeverAgain, NotInBoth}

-- an entry of the second caller, and the mask of the second core
abbrev pub second_entry : Op → Reply → NodeEntry
second_entry o r = entry 2 o r

abbrev pub second_core_mask : Mask
second_core_mask = record { 0 = 2 }

abbrev pub refused_action_op : Op
refused_action_op = op.ActionCreate 1 kind.Add every_core_mask

-- the node is finalized though its task hasn't ended
unfoldable pub too_early : List NodeEntry
too_early = main_entry op.Initialize reply.Ok ∷ main_entry refused_action_op (reply.Handle worked_first_handle)
    ∷ main_entry (add_task 0) (reply.Handle worked_first_handle) ∷ main_entry op.Final reply.Ok
    ∷ []

-- the handle of a task that has left is issued again
unfoldable pub up_to_the_end : List NodeEntry
up_to_the_end = main_entry op.Initialize reply.Ok ∷ main_entry refused_action_op (reply.Handle worked_first_handle)
    ∷ main_entry (add_task 0) (reply.Handle worked_first_handle)
    ∷ main_entry (op.TaskCancel (task_handle worked_first_handle)) reply.Ok ∷ []

abbrev pub leaves : List NodeEntry
leaves = main_entry (op.TaskLook (task_handle worked_first_handle) false) (reply.Ended Cancelled) ∷ []

abbrev pub again : List NodeEntry
again = main_entry (add_task 0) (reply.Handle worked_first_handle) ∷ []

-- an action and a task have one handle, in layout two
abbrev pub one_for_two : List NodeEntry
one_for_two = main_entry refused_action_op (reply.Handle worked_first_handle) ∷ main_entry (add_task 0) (reply.Handle worked_first_handle) ∷ []

-- worker 0 picks by an action that may run on core 1 alone
abbrev pub on_another_core : List NodeEntry
on_another_core =
    main_entry (op.ActionCreate 1 kind.Add second_core_mask) (reply.Handle worked_first_handle)
    ∷ main_entry (add_task 0) (reply.Handle worked_first_handle)
    ∷ worker op.Pick (reply.Picked (task_handle worked_first_handle) the_action kind.Add (pos 2 ∷ pos 3 ∷ []))
    ∷ []

-- two looks tell two ends of one task
abbrev pub cancelled_first : NodeEntry
cancelled_first = main_entry (op.TaskLook (task_handle worked_first_handle) false) (reply.Ended Cancelled)

abbrev pub completed_then : NodeEntry
completed_then = main_entry (op.TaskLook (task_handle worked_first_handle) false) (reply.Ended (Completed []))

abbrev pub two_ends : List NodeEntry
two_ends = cancelled_first ∷ completed_then ∷ []

-- a group gives a task twice
abbrev pub gives_first_twice : NodeEntry
gives_first_twice = main_entry (op.AnyLook (record { 0 = worked_first_handle }) false) (reply.Given (task_handle worked_first_handle) Cancelled)

abbrev pub given_twice : List NodeEntry
given_twice = gives_first_twice ∷ gives_first_twice ∷ []

-- the second task of an ordered queue is picked while the first hasn't run
abbrev pub the_queue : QueueHandle
the_queue = record { 0 = worked_first_handle }

abbrev pub puts_one : Op
puts_one = op.TaskEnqueue the_queue [] every_core_mask false None

unfoldable pub two_put : List NodeEntry
two_put =
    main_entry op.Initialize reply.Ok
    ∷ main_entry refused_action_op (reply.Handle worked_first_handle)
    ∷ main_entry (op.QueueCreate 1 1 0 2 true true) (reply.Handle worked_first_handle)
    ∷ main_entry puts_one (reply.Handle worked_first_handle)
    ∷ main_entry puts_one (reply.Handle next_handle)
    ∷ []

abbrev pub picks_second : List NodeEntry
picks_second = worker op.Pick (reply.Picked (task_handle next_handle) the_action kind.Add []) ∷ []

-- the node is finalized before it is opened
abbrev pub final_first : List NodeEntry
final_first = main_entry op.Final reply.Ok ∷ []

-- two seats hold a semaphore of limit 1
abbrev pub makes_sem : NodeEntry
makes_sem = main_entry (op.SemCreate 1 1) (reply.Handle worked_first_handle)

abbrev pub looks_at_it : Op
looks_at_it = op.SemLook (record { 0 = worked_first_handle }) false

abbrev pub both_hold : List NodeEntry
both_hold = main_entry looks_at_it reply.Ok ∷ second_entry looks_at_it reply.Ok ∷ []

-- two seats hold a mutex
abbrev pub looks_at_mutex : Op
looks_at_mutex = op.MutexLook (record { 0 = worked_first_handle }) false

abbrev pub both_own : List NodeEntry
both_own = main_entry looks_at_mutex (reply.Number (pos 1)) ∷ second_entry looks_at_mutex (reply.Number (pos 1)) ∷ []

-- a caller gets the mutex that a tally has
abbrev pub caller_gets : List NodeEntry
caller_gets = asks_of_main (op.MutexLook (mutex h1) false) (reply.Number (pos 1)) ∷ []

unfoldable pub beside_a_tally : List NodeEntry
beside_a_tally = tallies_begin ++ gets_both 0 h1 ∷ caller_gets

-- a reader holds a reader-writer lock beside its writer
abbrev pub makes_rwl : NodeEntry
makes_rwl = main_entry (op.RwlCreate 1 2) (reply.Handle worked_first_handle)

abbrev pub looks_at_rwl : Bool → Op
looks_at_rwl writer = op.RwlLook (record { 0 = worked_first_handle }) writer false

abbrev pub reads_beside : List NodeEntry
reads_beside = main_entry (looks_at_rwl true) reply.Ok ∷ second_entry (looks_at_rwl false) reply.Ok ∷ []

-- three seats read in a lock of limit 2; one seat reads twice; a seat gives back what another got, or what nobody got; nobody has made it
abbrev pub reads_by : ℕ → NodeEntry
reads_by who = entry who (looks_at_rwl false) reply.Ok

abbrev pub three_read : List NodeEntry
three_read = makes_rwl ∷ reads_by 1 ∷ reads_by 2 ∷ reads_by 3 ∷ []

abbrev pub one_reads_twice : List NodeEntry
one_reads_twice = makes_rwl ∷ reads_by 1 ∷ reads_by 1 ∷ []

abbrev pub gives_back_unread : List NodeEntry
gives_back_unread = makes_rwl ∷ second_entry (op.RwlUnlock (record { 0 = worked_first_handle }) false) reply.Ok ∷ []

abbrev pub reads_none : List NodeEntry
reads_none = reads_by 1 ∷ []

abbrev pub gives_anothers : List NodeEntry
gives_anothers = makes_sem ∷ main_entry looks_at_it reply.Ok ∷ second_entry (op.SemUnlock (record { 0 = worked_first_handle })) reply.Ok ∷ []

abbrev pub gets_none : List NodeEntry
gets_none = main_entry looks_at_it reply.Ok ∷ []

abbrev pub gives_unlocked : List NodeEntry
gives_unlocked = main_entry (op.MutexUnlock (record { 0 = worked_first_handle }) 1) reply.Ok ∷ []

-- a caller writes 9 to a cell, and is told that it has to wait; no tally has run
abbrev pub the_segment : ShmemHandle
the_segment = record { 0 = worked_first_handle }

unfoldable pub written_untold : List NodeEntry
written_untold =
    main_entry op.Initialize reply.Ok
    ∷ main_entry (op.ShmemCreate 1 1) (reply.Handle worked_first_handle)
    ∷ main_entry (op.ShmemAttach the_segment) reply.Ok
    ∷ main_entry (op.ShmemWrite the_segment 0 (pos 9)) reply.Pending
    ∷ []

-- each law refuses its list
pub record LawsRefuse : Type 0 where
  pub one_end : TellsItsEnd usual two_ends worked_first_handle → ⊥
  pub end_after_close : EndsAfterClose usual too_early worked_first_handle → ⊥
  pub no_reuse : NeverAgain usual (up_to_the_end ++ (leaves ++ again)) object.Task worked_first_handle → ⊥
  pub kind : (terms : Terms) → NotInBoth Two terms one_for_two object.Action object.Task worked_first_handle → ⊥
  pub affinity : ObeysMasks on_another_core 2 → ⊥
  pub group_order : GivenInOrder usual given_twice worked_first_handle → ⊥
  pub ordered : RunsInOrder usual (two_put ++ picks_second) worked_first_handle → ⊥
  pub mutexes : MutexesKeepTo usual both_own → ⊥
  pub tally_mutex : MutexesKeepTo two_workers beside_a_tally → ⊥
  pub mutex_each : MutexesKeepTo usual gives_unlocked → ⊥
  pub sems : SemsKeepTo (makes_sem ∷ both_hold) → ⊥
  pub sem_each : SemsKeepTo gives_anothers → ⊥
  pub sem_unmade : SemsKeepTo gets_none → ⊥
  pub rwls : RwlsKeepTo (makes_rwl ∷ reads_beside) → ⊥
  pub rwl_readers : RwlsKeepTo three_read → ⊥
  pub rwl_once : RwlsKeepTo one_reads_twice → ⊥
  pub rwl_each : RwlsKeepTo gives_back_unread → ⊥
  pub rwl_unmade : RwlsKeepTo reads_none → ⊥
  pub tally : HoldsTheSum usual (written_untold ++ final_first) worked_first_handle 0 → ⊥
  pub drop : DropsToSame usual final_first → ⊥
