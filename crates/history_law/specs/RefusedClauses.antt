-- For each further clause of a law a list that it refuses; and where no list of entries breaks a clause, what it says of a list.
use Rattle.std.specs.Prelude.{◌≡◌, ℕ, ◌≤◌, false, List, [], ◌∷◌, ◌++◌, Some, None, pos}
use Rattle.mtapi_values.specs.declared.kinds.Kind.TheVariants as kind
use Rattle.history_law.specs.Names.{Cancelled, Two, listed, Terms, Op, NodeEntry, after, end_at, usual, main_entry, worker, worked_first_handle, next_handle, the_action, every_core_mask, add_task, picks_first}
use Rattle.mtapi_values.specs.declared.handles.ObjectKind.TheVariants as object
use Rattle.mtapi_machine.specs.declared.ops.Op.TheVariants as op
use Rattle.mtapi_machine.specs.declared.replies.Reply.TheVariants as reply
use Rattle.mtapi_machine.specs.Worked.{task_handle}
use Rattle.history_law.specs.Accepted.{EndsOnce}
use Rattle.history_law.specs.Ends.{OneEnd}
use Rattle.history_law.specs.Affinity.{ObeysMasks}
use Rattle.history_law.specs.Order.{GivenInOrder}
use Rattle.history_law.specs.Ordered.{RunsInOrder}
use Rattle.history_law.specs.Reuse.{NotInBoth}
use Rattle.history_law.specs.Refused.{second_core_mask, refused_action_op, too_early, up_to_the_end, two_put, gives_first_twice}

-- worker 0 picks a task that may run on core 1 alone; one that nobody started; and one by an action that nobody made
abbrev pub made_here : NodeEntry
made_here = main_entry refused_action_op (reply.Handle worked_first_handle)

abbrev pub for_another_core : NodeEntry
for_another_core = main_entry (op.TaskStart 1 (pos 2 ∷ pos 3 ∷ []) 0 second_core_mask false None) (reply.Handle worked_first_handle)

abbrev pub started_here : NodeEntry
started_here = main_entry (add_task 0) (reply.Handle worked_first_handle)

abbrev pub on_the_tasks_core : List NodeEntry
on_the_tasks_core = made_here ∷ for_another_core ∷ picks_first ∷ []

abbrev pub picked_unstarted : List NodeEntry
picked_unstarted = made_here ∷ picks_first ∷ []

abbrev pub picked_unmade : List NodeEntry
picked_unmade = started_here ∷ picks_first ∷ []

-- the second member of a group ends first, and is given last
abbrev pub member : Op
member = op.TaskStart 1 [] 0 every_core_mask false (Some (record { 0 = worked_first_handle }))

abbrev pub gives_second : NodeEntry
gives_second = main_entry (op.AnyLook (record { 0 = worked_first_handle }) false) (reply.Given (task_handle next_handle) Cancelled)

unfoldable pub ended_crosswise : List NodeEntry
ended_crosswise =
    main_entry op.Initialize reply.Ok
    ∷ made_here
    ∷ main_entry op.GroupCreate (reply.Handle worked_first_handle)
    ∷ main_entry member (reply.Handle worked_first_handle)
    ∷ main_entry member (reply.Handle next_handle)
    ∷ main_entry (op.TaskCancel (task_handle next_handle)) reply.Ok
    ∷ main_entry (op.TaskCancel (task_handle worked_first_handle)) reply.Ok
    ∷ []

abbrev pub given_crosswise : List NodeEntry
given_crosswise = gives_first_twice ∷ gives_second ∷ []

-- the first task of an ordered queue has ended, and is picked behind the second one
abbrev pub cancels_first : NodeEntry
cancels_first = main_entry (op.TaskCancel (task_handle worked_first_handle)) reply.Ok

abbrev pub picks_next : NodeEntry
picks_next = worker op.Pick (reply.Picked (task_handle next_handle) the_action kind.Add [])

abbrev pub picks_late : NodeEntry
picks_late = worker op.Pick (reply.Picked (task_handle worked_first_handle) the_action kind.Add [])

unfoldable pub picked_late : List NodeEntry
picked_late = two_put ++ cancels_first ∷ picks_next ∷ picks_late ∷ []

pub record ClausesRefuse : Type 0 where
  pub tasks_mask : ObeysMasks on_the_tasks_core 2 → ⊥
  pub unstarted : ObeysMasks picked_unstarted 1 → ⊥
  pub unmade : ObeysMasks picked_unmade 1 → ⊥
  pub crosswise : GivenInOrder usual (ended_crosswise ++ given_crosswise) worked_first_handle → ⊥
  pub late : RunsInOrder usual picked_late worked_first_handle → ⊥
  pub kind_lists : NotInBoth Two usual too_early object.Action object.Task worked_first_handle → ⊥
  -- at most one record; and a task that was cancelled stays so, whatever follows
  pub one_record : (terms : Terms) (es : List NodeEntry) (h : ℕ) → OneEnd terms es h → listed h (after terms es).tasks ≤ 1
  pub stays_ended : (es more : List NodeEntry) → OneEnd usual (up_to_the_end ++ (es ++ more)) worked_first_handle
      → end_at (after usual (up_to_the_end ++ es)).tasks worked_first_handle ≡ Some Cancelled
  -- exactly one record; and its end is the one that it had first
  pub just_one : (terms : Terms) (es : List NodeEntry) (h : ℕ) → EndsOnce terms es h → listed h (after terms es).tasks ≡ 1
  pub first_end : (es : List NodeEntry) (x : EndsOnce usual (up_to_the_end ++ es) worked_first_handle) → x.end ≡ Cancelled
