-- Two whole runs of a node with one worker, from its opening to its end, by which the crates above work their own cases. The tables of
-- worked histories stand in the other files of this name.
use Rattle.std.specs.Prelude.{ℕ, false, List, [], ◌∷◌, None, pos}
use Rattle.mtapi_values.specs.declared.kinds.Kind.TheVariants as kind
use Rattle.mtapi_machine.specs.Names.{Mask, TaskHandle, ActionHandle, Completed, Done, entry, One}
use Rattle.mtapi_machine.specs.declared.terms.Terms.{Terms}
use Rattle.mtapi_machine.specs.declared.ops.Op.{Op}
use Rattle.mtapi_machine.specs.declared.ops.Op.TheVariants as op
use Rattle.mtapi_machine.specs.declared.replies.Reply.{Reply}
use Rattle.mtapi_machine.specs.declared.replies.Reply.TheVariants as reply
use Rattle.mtapi_machine.specs.Legal.{NodeEntry, Legal}

-- one worker and two callers, and the settings that a node has where none is chosen
abbrev pub usual : Terms
usual = record {
  layout = One;
  settings = record { workers = 1; tasks = 1024; actions = 64; groups = 128; queues = 16; objects = 16; priorities = 4; generations = 4294967295 };
  callers = 2;
}

-- entries of the worker and of main
abbrev pub worker : Op → Reply → NodeEntry
worker o r = entry 0 o r

abbrev pub main_entry : Op → Reply → NodeEntry
main_entry o r = entry 1 o r

-- the handles of the first place and of the next one
abbrev pub worked_first_handle : ℕ
worked_first_handle = 4294967296

abbrev pub next_handle : ℕ
next_handle = 4294967297

abbrev pub task_handle : ℕ → TaskHandle
task_handle h = record { 0 = h }

abbrev pub the_action : ActionHandle
the_action = record { 0 = worked_first_handle }

abbrev pub every_core_mask : Mask
every_core_mask = record { 0 = 18446744073709551615 }

-- a task of job 1 with the arguments 2 and 3 and this priority; the worker takes the first task; it says that 2 and 3 make 5
abbrev pub add_task : ℕ → Op
add_task priority = op.TaskStart 1 (pos 2 ∷ pos 3 ∷ []) priority every_core_mask false None

abbrev pub picks_first : NodeEntry
picks_first = worker op.Pick (reply.Picked (task_handle worked_first_handle) the_action kind.Add (pos 2 ∷ pos 3 ∷ []))

abbrev pub finishes_first : NodeEntry
finishes_first = worker (op.Finish (task_handle worked_first_handle) (record { kind = kind.Add; args = pos 2 ∷ pos 3 ∷ []; end = Done (pos 5 ∷ []) })) reply.Ok

-- the last entries of every whole run
abbrev pub closed : List NodeEntry
closed = main_entry op.Close reply.Ok ∷ worker op.Pick reply.Stop ∷ main_entry op.Final reply.Ok ∷ []

-- a node that is asked nothing but to open and to close
unfoldable pub nothing_asked : List NodeEntry
nothing_asked = main_entry op.Initialize reply.Ok ∷ main_entry op.Release reply.Ok ∷ closed

-- one task, from its start to its end
unfoldable pub one_task : List NodeEntry
one_task =
    main_entry op.Initialize reply.Ok
    ∷ main_entry op.Release reply.Ok
    ∷ main_entry (op.ActionCreate 1 kind.Add every_core_mask) (reply.Handle worked_first_handle)
    ∷ main_entry (add_task 0) (reply.Handle worked_first_handle)
    ∷ picks_first
    ∷ finishes_first
    ∷ main_entry (op.TaskLook (task_handle worked_first_handle) false) (reply.Ended (Completed (pos 5 ∷ [])))
    ∷ closed

-- both are legal
pub record WorkedHistories : Type 0 where
  pub nothing_asked_legal : Legal usual nothing_asked
  pub one_task_legal : Legal usual one_task
