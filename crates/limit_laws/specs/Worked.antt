-- Worked lists for the law on the number of tasks.
use Rattle.std.specs.Prelude.{◌≡◌, false, [], ◌∷◌, map, None}
use Rattle.history.specs.Histories.{entry}
use Rattle.mtapi_values.specs.declared.statuses.MtapiStatus.TheVariants.{ErrTaskLimit}
use Rattle.mtapi_machine.specs.declared.ops.Op.TheVariants as op
use Rattle.mtapi_machine.specs.declared.replies.Reply.{Reply}
use Rattle.mtapi_machine.specs.declared.replies.Reply.TheVariants as reply
use Rattle.mtapi_machine.specs.Legal.{NodeEntry}
use Rattle.limit_laws.specs.TaskLimit.{tasks_accepted}

-- a start, an enqueue and a new group, with this answer
abbrev pub start_entry : Reply → NodeEntry
start_entry r = entry 2 (op.TaskStart 1 [] 0 (record { 0 = 1 }) false None) r

abbrev pub enqueue_entry : Reply → NodeEntry
enqueue_entry r = entry 3 (op.TaskEnqueue (record { 0 = 7 }) [] (record { 0 = 1 }) false None) r

abbrev pub new_group_entry : Reply → NodeEntry
new_group_entry r = entry 2 op.GroupCreate r

-- so many tasks were accepted: by a start and by an enqueue that gave a handle, and by nothing else
abbrev pub WorkedLimit : Type 0
WorkedLimit = map tasks_accepted
    ([] ∷ (start_entry (reply.Handle 9) ∷ []) ∷ (start_entry (reply.Mtapi ErrTaskLimit) ∷ [])
    ∷ (start_entry (reply.Handle 9) ∷ enqueue_entry (reply.Handle 8) ∷ [])
    ∷ (new_group_entry (reply.Handle 5) ∷ enqueue_entry reply.Ok ∷ [])
    ∷ (enqueue_entry (reply.Handle 8) ∷ new_group_entry (reply.Handle 5) ∷ start_entry (reply.Handle 9) ∷ start_entry (reply.Handle 3) ∷ [])
    ∷ [])
    ≡ 0 ∷ 1 ∷ 0 ∷ 2 ∷ 0 ∷ 3 ∷ []
