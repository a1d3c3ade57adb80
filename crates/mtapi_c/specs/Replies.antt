-- What C is told of a reply.
use Rattle.std.specs.Prelude.{ℕ, ℤ, ◌+◌, pos, Bool, false, List, [], length}
use Rattle.mtapi_values.specs.declared.ends.TaskEnd.{TaskEnd}
use Rattle.mtapi_values.specs.declared.ends.TaskEnd.TheVariants.{Completed, Cancelled, Failed}
use Rattle.mtapi_values.specs.declared.statuses.MtapiStatus.TheVariants.{ErrTaskCancelled}
use Rattle.mtapi_values.specs.Statuses.{mtapi_number, mrapi_number}
use Rattle.mtapi_machine.specs.declared.replies.Reply.{Reply}
use Rattle.mtapi_machine.specs.declared.replies.Reply.TheVariants as said
use Rattle.mtapi_c.specs.declared.picked.PickedTask.{PickedTask}
use Rattle.mtapi_c.specs.Kinds.{number_of_kind}

-- the status of an end
abbrev pub end_status : TaskEnd → ℕ
end_status (Completed numbers) = 0
end_status Cancelled = mtapi_number ErrTaskCancelled
end_status (Failed status) = mtapi_number status

-- the status of a reply: 0 where the call was done
abbrev pub status_of_reply : Reply → ℕ
status_of_reply (said.Mtapi status) = mtapi_number status
status_of_reply (said.Mrapi status) = 200 + mrapi_number status
status_of_reply said.Pending = 100
status_of_reply said.Idle = 101
status_of_reply said.Stop = 102
status_of_reply (said.Ended end) = end_status end
status_of_reply (said.Given task end) = end_status end
status_of_reply _ = 0

-- the handle in a reply, 0 where there is none
abbrev pub handle_in : Reply → ℕ
handle_in (said.Handle handle) = handle
handle_in _ = 0

-- the number in a reply, 0 where there is none
abbrev pub reply_number : Reply → ℤ
reply_number (said.Number number) = number
reply_number _ = pos 0

-- the yes or no in a reply, no where there is none
abbrev pub asked_in : Reply → Bool
asked_in (said.Asked flag) = flag
asked_in _ = false

-- the member of a group in a reply, 0 where there is none
abbrev pub member_in : Reply → ℕ
member_in (said.Given task end) = task.0
member_in _ = 0

-- the results of an end, none where it has none
abbrev pub end_numbers : TaskEnd → List ℤ
end_numbers (Completed numbers) = numbers
end_numbers _ = []

-- the numbers in a reply: a task's results, or its arguments
abbrev pub numbers_in : Reply → List ℤ
numbers_in (said.Ended end) = end_numbers end
numbers_in (said.Given task end) = end_numbers end
numbers_in (said.Picked task action kind numbers) = numbers
numbers_in _ = []

-- the task that a worker took, all 0 where it took none
abbrev pub picked_in : Reply → PickedTask
picked_in (said.Picked task action kind numbers) = record { task = task.0; action = action.0; count = length numbers; kind = number_of_kind kind }
picked_in _ = record { task = 0; action = 0; count = 0; kind = 0 }
