-- What a client of pieces is told of their ends.
use Rattle.std.specs.Prelude.{◌^◌, nat_lt, ℕ, ℤ, pos, negsuc, if◌then◌else◌, [], ◌∷◌, Option, Some, None, Result, Ok, Err}
use Rattle.mtapi_values.specs.declared.ends.TaskEnd.{TaskEnd}
use Rattle.mtapi_values.specs.declared.ends.TaskEnd.TheVariants as end
use Rattle.mtapi_values.specs.declared.handles.TaskHandle.{TaskHandle}
use Rattle.mtapi_values.specs.declared.statuses.MtapiStatus.{MtapiStatus}
use Rattle.mtapi_machine.specs.declared.replies.Reply.{Reply}
use Rattle.typed_pieces.specs.declared.refusal.PieceRefusal.{PieceRefusal}
use Rattle.mtapi_machine.specs.declared.replies.Reply.TheVariants as reply

-- this number, if it can be a place
abbrev pub as_place : ℤ → Option ℕ
as_place (pos n) = if nat_lt n (2 ^ 32) then Some n else None
as_place (negsuc n) = None

-- the place that a task's end tells: of an action of kind echo, the one number that the task was given
abbrev pub place_in_end : TaskEnd → Option ℕ
place_in_end (end.Completed (number ∷ [])) = as_place number
place_in_end _ = None

-- what is read of the member of a group that ended first: the place that its end tells
abbrev pub first_place : Reply → Option (Option ℕ)
first_place (reply.Given task e) = Some (place_in_end e)
first_place _ = None

-- the place alone of what a wait for any member of a group gave
abbrev pub place_alone : Result (TaskHandle × TaskEnd) MtapiStatus → Result (Option ℕ) MtapiStatus
place_alone (Ok member) = Ok (place_in_end member.1)
place_alone (Err status) = Err status

-- the same answer with the status alone
abbrev pub with_status_alone : {A : Type 0} → Result A PieceRefusal → Result A MtapiStatus
with_status_alone (Ok a) = Ok a
with_status_alone (Err refused) = Err refused.status
