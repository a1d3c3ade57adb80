-- Worked rows of a board: the numbers by which it says how tasks ended, what a seat hears, and what seats that come back have told, with
-- values that all differ. Each is decided by computing.
use Rattle.std.specs.Prelude.{◌≡◌, ℕ, false, [], ◌∷◌, map, Some, None, pos}
use Rattle.atomic_table.specs.Seated.{TableId}
use Rattle.mtapi_values.specs.declared.statuses.MtapiStatus.TheVariants.{ErrActionFailed}
use Rattle.mtapi_values.specs.declared.handles.TaskHandle.{TaskHandle}
use Rattle.mtapi_values.specs.declared.ends.TaskEnd.TheVariants as end
use Rattle.mtapi_machine.specs.declared.ops.Op.TheVariants as op
use Rattle.mtapi_machine.specs.declared.replies.Reply.TheVariants as reply
use Rattle.mtapi_machine.specs.Worked.{finishes_first, worked_first_handle, task_handle}
use Rattle.peek_board.specs.declared.classes.EndClass.TheVariants.{Completed, Cancelled, Error}
use Rattle.peek_board.specs.declared.classes.Peek.TheVariants.{Ended, NotYet, Gone, Foreign}
use Rattle.peek_board.specs.declared.views.SeatLists.{SeatLists}
use Rattle.peek_board.specs.Numbers.{class_of_end, class_number, class_of, generation_in_two, slot_in_two, OnBoard, number_of_pair, peek_of}
use Rattle.peek_board.specs.Rule.{part_of, one_less, one_new, together, heard_of, telling, loading, seats_in}
use Rattle.peek_board.specs.Seats.{BoardSeatView, JoinedView, ShowsEnd, joined_of, with_seat}
use Rattle.peek_board.specs.Marks.{CellSeat, HasEndedSo, TellsEnd}

-- the task in slot 7, of generation 5: its handle is 5 * 2 ^ 32 + 2 * 2 ^ 24 + 7; and those of a group there, and of generation 0
abbrev pub in_slot_7 : ℕ
in_slot_7 = 21508390919

abbrev pub group_there : ℕ
group_there = 21525168135

abbrev pub of_no_generation : ℕ
of_no_generation = 33554439

abbrev pub here : TaskHandle
here = record { 0 = in_slot_7 }

-- the task in slot 3, of generation 6
abbrev pub other : TaskHandle
other = record { 0 = 25803358211 }

pub record WorkedClasses : Type 0 where
  pub of_ends : map class_of_end (end.Completed (pos 4 ∷ []) ∷ end.Cancelled ∷ end.Failed ErrActionFailed ∷ []) ≡ (Completed ∷ Cancelled ∷ Error ∷ [])
  pub numbers : map class_number (Completed ∷ Cancelled ∷ Error ∷ []) ≡ (1 ∷ 2 ∷ 3 ∷ [])
  pub classes : map class_of (0 ∷ 1 ∷ 2 ∷ 3 ∷ 4 ∷ []) ≡ (None ∷ Some Completed ∷ Some Cancelled ∷ Some Error ∷ None ∷ [])
  pub generation : generation_in_two in_slot_7 ≡ 5
  pub slot : slot_in_two in_slot_7 ≡ 7
  pub pairs : map number_of_pair ((here, Completed) ∷ (here, Cancelled) ∷ (here, Error) ∷ (other, Cancelled) ∷ []) ≡ (21 ∷ 22 ∷ 23 ∷ 26 ∷ [])
  -- words of nothing, of an earlier task, of no class, of each class, and of a later task
  pub peeks : map (peek_of in_slot_7) (0 ∷ 18 ∷ 20 ∷ 21 ∷ 22 ∷ 23 ∷ 24 ∷ 26 ∷ [])
      ≡ (NotYet ∷ NotYet ∷ NotYet ∷ Ended Completed ∷ Ended Cancelled ∷ Ended Error ∷ Gone ∷ Gone ∷ [])
  pub shown : (ShowsEnd (Ended Error) × ShowsEnd Gone) × ((ShowsEnd NotYet → ⊥) × (ShowsEnd Foreign → ⊥))
  -- a board of 8 slots has the task, one of 7 doesn't, nor is the group's handle or the one of generation 0 on it
  pub on : OnBoard 8 in_slot_7
  pub no_slot : OnBoard 7 in_slot_7 → ⊥
  pub no_task : OnBoard 8 group_there → ⊥
  pub unissued : OnBoard 8 of_no_generation → ⊥

-- what a seat and its token know
abbrev pub knows : SeatLists
knows = record { count = 3; told = (here, Completed) ∷ []; heard = (other, Error) ∷ []; loads = (3, 27) ∷ [] }

abbrev pub also : SeatLists
also = record { count = 2; told = (other, Cancelled) ∷ []; heard = (here, Completed) ∷ []; loads = (7, 21) ∷ [] }

pub record WorkedTokens : Type 0 where
  pub part : part_of 4 ≡ record { count = 4; told = []; heard = []; loads = [] }
  pub less : one_less knows ≡ record { count = 2; told = (here, Completed) ∷ []; heard = (other, Error) ∷ []; loads = (3, 27) ∷ [] }
  pub new : one_new knows ≡ record { count = 1; told = []; heard = []; loads = [] }
  pub both : together knows also
      ≡ record {
        count = 5;
        told = (here, Completed) ∷ (other, Cancelled) ∷ [];
        heard = (other, Error) ∷ (here, Completed) ∷ [];
        loads = (3, 27) ∷ (7, 21) ∷ [];
      }
  pub count : seats_in (knows ∷ also ∷ []) ≡ 5
  pub hears : map (heard_of here) (Ended Cancelled ∷ NotYet ∷ Gone ∷ Foreign ∷ []) ≡ (((here, Cancelled) ∷ []) ∷ [] ∷ [] ∷ [] ∷ [])
  pub tells : telling (other, Cancelled) knows
      ≡ record { count = 3; told = (here, Completed) ∷ (other, Cancelled) ∷ []; heard = (other, Error) ∷ []; loads = (3, 27) ∷ [] }
  pub loads : loading here 7 22 knows
      ≡ record { count = 3; told = (here, Completed) ∷ []; heard = (other, Error) ∷ (here, Cancelled) ∷ []; loads = (3, 27) ∷ (7, 22) ∷ [] }

-- the seats that come back
abbrev pub seat_on : TableId → BoardSeatView
seat_on z = record { board = z; told = (here, Completed) ∷ []; heard = (other, Error) ∷ []; loads = (3, 27) ∷ [] }

abbrev pub joined_on : TableId → JoinedView
joined_on z = record { board = z; count = 4; told = (other, Cancelled) ∷ []; heard = (here, Completed) ∷ [] }

pub record WorkedBoardSeats : Type 0 where
  pub one : (z : TableId) → joined_of (seat_on z) ≡ record { board = z; count = 1; told = (here, Completed) ∷ []; heard = (other, Error) ∷ [] }
  pub more : (z : TableId) → with_seat (joined_on z) (seat_on z)
      ≡ record { board = z; count = 5; told = (other, Cancelled) ∷ (here, Completed) ∷ []; heard = (here, Completed) ∷ (other, Error) ∷ [] }
  -- what the replies to calls tell of the ends of tasks
  pub look : (s : CellSeat) → TellsEnd s (op.TaskLook here false) (reply.Ended end.Cancelled) → HasEndedSo s (here, Cancelled)
  pub any : (s : CellSeat) → TellsEnd s (op.AnyLook (record { 0 = 9 }) false) (reply.Given here (end.Completed [])) → HasEndedSo s (here, Completed)
  pub finish : (s : CellSeat) → TellsEnd s finishes_first.op reply.Ok → HasEndedSo s (task_handle worked_first_handle, Completed)
  pub watch : (s : CellSeat) → TellsEnd s (op.WatchEnd here) (reply.Ended end.Cancelled) → HasEndedSo s (here, Cancelled)
  pub tally : (s : CellSeat) → TellsEnd s (op.TallyEnd here) (reply.Ended (end.Failed ErrActionFailed)) → HasEndedSo s (here, Error)

pub record WorkedSlotNumbers : Type 0 where
  pub classes : WorkedClasses
  pub tokens : WorkedTokens
  pub seats : WorkedBoardSeats
