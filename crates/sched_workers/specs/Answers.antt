-- What the calls of a caller answer.
use Rattle.std.specs.Prelude.{◌≡◌, ℕ, ℤ, false, List, Option, Some, None, Result, Ok, Err, ◌⊎◌}
use Rattle.mtapi_values.specs.declared.handles.GroupHandle.{GroupHandle}
use Rattle.mtapi_values.specs.declared.handles.QueueHandle.{QueueHandle}
use Rattle.mtapi_values.specs.Attributes.{TaskAttributes, QueueAttributes}
use Rattle.mtapi_machine.specs.declared.ops.Op.{Op}
use Rattle.mtapi_machine.specs.declared.ops.Op.TheVariants as op
use Rattle.mtapi_machine.specs.declared.replies.Reply.{Reply}
use Rattle.workload_runs.specs.declared.calls.Wanted.{Wanted}
use Rattle.workload_runners.specs.Replies.{Standard}
use Rattle.workload_runners.specs.Turns.{Seat, NodeTurned, NodeUnturned}
use Rattle.workload_runners.specs.Looks.{NodeLooked, NodeStillLooking}

module _ {S A : Type 0} (standard : Standard S) (read : Reply → Option A) where
  abbrev by_value : Option A → Result A S → Type 0
  by_value None x = ⊥
  by_value (Some a) x = x ≡ Ok a

  abbrev by_status : Option S → Option A → Result A S → Type 0
  by_status (Some c) o x = (x ≡ Err c) × (standard.is_spent c ≡ false)
  by_status None o x = by_value o x

  -- the answer to a reply: the status that it says, or else what is read from it
  abbrev pub AnswersReply : Reply → Result A S → Type 0
  AnswersReply r x = by_status (standard.status r) (read r) x

  -- the answer to a reply, and the one for turns that are used up
  abbrev pub AnsweredBy : Result Reply ℕ → Result A S → Type 0
  AnsweredBy (Ok r) x = AnswersReply r x
  AnsweredBy (Err s) x = x ≡ Err standard.spent

  -- the call made one turn, and answers its reply; or it made none, since the turns were used up
  abbrev pub Called : Op → Seat → Seat → Result A S → Type 0
  Called o old new x = ((r : Reply) × NodeTurned old o r new × AnswersReply r x) ⊎ (NodeUnturned old new × (x ≡ Err standard.spent))

  -- the call made these looks, and answers the reply that decided; or the turns were used up before there was one
  abbrev pub Waited : Wanted → Option ℕ → Seat → Seat → Result A S → Type 0
  Waited w limit old new x = ((r : Reply) × NodeLooked w limit old new r × AnswersReply r x) ⊎ (NodeStillLooking w limit old new × (x ≡ Err standard.spent))

  -- the same with a limit that time decides: some number of looks, of which the last alone was asked as the last
  abbrev pub WaitedUntil : Wanted → Seat → Seat → Result A S → Type 0
  WaitedUntil w old new x = (looks : ℕ) × Waited w (Some looks) old new x

-- the answer with the number of the handle that it has
abbrev pub with_handle_number : {H S : Type 0} → (H → ℕ) → Result H S → Result ℕ S
with_handle_number f (Ok h) = Ok (f h)
with_handle_number f (Err c) = Err c

-- The ops whose arguments a caller takes from attributes

abbrev pub start_of : ℕ → List ℤ → TaskAttributes → Option GroupHandle → Op
start_of job args a group = op.TaskStart job args a.priority (record { 0 = a.affinity }) a.detached group

abbrev pub enqueue_of : QueueHandle → List ℤ → TaskAttributes → Option GroupHandle → Op
enqueue_of q args a group = op.TaskEnqueue q args (record { 0 = a.affinity }) a.detached group

abbrev pub queue_of : ℕ → ℕ → QueueAttributes → Op
queue_of id job a = op.QueueCreate id job a.priority a.limit a.ordered a.retain
