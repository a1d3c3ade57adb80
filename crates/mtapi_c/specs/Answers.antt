-- What a call from C does: one call of the held node, whose reply it tells by numbers.
use Rattle.std.specs.Prelude.{◌≡◌, ℕ, ℤ, Bool, List, length, take, Option, Some, None}
use Rattle.mtapi_values.specs.declared.statuses.MtapiStatus.TheVariants.{ErrParameter}
use Rattle.mtapi_machine.specs.declared.ops.Op.{Op}
use Rattle.mtapi_machine.specs.declared.replies.Reply.{Reply}
use Rattle.mtapi_machine.specs.declared.replies.Reply.TheVariants.{Mtapi}
use Rattle.node_handle.specs.declared.counted.CountedNode.{CountedNode}
use Rattle.node_handle.specs.declared.held.Held.TheVariants.{Node}
use Rattle.node_handle.specs.declared.handle.NodeHandle.{NodeHandle}
use Rattle.node_handle.specs.declared.journals.JournalEnd.{JournalEnd}
use Rattle.node_handle.specs.declared.journals.JournalEnd.TheVariants as ended
use Rattle.node_handle.specs.Handles.{HandleCalled}
use Rattle.node_handle.specs.Texts.{HasEndedAs, written_over}
use Rattle.mtapi_c.specs.declared.picked.PickedTask.{PickedTask}
use Rattle.mtapi_c.specs.Replies.{status_of_reply, handle_in, reply_number, asked_in, member_in, numbers_in, picked_in}

-- numbers are written to the head of memory, as many as there is room for
abbrev pub written : List ℤ → List ℤ → List ℤ
written numbers memory = written_over (take (length memory) numbers) memory

-- the call tells the status of the reply
pub record GivesStatus (old : NodeHandle) (who : ℕ) (op : Op) (code : ℕ) (new : NodeHandle) : Type 0 where
  pub reply : Reply
  pub called : HandleCalled old who op reply new
  pub status : code ≡ status_of_reply reply

-- the status of the reply, and the handle in it
pub record GivesHandle (old : NodeHandle) (who : ℕ) (op : Op) (code out : ℕ) (new : NodeHandle) : Type 0 where
  pub reply : Reply
  pub called : HandleCalled old who op reply new
  pub status : code ≡ status_of_reply reply
  pub handle : out ≡ handle_in reply

-- the status of the reply, and the number in it
pub record GivesNumber (old : NodeHandle) (who : ℕ) (op : Op) (code : ℕ) (out : ℤ) (new : NodeHandle) : Type 0 where
  pub reply : Reply
  pub called : HandleCalled old who op reply new
  pub status : code ≡ status_of_reply reply
  pub number : out ≡ reply_number reply

-- the status of the reply, and the yes or no in it
pub record GivesFlag (old : NodeHandle) (who : ℕ) (op : Op) (code : ℕ) (out : Bool) (new : NodeHandle) : Type 0 where
  pub reply : Reply
  pub called : HandleCalled old who op reply new
  pub status : code ≡ status_of_reply reply
  pub flag : out ≡ asked_in reply

-- memory of the caller's before and after a call, and how many numbers there were
pub record Memory : Type 0 where
  pub old : List ℤ
  pub new : List ℤ
  pub count : ℕ

-- the numbers of a reply were written there
pub record HasNumbers (memory : Memory) (reply : Reply) : Type 0 where
  pub numbers : memory.new ≡ written (numbers_in reply) memory.old
  pub count : memory.count ≡ length (numbers_in reply)

-- the status of the reply, and the numbers in it
pub record GivesNumbers (old : NodeHandle) (who : ℕ) (op : Op) (code : ℕ) (memory : Memory) (new : NodeHandle) : Type 0 where
  pub reply : Reply
  pub called : HandleCalled old who op reply new
  pub status : code ≡ status_of_reply reply
  pub numbers : HasNumbers memory reply

-- the status of the reply, and the member of a group in it with its results
pub record GivesMember (old : NodeHandle) (who : ℕ) (op : Op) (code out : ℕ) (memory : Memory) (new : NodeHandle) : Type 0 where
  pub reply : Reply
  pub called : HandleCalled old who op reply new
  pub status : code ≡ status_of_reply reply
  pub member : out ≡ member_in reply
  pub numbers : HasNumbers memory reply

-- the status of the reply, and the task in it that the worker took, with its arguments
pub record GivesTask (old : NodeHandle) (who : ℕ) (op : Op) (code : ℕ) (out : PickedTask) (before after : List ℤ) (new : NodeHandle) : Type 0 where
  pub reply : Reply
  pub called : HandleCalled old who op reply new
  pub status : code ≡ status_of_reply reply
  pub picked : out ≡ picked_in reply
  pub numbers : after ≡ written (numbers_in reply) before

-- the op was asked for where there is one; else nothing was called, and the reply is a refusal
abbrev pub Tried : NodeHandle → ℕ → Option Op → Reply → NodeHandle → Type 0
Tried old who (Some op) r new = HandleCalled old who op r new
Tried old who None r new = (new ≡ old) × (r ≡ Mtapi ErrParameter)

-- the status of the reply to an op that there may not be
pub record TriesForStatus (old : NodeHandle) (who : ℕ) (op : Option Op) (code : ℕ) (new : NodeHandle) : Type 0 where
  pub reply : Reply
  pub called : Tried old who op reply new
  pub status : code ≡ status_of_reply reply

-- the status of such a reply, and the handle in it
pub record TriesForHandle (old : NodeHandle) (who : ℕ) (op : Option Op) (code out : ℕ) (new : NodeHandle) : Type 0 where
  pub reply : Reply
  pub called : Tried old who op reply new
  pub status : code ≡ status_of_reply reply
  pub handle : out ≡ handle_in reply

-- the status of an end of a node's calls
abbrev pub end_number : JournalEnd → ℕ
end_number (ended.Text long) = 0
end_number ended.NoJournal = 103
end_number ended.Memory = 99

-- how long the text is, 0 where there is none
abbrev pub length_in : JournalEnd → ℕ
length_in (ended.Text long) = long
length_in _ = 0

-- how the calls of the held node ended, by numbers, and how long its journal's text is
pub record EndsInText (old : NodeHandle) (code out : ℕ) (new : NodeHandle) : Type 0 where
  pub ends : JournalEnd
  pub ended : (n : CountedNode) → old.held ≡ Some (Node n) → HasEndedAs n ends new
  pub status : code ≡ end_number ends
  pub long : out ≡ length_in ends
