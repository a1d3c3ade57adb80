-- Entries in little room.
use Rattle.history.specs.Histories.{entry}
use Rattle.mtapi_machine.specs.Legal.{NodeEntry}
use Rattle.mtapi_machine.specs.declared.ops.Op.TheVariants as op
use Rattle.mtapi_machine.specs.declared.replies.Reply.TheVariants as reply
use Rattle.node_journals.specs.Few.{few_numbers}
use Rattle.node_journals.specs.ShortCalls.{op_in_full, reply_in_full}
use Rattle.node_journals.specs.declared.shorts.ShortEntry.{ShortEntry}
use Rattle.node_journals.specs.declared.shorts.ShortEntry.TheVariants.{Start, Enqueue, Pick, Finish, Call, Full}

-- the entry that a short one stands for
abbrev pub entry_of : ShortEntry → NodeEntry
entry_of (Start who job priority detached cores group args handle) =
    entry who (op.TaskStart job (few_numbers args) priority cores detached group) (reply.Handle handle)
entry_of (Enqueue who detached queue cores group args handle) =
    entry who (op.TaskEnqueue queue (few_numbers args) cores detached group) (reply.Handle handle)
entry_of (Pick who task action kind args) = entry who op.Pick (reply.Picked task action kind (few_numbers args))
entry_of (Finish who task done) = entry who (op.Finish task done) reply.Ok
entry_of (Call who asked answered) = entry who (op_in_full asked) (reply_in_full answered)
entry_of (Full e) = e.value
