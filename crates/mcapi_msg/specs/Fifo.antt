-- What one sender put at an endpoint with one priority, and what was received of it there.
use Rattle.std.specs.Prelude.{ℕ, ◌&&◌, ◌==◌, List, [], ◌∷◌, ◌++◌, if◌then◌else◌}
use Rattle.mcapi_msg.specs.declared.messages.EndpointHandle.{EndpointHandle}
use Rattle.mcapi_msg.specs.declared.ops.MsgOp.{MsgOp}
use Rattle.mcapi_msg.specs.declared.ops.MsgOp.TheVariants.{Send, Recv}
use Rattle.mcapi_msg.specs.declared.ops.MsgReply.{MsgReply}
use Rattle.mcapi_msg.specs.declared.ops.MsgReply.TheVariants.{Ok, Got}
use Rattle.mcapi_msg.specs.Legal.{MsgEntry}

module _ (endpoint : EndpointHandle) (sender priority : ℕ) where
  -- the message that an op of the seat `who` put there, if it was a send of this sender with this priority, and was executed
  abbrev pub put_by : ℕ → MsgOp → MsgReply → List (List ℕ)
  put_by who (Send to p msg) Ok = if (to.0 == endpoint.0) && ((who == sender) && (p == priority)) then msg ∷ [] else []
  put_by who _ _ = []

  -- the message that an op received there, if it is of this sender and this priority
  abbrev pub got_by : MsgOp → MsgReply → List (List ℕ)
  got_by (Recv from last) (Got s p msg) = if (from.0 == endpoint.0) && ((s == sender) && (p == priority)) then msg ∷ [] else []
  got_by _ _ = []

  -- the messages that the entries put there, in their order
  unfoldable pub sent_to : List MsgEntry → List (List ℕ)
  sent_to [] = []
  sent_to (e ∷ es) = put_by e.who e.op e.reply ++ sent_to es

  -- the messages that the entries received there, in their order
  unfoldable pub received_at : List MsgEntry → List (List ℕ)
  received_at [] = []
  received_at (e ∷ es) = got_by e.op e.reply ++ received_at es
