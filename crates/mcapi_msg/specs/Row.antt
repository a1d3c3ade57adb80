-- The state of the machine, and the moves by which it changes.
use Rattle.std.specs.Prelude.{ℕ, List, []}
use Rattle.history.specs.Row.{RowOfMachine as RowOf}
pub use Rattle.history.specs.Row.{unless, gives, never, Allows, moves_of, says, only, live}
use Rattle.handle_pool.specs.Issued.{Listed, issue, update, retire}
use Rattle.mcapi_msg.specs.declared.messages.Waiting.{Waiting}
use Rattle.mcapi_msg.specs.declared.ops.MsgReply.{MsgReply}
use Rattle.mcapi_msg.specs.declared.ops.MsgReply.TheVariants.{Handle}
use Rattle.mcapi_msg.specs.declared.post.PostTerms.{PostTerms}
use Rattle.mcapi_msg.specs.Endpoints.{Endpoint, with_message, with_first_gone}

-- what no op changes, and the endpoints that were ever opened
pub record MsgState : Type 0 where
  pub terms : PostTerms
  pub endpoints : List (Listed Endpoint)

-- the state before the first entry
abbrev pub opening_post : PostTerms → MsgState
opening_post terms = record { terms = terms; endpoints = [] }

-- one change; the number is the handle of the endpoint that changes
pub data MsgMove : Type 0 where
  -- there is a new endpoint
  opens : ℕ → Endpoint → MsgMove
  -- this message waits there
  puts : ℕ → Waiting → MsgMove
  -- the first waiting message of this priority is taken
  takes : ℕ → ℕ → MsgMove
  -- it stops being live, and its messages are given up
  shuts : ℕ → MsgMove

-- the endpoints after it
abbrev pub moved : MsgMove → List (Listed Endpoint) → List (Listed Endpoint)
moved (opens h e) l = issue h e l
moved (puts h w) l = update h (with_message w) l
moved (takes h priority) l = update h (with_first_gone priority) l
moved (shuts h) l = retire h l

abbrev pub apply_msg_move : MsgMove → MsgState → MsgState
apply_msg_move m s = record s { endpoints = moved m s.endpoints }

-- what an op does in a state
abbrev pub MsgRow : Type 0
MsgRow = RowOf MsgReply MsgMove

-- the handle that a reply chooses
abbrev pub msg_handle_of : MsgReply → ℕ
msg_handle_of (Handle h) = h.0
msg_handle_of _ = 0
