-- Worked rows of the words of the laws and of the statuses, with values that all differ; and lists that the laws refuse.
use Rattle.std.specs.Prelude.{◌≡◌, ℕ, Bool, true, false, List, [], ◌∷◌, map}
use Rattle.history.specs.Histories.{entry, StartsWith}
use Rattle.mcapi_msg.specs.declared.messages.EndpointHandle.{EndpointHandle}
use Rattle.mcapi_msg.specs.declared.ops.MsgOp.TheVariants.{Open, Send, Recv, Shut}
use Rattle.mcapi_msg.specs.declared.ops.MsgReply.{MsgReply}
use Rattle.mcapi_msg.specs.declared.ops.MsgReply.TheVariants.{Ok, Got, Pending, Refused}
use Rattle.mcapi_msg.specs.declared.statuses.MsgStatus.{MsgStatus}
use Rattle.mcapi_msg.specs.declared.statuses.MsgStatus.TheVariants.{Timeout, PortTaken, EndpointLimit, EndpointInvalid, PortUnknown, PriorityRange, Full, NotOwner, Spent}
use Rattle.mcapi_msg.specs.declared.post.PostTerms.{PostTerms}
use Rattle.mcapi_msg.specs.Statuses.{msg_number_of}
use Rattle.mcapi_msg.specs.Answers.{is_spent}
use Rattle.mcapi_msg.specs.Rows.{names}
use Rattle.mcapi_msg.specs.Fifo.{sent_to, received_at}
use Rattle.mcapi_msg.specs.Laws.{does_nothing}
use Rattle.mcapi_msg.specs.Legal.{MsgEntry, FitsPost}
use Rattle.mcapi_msg.specs.Worked.{box, bytes, newest_first, handed_twice}

-- a second endpoint
abbrev pub other_box : EndpointHandle
other_box = record { 0 = 4294967297 }

-- two senders, two endpoints and two priorities, a send that is refused, and looks that find nothing
unfoldable pub crossed : List MsgEntry
crossed =
    entry 0 (Open 9) (names 4294967296)
    ∷ entry 1 (Send box 1 (bytes 11)) Ok
    ∷ entry 2 (Send box 1 (bytes 12)) Ok
    ∷ entry 1 (Send box 2 (bytes 13)) Ok
    ∷ entry 1 (Send other_box 1 (bytes 14)) Ok
    ∷ entry 1 (Send box 1 (bytes 15)) (Refused Full)
    ∷ entry 1 (Send box 1 (bytes 16)) Ok
    ∷ entry 0 (Recv box false) (Got 1 1 (bytes 11))
    ∷ entry 0 (Recv box false) (Got 2 1 (bytes 12))
    ∷ entry 2 (Recv other_box true) (Got 1 1 (bytes 14))
    ∷ entry 2 (Recv other_box false) Pending
    ∷ entry 0 (Recv box true) (Got 1 1 (bytes 16))
    ∷ entry 0 (Recv box true) (Got 1 2 (bytes 13))
    ∷ entry 0 (Recv box true) (Refused Timeout)
    ∷ entry 0 (Shut box) Ok
    ∷ []

-- a message that nobody put there
unfoldable pub made_up : List MsgEntry
made_up = entry 0 (Recv box false) (Got 1 1 (bytes 9)) ∷ []

-- what was put at an endpoint by a sender with a priority, and that the same was received there
pub record BothAre (es : List MsgEntry) (at : EndpointHandle) (sender priority : ℕ) (msgs : List (List ℕ)) : Type 0 where
  pub put : sent_to at sender priority es ≡ msgs
  pub got : received_at at sender priority es ≡ msgs

-- what the law of order says of a list
abbrev pub IsInOrder : List MsgEntry → EndpointHandle → ℕ → ℕ → Type 0
IsInOrder es at sender priority = StartsWith (sent_to at sender priority es) (received_at at sender priority es)

-- the terms of a post
abbrev pub post : ℕ → ℕ → ℕ → PostTerms
post seats endpoints limit = record { seats = seats; endpoints = endpoints; limit = limit }

-- all statuses
abbrev pub all_statuses : List MsgStatus
all_statuses = Timeout ∷ PortTaken ∷ EndpointLimit ∷ EndpointInvalid ∷ PortUnknown ∷ PriorityRange ∷ Full ∷ NotOwner ∷ Spent ∷ []

-- replies of each kind
abbrev pub replies : List MsgReply
replies = Ok ∷ names 1 ∷ Got 1 2 (bytes 3) ∷ Pending ∷ Refused Full ∷ []

pub record WorkedMsgWords : Type 0 where
  pub two_of_one : BothAre crossed box 1 1 (bytes 11 ∷ bytes 16 ∷ [])
  pub other_sender : BothAre crossed box 2 1 (bytes 12 ∷ [])
  pub other_priority : BothAre crossed box 1 2 (bytes 13 ∷ [])
  pub other_endpoint : BothAre crossed other_box 1 1 (bytes 14 ∷ [])
  pub no_sender : BothAre crossed box 0 1 []
  pub later_first : IsInOrder newest_first box 1 1 → ⊥
  pub one_twice : IsInOrder handed_twice box 2 0 → ⊥
  pub never_put : IsInOrder made_up box 1 1 → ⊥
  pub numbers : map msg_number_of all_statuses ≡ (1 ∷ 2 ∷ 3 ∷ 4 ∷ 5 ∷ 6 ∷ 7 ∷ 8 ∷ 9 ∷ [])
  pub spent_alone : map is_spent all_statuses ≡ (false ∷ false ∷ false ∷ false ∷ false ∷ false ∷ false ∷ false ∷ true ∷ [])
  pub nothing_done : map does_nothing replies ≡ (false ∷ false ∷ false ∷ true ∷ true ∷ [])
  pub least : FitsPost (post 1 1 1)
  pub most : FitsPost (post 25 64 256)
  pub no_seat : FitsPost (post 0 64 256) → ⊥
  pub many_seats : FitsPost (post 26 64 256) → ⊥
  pub no_endpoint : FitsPost (post 25 0 256) → ⊥
  pub many_endpoints : FitsPost (post 25 65 256) → ⊥
  pub no_message : FitsPost (post 25 64 0) → ⊥
  pub many_messages : FitsPost (post 25 64 257) → ⊥
