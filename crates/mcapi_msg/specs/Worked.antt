-- Worked histories of a post with three seats, one endpoint and room for two messages there. Each is decided by computing.
use Rattle.std.specs.Prelude.{ℕ, ◌*◌, ◌^◌, true, false, List, [], ◌∷◌, ◌++◌}
use Rattle.history.specs.Histories.{entry}
use Rattle.mcapi_msg.specs.declared.messages.EndpointHandle.{EndpointHandle}
use Rattle.mcapi_msg.specs.declared.ops.MsgOp.TheVariants.{Open, Find, Send, Recv, Shut}
use Rattle.mcapi_msg.specs.declared.ops.MsgReply.TheVariants.{Ok, Got, Pending, Refused}
use Rattle.mcapi_msg.specs.declared.statuses.MsgStatus.TheVariants as status
use Rattle.mcapi_msg.specs.declared.post.PostTerms.{PostTerms}
use Rattle.mcapi_msg.specs.Endpoints.{new_endpoint}
use Rattle.mcapi_msg.specs.Row.{MsgState, Allows}
use Rattle.mcapi_msg.specs.Rows.{msg_row, names}
use Rattle.mcapi_msg.specs.Legal.{MsgEntry, MsgLegal}

abbrev pub usual_post : PostTerms
usual_post = record { seats = 3; endpoints = 1; limit = 2 }

-- the handle of the first place, and of the same place when it is used again
abbrev pub box : EndpointHandle
box = record { 0 = 4294967296 }

abbrev pub box_again : EndpointHandle
box_again = record { 0 = 8589934592 }

-- the bytes of a short message
abbrev pub bytes : ℕ → List ℕ
bytes b = b ∷ []

-- seat 0 opens the one endpoint, and two messages wait there
abbrev pub two_wait : List MsgEntry
two_wait =
    entry 0 (Open 9) (names 4294967296)
    ∷ entry 0 (Open 9) (Refused status.PortTaken)
    ∷ entry 0 (Open 8) (Refused status.EndpointLimit)
    ∷ entry 1 (Find 8) (Refused status.PortUnknown)
    ∷ entry 2 (Find 9) (names 4294967296)
    ∷ entry 1 (Send box 3 (bytes 1)) Ok
    ∷ entry 2 (Send box 0 (bytes 2)) Ok
    ∷ []

-- a third one is refused, the owner takes both, the urgent one first, and after the end nothing comes there any more
unfoldable pub exchange : List MsgEntry
exchange = two_wait ++ (
    entry 1 (Send box 1 (bytes 3)) (Refused status.Full)
    ∷ entry 1 (Recv box true) (Refused status.NotOwner)
    ∷ entry 0 (Recv box false) (Got 2 0 (bytes 2))
    ∷ entry 0 (Recv box false) (Got 1 3 (bytes 1))
    ∷ entry 0 (Recv box false) Pending
    ∷ entry 0 (Recv box true) (Refused status.Timeout)
    ∷ entry 1 (Send box 4 (bytes 4)) (Refused status.PriorityRange)
    ∷ entry 2 (Shut box) (Refused status.NotOwner)
    ∷ entry 0 (Shut box) Ok
    ∷ entry 1 (Send box 0 (bytes 5)) (Refused status.EndpointInvalid)
    ∷ entry 0 (Recv box true) (Refused status.EndpointInvalid)
    ∷ [])

-- the place is used again under another handle, and what waited there is gone
unfoldable pub used_again : List MsgEntry
used_again = two_wait ++ (
    entry 0 (Shut box) Ok
    ∷ entry 1 (Open 9) (names 8589934592)
    ∷ entry 1 (Recv box_again true) (Refused status.Timeout)
    ∷ entry 1 (Shut box) (Refused status.EndpointInvalid)
    ∷ [])

-- two messages of one sender with one priority come in the order of their sends
unfoldable pub sent_in_order : List MsgEntry
sent_in_order =
    entry 0 (Open 9) (names 4294967296)
    ∷ entry 1 (Send box 1 (bytes 1)) Ok
    ∷ entry 1 (Send box 1 (bytes 2)) Ok
    ∷ entry 0 (Recv box false) (Got 1 1 (bytes 1))
    ∷ entry 0 (Recv box false) (Got 1 1 (bytes 2))
    ∷ []

-- Lists that no post may leave.

-- the message with the greater priority first
unfoldable pub urgent_left : List MsgEntry
urgent_left = two_wait ++ entry 0 (Recv box false) (Got 1 3 (bytes 1)) ∷ []

-- the later one of two messages first
unfoldable pub newest_first : List MsgEntry
newest_first =
    entry 0 (Open 9) (names 4294967296)
    ∷ entry 1 (Send box 1 (bytes 1)) Ok
    ∷ entry 1 (Send box 1 (bytes 2)) Ok
    ∷ entry 0 (Recv box false) (Got 1 1 (bytes 2))
    ∷ []

-- one message twice
unfoldable pub handed_twice : List MsgEntry
handed_twice = two_wait ++ entry 0 (Recv box false) (Got 2 0 (bytes 2)) ∷ entry 0 (Recv box false) (Got 2 0 (bytes 2)) ∷ []

-- Full one message early
unfoldable pub full_early : List MsgEntry
full_early =
    entry 0 (Open 9) (names 4294967296)
    ∷ entry 1 (Send box 1 (bytes 1)) Ok
    ∷ entry 1 (Send box 1 (bytes 2)) (Refused status.Full)
    ∷ []

-- a receiver that isn't the owner
unfoldable pub stranger_served : List MsgEntry
stranger_served = two_wait ++ entry 1 (Recv box false) (Got 2 0 (bytes 2)) ∷ []

-- Timeout where a message waits, and Pending at the last look
unfoldable pub timeout_early : List MsgEntry
timeout_early = two_wait ++ entry 0 (Recv box true) (Refused status.Timeout) ∷ []

unfoldable pub never_decides : List MsgEntry
never_decides = entry 0 (Open 9) (names 4294967296) ∷ entry 0 (Recv box true) Pending ∷ []

-- a handle issued twice
unfoldable pub issued_twice : List MsgEntry
issued_twice = two_wait ++ entry 0 (Shut box) Ok ∷ entry 1 (Open 9) (names 4294967296) ∷ []

-- an entry by no seat
unfoldable pub no_seat : List MsgEntry
no_seat = entry 3 (Open 9) (names 4294967296) ∷ []

-- the one place had its last generation, and was given up
abbrev pub used_up : MsgState
used_up = record {
  terms = usual_post;
  endpoints = record { handle = 4294967295 * 2 ^ 32; live = false; fields = new_endpoint 9 0 } ∷ [];
}

pub record WorkedMsgHistories : Type 0 where
  pub exchange_legal : MsgLegal usual_post exchange
  pub used_again_legal : MsgLegal usual_post used_again
  pub in_order_legal : MsgLegal usual_post sent_in_order
  pub urgent_left_illegal : MsgLegal usual_post urgent_left → ⊥
  pub newest_first_illegal : MsgLegal usual_post newest_first → ⊥
  pub handed_twice_illegal : MsgLegal usual_post handed_twice → ⊥
  pub full_early_illegal : MsgLegal usual_post full_early → ⊥
  pub stranger_served_illegal : MsgLegal usual_post stranger_served → ⊥
  pub timeout_early_illegal : MsgLegal usual_post timeout_early → ⊥
  pub never_decides_illegal : MsgLegal usual_post never_decides → ⊥
  pub issued_twice_illegal : MsgLegal usual_post issued_twice → ⊥
  pub no_seat_illegal : MsgLegal usual_post no_seat → ⊥
  pub used_up_full : Allows (msg_row used_up 1 (Open 9) (Refused status.EndpointLimit)) (Refused status.EndpointLimit)
