-- The row of each op: its refusals in order, and then its reply and the moves that it makes.
use Rattle.std.specs.Prelude.{ℕ, Bool, not, ◌==◌, nat_lt, [], ◌∷◌, length, if◌then◌else◌}
use Rattle.handle_pool.specs.Issued.{live_of, live_object, any_listed, first_handle, is_full, may_issue}
use Rattle.mcapi_msg.specs.declared.messages.Waiting.{Waiting}
use Rattle.mcapi_msg.specs.declared.messages.EndpointHandle.{EndpointHandle}
use Rattle.mcapi_msg.specs.declared.ops.MsgOp.{MsgOp}
use Rattle.mcapi_msg.specs.declared.ops.MsgOp.TheVariants.{Open, Find, Send, Recv, Shut}
use Rattle.mcapi_msg.specs.declared.ops.MsgReply.{MsgReply}
use Rattle.mcapi_msg.specs.declared.ops.MsgReply.TheVariants.{Ok, Handle, Got, Pending, Refused}
use Rattle.mcapi_msg.specs.declared.statuses.MsgStatus.{MsgStatus}
use Rattle.mcapi_msg.specs.declared.statuses.MsgStatus.TheVariants.{Timeout, PortTaken, EndpointLimit, EndpointInvalid, PortUnknown, PriorityRange, Full, NotOwner}
use Rattle.mcapi_msg.specs.Endpoints.{last_endpoint_generation, Endpoint, new_endpoint, has_port, message_of_seat, next_of}
use Rattle.mcapi_msg.specs.Row.{MsgState, MsgRow, unless, gives, says, only, live, opens, puts, takes, shuts, msg_handle_of}

-- where the condition is met the op is refused with this status
abbrev pub refuses : Bool → MsgStatus → MsgRow → MsgRow
refuses c status msg_row = unless c (Refused status) msg_row

-- the handle as a reply
abbrev pub names : ℕ → MsgReply
names h = Handle (record { 0 = h })

-- the live endpoint of this handle, and EndpointInvalid where there is none
abbrev pub on_endpoint : MsgState → EndpointHandle → (Endpoint → MsgRow) → MsgRow
on_endpoint s h msg_row = live (live_object s.endpoints h.0) (says (Refused EndpointInvalid)) msg_row

-- the same for an op that only the owner may ask for
abbrev pub owned : MsgState → ℕ → EndpointHandle → (Endpoint → MsgRow) → MsgRow
owned s who h msg_row = on_endpoint s h (λ e. refuses (not (e.owner == who)) NotOwner (msg_row e))

-- a look where no message waits
abbrev pub no_message : Bool → MsgReply
no_message last = if last then Refused Timeout else Pending

-- the message is handed out
abbrev pub hands : ℕ → Waiting → MsgRow
hands h w = gives (Got w.sender w.priority w.msg) (takes h w.priority ∷ [])

-- The rows. A reply is read only for the handle of a new endpoint, which it chooses.

abbrev pub msg_row : MsgState → ℕ → MsgOp → MsgReply → MsgRow
msg_row s who (Open port) r =
    refuses (any_listed (has_port port) s.endpoints) PortTaken
    (refuses (is_full last_endpoint_generation s.terms.endpoints s.endpoints) EndpointLimit
    (only (may_issue last_endpoint_generation (msg_handle_of r) s.endpoints)
    (gives (names (msg_handle_of r)) (opens (msg_handle_of r) (new_endpoint port who) ∷ []))))
msg_row s who (Find port) r = live (first_handle (has_port port) (live_of s.endpoints)) (says (Refused PortUnknown)) (λ h. says (names h))
msg_row s who (Send to priority msg) r =
    on_endpoint s to (λ e. refuses (not (nat_lt priority 4)) PriorityRange
    (refuses (length e.waiting == s.terms.limit) Full
    (gives Ok (puts to.0 (message_of_seat who priority msg) ∷ []))))
msg_row s who (Recv at last) r = owned s who at (λ e. live (next_of e.waiting) (says (no_message last)) (hands at.0))
msg_row s who (Shut at) r = owned s who at (λ e. gives Ok (shuts at.0 ∷ []))
