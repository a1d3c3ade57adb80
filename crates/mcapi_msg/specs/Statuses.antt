-- The number of each status.
use Rattle.std.specs.Prelude.{ℕ}
use Rattle.mcapi_msg.specs.declared.statuses.MsgStatus.{MsgStatus}
use Rattle.mcapi_msg.specs.declared.statuses.MsgStatus.TheVariants.{Timeout, PortTaken, EndpointLimit, EndpointInvalid, PortUnknown, PriorityRange, Full, NotOwner, Spent}

abbrev pub msg_number_of : MsgStatus → ℕ
msg_number_of Timeout = 1
msg_number_of PortTaken = 2
msg_number_of EndpointLimit = 3
msg_number_of EndpointInvalid = 4
msg_number_of PortUnknown = 5
msg_number_of PriorityRange = 6
msg_number_of Full = 7
msg_number_of NotOwner = 8
msg_number_of Spent = 9
