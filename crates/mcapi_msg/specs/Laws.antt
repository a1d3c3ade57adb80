-- A law of every row.
use Rattle.std.specs.Prelude.{◌≡◌, Bool, true, false}
use Rattle.mcapi_msg.specs.declared.ops.MsgReply.{MsgReply}
use Rattle.mcapi_msg.specs.declared.ops.MsgReply.TheVariants.{Pending, Refused}
use Rattle.mcapi_msg.specs.Row.{MsgState, Allows}
use Rattle.mcapi_msg.specs.Legal.{MsgEntry, msg_row_of, msg_next}

-- the reply says that nothing was done
abbrev pub does_nothing : MsgReply → Bool
does_nothing Pending = true
does_nothing (Refused c) = true
does_nothing _ = false

-- an entry with such a reply leaves the state as it was
abbrev pub MsgRefusalsStay : Type 0
MsgRefusalsStay = (s : MsgState) (e : MsgEntry) → Allows (msg_row_of s e) e.reply → does_nothing e.reply ≡ true → msg_next s e ≡ s
