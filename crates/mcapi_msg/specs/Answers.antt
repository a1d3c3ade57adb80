-- What the calls of a mailer add to the entries of its seat, and what they answer.
use Rattle.std.specs.Prelude.{◌≡◌, ℕ, ◌+◌, Bool, true, false, List, [], ◌∷◌, ◌++◌, Option, Some, Result, Ok, Err, ◌⊎◌}
use Rattle.history.specs.Histories.{entry}
use Rattle.turn_cell.specs.Seats.{SeatView}
use Rattle.turn_looks.specs.Turns.{Turned, Unturned}
use Rattle.turn_looks.specs.Looks.{pends, Looked, StillLooking}
use Rattle.mcapi_msg.specs.declared.messages.EndpointHandle.{EndpointHandle}
use Rattle.mcapi_msg.specs.declared.ops.MsgOp.{MsgOp}
use Rattle.mcapi_msg.specs.declared.ops.MsgOp.TheVariants.{Recv}
use Rattle.mcapi_msg.specs.declared.ops.MsgReply.{MsgReply}
use Rattle.mcapi_msg.specs.declared.ops.MsgReply.TheVariants as reply
use Rattle.mcapi_msg.specs.declared.statuses.MsgStatus.{MsgStatus}
use Rattle.mcapi_msg.specs.declared.statuses.MsgStatus.TheVariants as status
use Rattle.mcapi_msg.specs.declared.post.PostTerms.{PostTerms}
use Rattle.mcapi_msg.specs.Row.{MsgState, Allows}
use Rattle.mcapi_msg.specs.Rows.{msg_row}
use Rattle.mcapi_msg.specs.Legal.{MsgLegal, msg_after}

-- a seat of a cell over a post
abbrev pub PostSeat : Type 0
PostSeat = SeatView PostTerms MsgOp MsgReply

-- the status that a mailer answers for turns that are used up, and that no op says
abbrev pub is_spent : MsgStatus → Bool
is_spent status.Spent = true
is_spent _ = false

-- a reply that says that it was done, or a status, and what the call answers then
abbrev pub Done : MsgReply → Result (Unit {0}) MsgStatus → Type 0
Done reply.Ok x = x ≡ Ok tt
Done (reply.Refused c) x = (x ≡ Err c) × (is_spent c ≡ false)
Done _ x = ⊥

-- the same with the handle of an endpoint
abbrev pub NamesEndpoint : MsgReply → Result EndpointHandle MsgStatus → Type 0
NamesEndpoint (reply.Handle h) x = x ≡ Ok h
NamesEndpoint (reply.Refused c) x = (x ≡ Err c) × (is_spent c ≡ false)
NamesEndpoint _ x = ⊥

-- the same with a message: its sender, its priority and its bytes
abbrev pub Hands : MsgReply → Result (ℕ × ℕ × List ℕ) MsgStatus → Type 0
Hands (reply.Got sender priority msg) x = x ≡ Ok (sender, priority, msg)
Hands (reply.Refused c) x = (x ≡ Err c) × (is_spent c ≡ false)
Hands _ x = ⊥

-- the state in which a turn was made: after what the seat had seen, and what others did since
abbrev pub state_at : (old new : PostSeat) (o : MsgOp) (r : MsgReply) → Turned MsgLegal old o r new → MsgState
state_at old new o r t = msg_after new.terms (old.seen ++ t.between)

module _ {A : Type 0} (P : MsgReply → Result A MsgStatus → Type 0) where
  -- the call has an answer to this reply
  abbrev pub IsAnswer : MsgReply → Type 0
  IsAnswer r = (x : Result A MsgStatus) × P r x

  -- its answer to a reply, and the one for turns that are used up
  abbrev pub MsgAnsweredBy : Result MsgReply ℕ → Result A MsgStatus → Type 0
  MsgAnsweredBy (Ok r) x = P r x
  MsgAnsweredBy (Err s) x = x ≡ Err status.Spent

  -- the call made one turn, whose reply is one that the op's row allows there, and answers what the reply says
  pub record MsgAnswers (o : MsgOp) (old new : PostSeat) (x : Result A MsgStatus) : Type 0 where
    pub said : MsgReply
    pub turned : Turned MsgLegal old o said new
    pub by_row : Allows (msg_row (state_at old new o said turned) old.number o said) said
    pub answer : P said x

  -- the call made one turn; or it made none, since the turns were used up
  abbrev pub MsgCalled : MsgOp → PostSeat → PostSeat → Result A MsgStatus → Type 0
  MsgCalled o old new x = MsgAnswers o old new x ⊎ (Unturned old new × (x ≡ Err status.Spent))

-- a look for a message at this endpoint, the last one or not
abbrev pub look_for : EndpointHandle → Bool → MsgOp
look_for at last = Recv at last

-- the call made its looks, all but the last of which were Pending. The last one's reply is one that its row allows there, and the
-- call answers what it says. Timeout comes with the last look that the timeout allows, and with no other
pub record MsgLooks (at : EndpointHandle) (limit : Option ℕ) (old new : PostSeat) (x : Result (ℕ × ℕ × List ℕ) MsgStatus) : Type 0 where
  pub said : MsgReply
  pub looked : Looked MsgLegal (look_for at) reply.Pending limit old new said
  pub by_row : Allows (msg_row (state_at looked.before new (look_for at looked.last) said looked.turned) old.number (look_for at looked.last) said) said
  pub late : said ≡ reply.Refused status.Timeout → looked.last ≡ true
  pub answer : Hands said x

-- some looks found nothing, fewer than the timeout allows, and then the tickets had run out
abbrev pub RanOut : EndpointHandle → Option ℕ → PostSeat → PostSeat → Type 0
RanOut at limit old new = StillLooking MsgLegal (look_for at) reply.Pending limit old new

-- the call looked until it had an answer; or the turns were used up before
abbrev pub Received : EndpointHandle → Option ℕ → PostSeat → PostSeat → Result (ℕ × ℕ × List ℕ) MsgStatus → Type 0
Received at limit old new x = MsgLooks at limit old new x ⊎ (RanOut at limit old new × (x ≡ Err status.Spent))

-- the call made exactly as many looks as the timeout allows: each but the last answered Pending, and the last one that its time is over
pub record TimedOut (at : EndpointHandle) (limit : Option ℕ) (old new : PostSeat) : Type 0 where
  pub earlier : ℕ
  pub all : limit ≡ Some (earlier + 1)
  pub mine : new.mine ≡ old.mine ++ (pends MsgLegal (look_for at) reply.Pending old.number earlier
      ++ entry old.number (look_for at true) (reply.Refused status.Timeout) ∷ [])
