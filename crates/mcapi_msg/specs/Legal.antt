-- Legal histories.
use Rattle.std.specs.Prelude.{◌≤◌, List, ◌++◌}
use Rattle.history.specs.declared.entries.Entry.{Entry}
use Rattle.history.specs.Legal as of
use Rattle.history.specs.Legal.{Machine}
use Rattle.history.proofs.Legal.{Legal-front}
use Rattle.mcapi_msg.specs.declared.ops.MsgOp.{MsgOp}
use Rattle.mcapi_msg.specs.declared.ops.MsgReply.{MsgReply}
use Rattle.mcapi_msg.specs.declared.post.PostTerms.{PostTerms}
use Rattle.mcapi_msg.specs.Row.{MsgState, opening_post, MsgMove, apply_msg_move, MsgRow}
use Rattle.mcapi_msg.specs.Rows.{msg_row}

-- who asked what, and the reply
abbrev pub MsgEntry : Type 0
MsgEntry = Entry MsgOp MsgReply

-- the post as a machine: every op may be asked
abbrev pub post : Machine MsgState MsgOp MsgReply MsgMove
post = record { seats = λ s. s.terms.seats; honest = λ o. Unit {0}; row = msg_row; apply = apply_msg_move }

-- the row of an entry's op
abbrev pub msg_row_of : MsgState → MsgEntry → MsgRow
msg_row_of = of.row_of_entry post

-- the entry may come next: it is by a seat, and the op's row allows the reply
abbrev pub MsgIsNext : MsgState → MsgEntry → Type 0
MsgIsNext = of.MayComeNext post

-- the state after it
abbrev pub msg_next : MsgState → MsgEntry → MsgState
msg_next = of.state_after post

-- each entry may come next in its turn
unfoldable pub MsgLegalFrom : MsgState → List MsgEntry → Type 0
unfolding of.EachMayCome
MsgLegalFrom = of.EachMayCome post

-- the state after all entries
unfoldable pub msg_after_from : MsgState → List MsgEntry → MsgState
unfolding of.after_entries
msg_after_from = of.after_entries post

-- the terms are those of a post: 1 to 25 seats, 1 to 64 endpoints, and 1 to 256 messages that may wait at one
pub record FitsPost (terms : PostTerms) : Type 0 where
  pub some_seat : 1 ≤ terms.seats
  pub seats : terms.seats ≤ 25
  pub some_endpoint : 1 ≤ terms.endpoints
  pub endpoints : terms.endpoints ≤ 64
  pub some_message : 1 ≤ terms.limit
  pub messages : terms.limit ≤ 256

-- the list is a legal history of a post with these terms
pub record MsgLegal (terms : PostTerms) (L : List MsgEntry) : Type 0 where
  pub fits : FitsPost terms
  pub from : MsgLegalFrom (opening_post terms) L

-- the state at its end
abbrev pub msg_after : PostTerms → List MsgEntry → MsgState
msg_after terms L = msg_after_from (opening_post terms) L

-- a prefix of a legal list is legal
pub MsgLegal-prefix : (terms : PostTerms) (L M : List MsgEntry) → MsgLegal terms (L ++ M) → MsgLegal terms L
unfolding MsgLegalFrom
MsgLegal-prefix terms L M h = record { fits = h.fits; from = Legal-front post _ L M h.from }
