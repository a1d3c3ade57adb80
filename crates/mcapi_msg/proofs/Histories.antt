-- Lists of entries, one after the other.
use Rattle.history.proofs.Legal as of
use Rattle.mcapi_msg.proofs.Names.{◌≡◌, List, [], ◌∷◌, ◌++◌, refl, ◌∙◌, MsgState, MsgMove, apply_msg_move, after_each_move, MsgEntry, MsgIsNext, post, msg_row_of, msg_next, moves_of}
use Rattle.mcapi_msg.specs.Legal.{MsgLegalFrom, msg_after_from}

pub after-one : (s : MsgState) (L : List MsgEntry) (e : MsgEntry) → msg_after_from s (L ++ e ∷ []) ≡ msg_next (msg_after_from s L) e
unfolding msg_after_from
after-one s L e = of.after-append post s L (e ∷ [])

-- what may follow a legal list
pub Legal-one : (s : MsgState) (L : List MsgEntry) (e : MsgEntry) → MsgLegalFrom s L → MsgIsNext (msg_after_from s L) e → MsgLegalFrom s (L ++ e ∷ [])
unfolding MsgLegalFrom msg_after_from
Legal-one s L e h n = of.Legal-append post s L (e ∷ []) h (n, tt)

-- what follows a front is legal from its state on
pub Legal-rest : (s : MsgState) (L M : List MsgEntry) → MsgLegalFrom s (L ++ M) → MsgLegalFrom (msg_after_from s L) M
unfolding MsgLegalFrom msg_after_from
Legal-rest = of.Legal-rest post

pub first-legal : (s : MsgState) (e : MsgEntry) → MsgLegalFrom s (e ∷ []) → MsgIsNext s e
unfolding MsgLegalFrom
first-legal s e h = h.0

-- no move changes the terms
moves_keep : (ms : List MsgMove) (s : MsgState) → (after_each_move apply_msg_move ms s).terms ≡ s.terms
moves_keep [] s = refl
moves_keep (m ∷ ms) s = moves_keep ms _

pub after-terms : (s : MsgState) (L : List MsgEntry) → (msg_after_from s L).terms ≡ s.terms
unfolding msg_after_from
after-terms s [] = refl
after-terms s (e ∷ L) = after-terms (msg_next s e) L ∙ moves_keep (moves_of (msg_row_of s e)) s
