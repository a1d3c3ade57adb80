-- A list is legal exactly where its replay, in which the machine gives each reply, is the list itself.
use Rattle.history.specs.Replay.{replay_rows as replay_of}
use Rattle.history.proofs.Replay as of
use Rattle.mcapi_msg.proofs.Names.{◌≡◌, true, List, refl, MsgState, MsgEntry, post}
use Rattle.mcapi_msg.specs.Legal.{MsgLegalFrom}

-- the history as the machine makes it, up to an entry that no reply answers
unfoldable pub replay : MsgState → List MsgEntry → List MsgEntry
unfolding replay_of
replay = replay_of post (λ o. true) (λ o. o)

pub replay_if : (s : MsgState) (L : List MsgEntry) → MsgLegalFrom s L → replay s L ≡ L
unfolding MsgLegalFrom replay
replay_if = of.replay_if post (λ o. true) (λ o. o) (λ o h. (refl, refl)) (λ o h k. tt)

pub legal_if : (s : MsgState) (L : List MsgEntry) → replay s L ≡ L → MsgLegalFrom s L
unfolding MsgLegalFrom replay
legal_if = of.legal_if post (λ o. true) (λ o. o) (λ o h. (refl, refl)) (λ o h k. tt)
