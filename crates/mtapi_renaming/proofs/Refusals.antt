-- What an op that makes an object is refused for is the same in the renamed state; with what else is known of refusals.
use Rattle.mtapi_renaming.proofs.Names.{◌≡◌, ℕ, Some, ObjectKind, Op, State, Renaming, Room, renamed, Follows, renamed_op, made_kind, refusal_of}
use Rattle.mtapi_renaming.proofs.CreateTable.{create_alike}
pub use Rattle.mtapi_renaming.proofs.Creates.{creates_none}
pub use Rattle.mtapi_renaming.proofs.Tells.{refusals_tell, refusals_plain, refusals_stay}

pub refusals_rename : {g : Renaming} {s : State} → Follows g s → (x : Room) (who : ℕ) (o : Op) (k : ObjectKind) → made_kind o ≡ Some k
    → refusal_of (renamed g x s) who (renamed_op g o) ≡ refusal_of s who o
refusals_rename n x who o k i = (create_alike n x 0 0 who k o i).same.same
