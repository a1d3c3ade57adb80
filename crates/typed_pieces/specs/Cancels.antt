-- What shows that the task of a piece was cancelled.
use Rattle.std.specs.Prelude.{◌≡◌, List, [], ◌∷◌, ◌++◌, Option, Some, None}
use Rattle.std.specs.declared.sync.OnceLock.{OnceLock}
use Rattle.std.specs.declared.sync.OnceToken.{OnceToken}
use Rattle.history.specs.Histories.{entry}
use Rattle.mtapi_values.specs.declared.handles.TaskHandle.{TaskHandle}
use Rattle.mtapi_machine.specs.declared.ops.Op.TheVariants.{TaskCancel}
use Rattle.mtapi_machine.specs.declared.replies.Reply.TheVariants as reply
use Rattle.mtapi_machine.specs.Legal.{NodeEntry}
use Rattle.workload_runners.specs.Turns.{Seat}

-- the last call of the seat was a cancel of this task, which the node carried out
pub record HasCancelled (task : TaskHandle) (s : Seat) : Type 0 where
  pub before : List NodeEntry
  pub last : s.mine ≡ before ++ entry s.number (TaskCancel task) reply.Ok ∷ []

-- where there is a lock, there is a token, which shows that this lock is set; and none where there is none
abbrev pub IsSet : {T : Type 0} → Option (OnceLock T) → Option (OnceToken T) → Type 0
IsSet (Some lock) (Some token) = token.of ≡ lock.id
IsSet None None = Unit {0}
IsSet _ _ = ⊥
