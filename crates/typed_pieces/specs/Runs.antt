-- What a run of pieces says of its node.
use Rattle.std.specs.Prelude.{◌≡◌, ◌<◌, ◌≤◌, ◌-◌, ◌^◌, ◌⊎◌, ℕ, suc, pos, false, List, [], ◌∷◌, ◌++◌, length, replicate, Some}
use Rattle.history.specs.Histories.{entry}
use Rattle.mtapi_values.specs.Attributes.{NodeSettings}
use Rattle.mtapi_values.specs.declared.handles.GroupHandle.{GroupHandle}
use Rattle.mtapi_values.specs.declared.kinds.Kind.TheVariants.{Echo}
use Rattle.mtapi_values.specs.declared.masks.Mask.{Mask}
use Rattle.mtapi_values.specs.declared.statuses.MtapiStatus.{MtapiStatus}
use Rattle.mtapi_values.specs.declared.statuses.MtapiStatus.TheVariants.{ErrSpent, ErrTaskLimit}
use Rattle.mtapi_machine.specs.declared.ops.Op.{Op}
use Rattle.mtapi_machine.specs.declared.ops.Op.TheVariants.{ActionCreate, GroupCreate, TaskStart, AllLook}
use Rattle.mtapi_machine.specs.declared.replies.Reply.TheVariants as reply
use Rattle.mtapi_machine.specs.Legal.{NodeEntry}
use Rattle.node_journals.specs.declared.entries.Journal.{Journal}
use Rattle.workload_runners.specs.Turns.{Seat, SameNodeSeat}
use Rattle.node_with_workers.specs.Runs.{IsClientRun, Refuses}
use Rattle.node_with_workers.specs.declared.failure.Failure.{Failure}
use Rattle.typed_pieces.specs.declared.unfinished.Unfinished.{Unfinished}
use Rattle.typed_pieces.specs.declared.unfinished.Unfinished.TheVariants as unfinished

-- There is one legal history of a node with these settings and main alone, which main opened and ended. The journal is what is kept of it.
abbrev pub HasRun : NodeSettings → Journal → Type 0
HasRun settings journal = IsClientRun {C = Unit {0}} {T = Unit {0}} (λ _ _ _ _. Unit {0}) tt settings tt journal

-- the usual affinity: every worker
abbrev pub every_worker : Mask
every_worker = record { 0 = 2 ^ 64 - 1 }

-- the starts of the pieces at the places from this one on, each in this group, which gave these tasks
abbrev pub starts_of : ℕ → GroupHandle → ℕ → List ℕ → List NodeEntry
starts_of who group place [] = []
starts_of who group place (task ∷ tasks) =
    entry who (TaskStart 1 (pos place ∷ []) 0 every_worker false (Some group)) (reply.Handle task) ∷ starts_of who group (suc place) tasks

-- the seat made these calls, and no other one
pub record MadeJust (calls : List NodeEntry) (old new : Seat) : Type 0 where
  pub same : SameNodeSeat old new
  pub mine : new.mine ≡ old.mine ++ calls

-- the seat made these calls alone: one that made an action of kind echo, one that made this group, and a start in it of the piece at each of the
-- first places, so many
pub record HasStarted (group : GroupHandle) (places : ℕ) (old new : Seat) : Type 0 where
  pub action : ℕ
  pub tasks : List ℕ
  pub many : length tasks ≡ places
  pub made : MadeJust (entry old.number (ActionCreate 1 Echo every_worker) (reply.Handle action) ∷ entry old.number GroupCreate (reply.Handle group.0)
      ∷ starts_of old.number group 0 tasks) old new

-- the same, and then looks at the group alone, of which the last was told that all its tasks have ended
pub record HasAwaited (places : ℕ) (old new : Seat) : Type 0 where
  pub group : GroupHandle
  pub before : Seat
  pub started : HasStarted group places old before
  pub looks : ℕ
  pub waited : MadeJust (replicate looks (entry before.number (AllLook group false) reply.Pending)
      ++ entry before.number (AllLook group false) reply.Ok ∷ []) before new

-- the seat made these calls alone, and then this one, which was refused with this status
abbrev pub IsRefusedBehind : List NodeEntry → Op → MtapiStatus → Seat → Seat → Type 0
IsRefusedBehind calls o status old new = MadeJust (calls ++ entry old.number o (reply.Mtapi status) ∷ []) old new

-- The last call of a seat that was to start so many pieces and wait for them was refused with this status, and which one that was: the one for the
-- action, for the group behind it, the start of the piece behind so many that were started, or a look at the group behind all of them. Or a further
-- one wasn't made, since the turns were used up.
pub data StopsAt (places : ℕ) (status : MtapiStatus) (old new : Seat) : Type 0 where
  at_action : IsRefusedBehind [] (ActionCreate 1 Echo every_worker) status old new → StopsAt places status old new
  at_group : (action : ℕ) → IsRefusedBehind (entry old.number (ActionCreate 1 Echo every_worker) (reply.Handle action) ∷ []) GroupCreate status old new
      → StopsAt places status old new
  at_start : (group : GroupHandle) (place : ℕ) (before : Seat) → place < places → HasStarted group place old before
      → IsRefusedBehind [] (TaskStart 1 (pos place ∷ []) 0 every_worker false (Some group)) status before new → StopsAt places status old new
  at_look : (group : GroupHandle) (before : Seat) (looks : ℕ) → HasStarted group places old before
      → IsRefusedBehind (replicate looks (entry before.number (AllLook group false) reply.Pending)) (AllLook group false) status before new
      → StopsAt places status old new
  spent : status ≡ ErrSpent → 2 ^ 62 ≤ new.shown → StopsAt places status old new

-- the same, and in that history main's calls between its opening and its end are those that start a task for the piece at each of so many places,
-- and its looks until it was told that all of them had ended
abbrev pub HasRunAll : NodeSettings → ℕ → Journal → Type 0
HasRunAll settings places journal = IsClientRun {C = Unit {0}} {T = Unit {0}} (λ _ old new _. HasAwaited places old new) tt settings tt journal

-- the last call of this seat was refused with this status; or a further one wasn't made, since the turns were used up
abbrev pub EndsRefused : MtapiStatus → Seat → Type 0
EndsRefused status s =
    ((before : List NodeEntry) × (o : Op) × (s.mine ≡ before ++ entry s.number o (reply.Mtapi status) ∷ [])) ⊎ ((status ≡ ErrSpent) × (2 ^ 62 ≤ s.shown))

-- Main's opening of a node with these settings was refused with this status, or its end was; or, in a legal history of such a node that main
-- opened and ended, the last call between was.
abbrev pub RefusesPieces : NodeSettings → MtapiStatus → Type 0
RefusesPieces settings status =
    Refuses {C = Unit {0}} {T = Unit {0}} (λ _ _ _ _. Unit {0}) tt settings status
    ⊎ ((j : Journal) × IsClientRun {C = Unit {0}} {T = MtapiStatus} (λ _ _ s refused. EndsRefused refused s) tt settings status j)

-- the status says that the node may have no further task only where there are more pieces than tasks
abbrev pub MeansTooMany : NodeSettings → ℕ → MtapiStatus → Type 0
MeansTooMany settings places status = status ≡ ErrTaskLimit → settings.tasks < places

-- the node failed so that this holds of its failure, or a piece has no result
abbrev pub FailsBy : Unfinished → (Failure → Type 0) → Type 0
FailsBy (unfinished.Node f) P = P f
FailsBy (unfinished.Refused refusal) P = ⊥
FailsBy (unfinished.NoResult place) P = Unit {0}

-- if a piece has no result, this holds of its place
abbrev pub IfNoResult : Unfinished → (ℕ → Type 0) → Type 0
IfNoResult (unfinished.Node f) P = Unit {0}
IfNoResult (unfinished.Refused refusal) P = Unit {0}
IfNoResult (unfinished.NoResult place) P = P place
