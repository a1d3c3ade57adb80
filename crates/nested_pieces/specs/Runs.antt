-- What a run of work that splits says of its node.
use Rattle.std.specs.Prelude.{◌⊎◌}
use Rattle.mtapi_values.specs.Attributes.{NodeSettings}
use Rattle.mtapi_values.specs.declared.statuses.MtapiStatus.{MtapiStatus}
use Rattle.node_journals.specs.declared.entries.Journal.{Journal}
use Rattle.node_with_workers.specs.Runs.{IsRunBy, Refuses}
use Rattle.nested_workers.specs.Rounds.{NestsAs}
use Rattle.typed_pieces.specs.Runs.{HasAwaited, StopsAt}
use Rattle.typed_pieces.specs.declared.unfinished.Unfinished.{Unfinished}
use Rattle.nested_pieces.specs.declared.failure.NestFailure.{NestFailure}
use Rattle.nested_pieces.specs.declared.failure.NestFailure.TheVariants as failure

-- There is one legal history of a node with these settings and main alone, which main opened and ended. The journal is what is kept of it. In it
-- main's calls between are one that made an action, one that made a group, the start of the root in it, and looks until it was told that all tasks
-- of the group had ended. Each worker's entries are rounds in which it took a task, started others, and finished it.
abbrev pub HasRunNested : NodeSettings → Journal → Type 0
HasRunNested settings journal = IsRunBy {C = Unit {0}} {T = Unit {0}} NestsAs (λ _ old new _. HasAwaited 1 old new) tt settings tt journal

-- Main's opening of a node with these settings was refused with this status, or its end was; or, in a legal history of such a node that main
-- opened and ended, the last call between was: the one for the action, for the group, the start of the root, or a look.
abbrev pub RefusesNested : NodeSettings → MtapiStatus → Type 0
RefusesNested settings status =
    Refuses {C = Unit {0}} {T = Unit {0}} (λ _ _ _ _. Unit {0}) tt settings status
    ⊎ ((j : Journal) × IsRunBy {C = Unit {0}} {T = MtapiStatus} NestsAs (λ _ old new refused. StopsAt 1 refused old new) tt settings status j)

-- there is no result, and P says why; or there would have been too many pieces
abbrev pub NestFails : NestFailure → (Unfinished → Type 0) → Type 0
NestFails (failure.Run unfinished) P = P unfinished
NestFails failure.Limit P = Unit {0}
