-- When a node answers that it may have no further task.
use Rattle.std.specs.Prelude.{◌≡◌, ℕ, ◌≤◌, true, List, [], ◌∷◌, ◌++◌, is_some}
use Rattle.mtapi_values.specs.declared.statuses.MtapiStatus.TheVariants.{ErrTaskLimit}
use Rattle.mtapi_values.specs.declared.handles.ObjectKind.TheVariants as kind
use Rattle.mtapi_machine.specs.declared.replies.Reply.TheVariants.{Mtapi}
use Rattle.mtapi_machine.specs.declared.terms.Terms.{Terms}
use Rattle.mtapi_machine.specs.Legal.{NodeEntry, Legal}
use Rattle.history_law.specs.Accepted.{accepted}
use Rattle.history_law.specs.Words.{entries_that, makes_object}

-- how many tasks these entries accepted
abbrev pub tasks_accepted : List NodeEntry → ℕ
tasks_accepted es = entries_that (λ e. is_some (accepted e)) es

-- the entry is a start or an enqueue of a task, and behind these the node has accepted as many tasks as it may have
pub record FindsNoRoom (terms : Terms) (before : List NodeEntry) (e : NodeEntry) : Type 0 where
  pub asked : makes_object kind.Task e.op ≡ true
  pub full : terms.settings.tasks ≤ tasks_accepted before

-- in a legal list an entry that is answered ErrTaskLimit is so
abbrev pub LimitIsReached : Type 0
LimitIsReached = (terms : Terms) (before : List NodeEntry) (e : NodeEntry) → Legal terms (before ++ e ∷ []) → e.reply ≡ Mtapi ErrTaskLimit
    → FindsNoRoom terms before e
