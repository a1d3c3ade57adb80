-- The rows of the ops on jobs and actions.
use Rattle.std.specs.Prelude.{ℕ, false, not, [], ◌∷◌, pos}
use Rattle.mtapi_machine.specs.Names.{Kind, Mask, any_listed, gone, with_fields, new_action, action_create_refusals, has_job, with_enabled}
use Rattle.mtapi_values.specs.declared.statuses.MtapiStatus.TheVariants as m
use Rattle.mtapi_machine.specs.declared.replies.Reply.{Reply}
use Rattle.mtapi_machine.specs.declared.replies.Reply.TheVariants.{Ok, Number, Mtapi}
use Rattle.mtapi_machine.specs.State.{State, actions}
use Rattle.mtapi_machine.specs.Moves.{makes_action, enables, withdraws}
use Rattle.mtapi_machine.specs.Row.{Row, unless, says, gives, mtapi_unless, mtapi, mtapi_open, on, creates}

-- some live action has the job
abbrev pub job_get : State → ℕ → Row
job_get s job = mtapi s (unless (not (any_listed (has_job job) s.actions)) (Mtapi m.ErrJobInvalid) (says (Number (pos job))))

-- a new action is enabled
abbrev pub action_create : State → Reply → ℕ → Kind → Mask → Row
action_create s r job kind cores =
    mtapi_open s (mtapi_unless (action_create_refusals job) (creates actions s r (λ h. makes_action h (new_action job kind cores.0))))

-- the action stops being live, and the tasks that no worker can take any more fail
abbrev pub action_delete : State → ℕ → Row
action_delete s a = mtapi_open s (on actions s a (λ x. gives Ok (withdraws a gone m.ErrActionDeleted ∷ [])))

-- the action stays live, and the tasks that no worker can take any more fail
abbrev pub action_disable : State → ℕ → Row
action_disable s a = mtapi_open s (on actions s a (λ x. gives Ok (withdraws a (with_fields (with_enabled false)) m.ErrActionDisabled ∷ [])))

-- the action may be taken again
abbrev pub action_enable : State → ℕ → Row
action_enable s a = mtapi_open s (on actions s a (λ x. gives Ok (enables a ∷ [])))
