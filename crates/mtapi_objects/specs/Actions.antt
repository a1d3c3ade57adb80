-- Actions under jobs: what an action is, and for which tasks it is eligible.
use Rattle.std.specs.Prelude.{ℕ, zero, suc, Bool, true, false, not, ◌&&◌, ◌==◌, nat_lt, nat_le, List, [], ◌∷◌, if◌then◌else◌}
use Rattle.mtapi_values.specs.declared.kinds.Kind.{Kind}
use Rattle.mtapi_values.specs.declared.statuses.MtapiStatus.{MtapiStatus}
use Rattle.mtapi_values.specs.declared.statuses.MtapiStatus.TheVariants.{ErrJobInvalid}
use Rattle.mtapi_values.specs.Masks.{in_mask}
use Rattle.handle_pool.specs.Issued.{any_live}

-- one implementation of a job: its kind, the cores that may run it as a mask, and whether it is enabled
pub record Action : Type 0 where
  pub job : ℕ
  pub kind : Kind
  pub cores : ℕ
  pub enabled : Bool

-- a new action is enabled
abbrev pub new_action : ℕ → Kind → ℕ → Action
new_action job kind cores = record { job = job; kind = kind; cores = cores; enabled = true }

-- a job is a number from 1 to 65,535
abbrev pub is_job : ℕ → Bool
is_job job = nat_le 1 job && nat_le job 65535

-- what a create refuses, before it looks for room
abbrev pub action_create_refusals : ℕ → List (Bool × MtapiStatus)
action_create_refusals job = (not (is_job job), ErrJobInvalid) ∷ []

-- the action, enabled or disabled
abbrev pub with_enabled : Bool → Action → Action
with_enabled on a = record a { enabled = on }

-- the action has this job
abbrev pub has_job : ℕ → Action → Bool
has_job job a = a.job == job

-- the action is enabled and has this job
abbrev pub has_enabled_job : ℕ → Action → Bool
has_enabled_job job a = a.enabled && (a.job == job)

-- with so many workers, on this worker, the action may run a task of this job and this mask
abbrev pub is_eligible : ℕ → ℕ → ℕ → ℕ → Action → Bool
is_eligible workers w job cores a = has_enabled_job job a && nat_lt w workers && in_mask w a.cores && in_mask w cores

-- some number below the bound passes
abbrev pub some_below : ℕ → (ℕ → Bool) → Bool
some_below zero p = false
some_below (suc n) p = if p n then true else some_below n p

-- some worker has an eligible action for a task of this job and this mask
unfoldable pub has_worker : ℕ → ℕ → ℕ → List (ℕ × Action) → Bool
has_worker workers job cores actions = some_below workers (λ w. any_live (is_eligible workers w job cores) actions)
