-- What each call on actions answers, and what it leaves.
use Rattle.std.specs.Prelude.{◌≡◌, ℕ, Bool, true, false, ◌&&◌, Option, Some, None, Result, Ok, Err}
use Rattle.mtapi_values.specs.declared.kinds.Kind.{Kind}
use Rattle.mtapi_values.specs.declared.handles.ActionHandle.{ActionHandle}
use Rattle.mtapi_values.specs.declared.statuses.MtapiStatus.{MtapiStatus}
use Rattle.mtapi_values.specs.declared.statuses.MtapiStatus.TheVariants.{ErrActionInvalid, ErrActionLimit}
use Rattle.mtapi_values.specs.Conditions.{first}
use Rattle.mtapi_values.specs.Masks.{in_mask}
use Rattle.handle_pool.specs.Slots.{Slots, slot_value, IsFull, Inserts}
use Rattle.handle_pool.specs.Walks.{SomeLive, NoneLive}
use Rattle.mtapi_objects.specs.Actions.{Action, new_action, action_create_refusals, has_job, has_enabled_job}
use Rattle.job_table.specs.declared.cover.Cover.{Cover}
use Rattle.job_table.specs.declared.cover.Cover.TheVariants.{NoAction, AllDisabled, Cores}

-- the value passes the test
abbrev pub Passes : {T : Type 0} → (T → Bool) → T → Type 0
Passes p x = p x ≡ true

-- a create: a number that is no job first, then a full pool; else a new action under a handle
abbrev pub CreatesAction : Slots Action → ℕ → Kind → ℕ → Result ActionHandle MtapiStatus → Slots Action → Type 0
CreatesAction old job kind cores (Ok a) new = (first (action_create_refusals job) ≡ None) × (IsFull old → ⊥) × Inserts old new a.0 (new_action job kind cores)
CreatesAction old job kind cores (Err ErrActionLimit) new = (first (action_create_refusals job) ≡ None) × IsFull old × (new ≡ old)
CreatesAction old job kind cores (Err status) new = (first (action_create_refusals job) ≡ Some status) × (new ≡ old)

-- the job of a live action
abbrev pub job_of : Option Action → Result ℕ MtapiStatus
job_of None = Err ErrActionInvalid
job_of (Some a) = Ok a.job

-- the action is enabled, has this job, and this core is in its mask
abbrev pub runs_job_on : ℕ → ℕ → Action → Bool
runs_job_on job core a = has_enabled_job job a && in_mask core a.cores

-- a core is in the mask exactly where it is in the mask of some live, enabled action of the job
pub record IsUnion (actions : Slots Action) (job mask : ℕ) : Type 0 where
  pub covered : (core : ℕ) → in_mask core mask ≡ true → SomeLive (slot_value actions) (Passes (runs_job_on job core))
  pub uncovered : (core : ℕ) → in_mask core mask ≡ false → NoneLive (slot_value actions) (Passes (runs_job_on job core))

-- no live action has the job; there is one and none is enabled; else the union of the masks of the enabled ones
abbrev pub Covers : Slots Action → ℕ → Cover → Type 0
Covers actions job NoAction = NoneLive (slot_value actions) (Passes (has_job job))
Covers actions job AllDisabled = SomeLive (slot_value actions) (Passes (has_job job)) × NoneLive (slot_value actions) (Passes (has_enabled_job job))
Covers actions job (Cores mask) = SomeLive (slot_value actions) (Passes (has_enabled_job job)) × IsUnion actions job mask.0

-- some live, enabled action of the job whose mask has the worker, or there is none
abbrev pub Chooses : Slots Action → ℕ → ℕ → Option (ActionHandle × Kind) → Type 0
Chooses actions job worker None = NoneLive (slot_value actions) (Passes (runs_job_on job worker))
Chooses actions job worker (Some chosen) = (a : Action) × (slot_value actions chosen.0.0 ≡ Some a) × (a.kind ≡ chosen.1) × Passes (runs_job_on job worker) a
