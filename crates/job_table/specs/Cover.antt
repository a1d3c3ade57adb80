-- Covers of the actions walked so far, and the lists of actions by their jobs.
use Rattle.std.specs.Prelude.{◌≡◌, ℕ, ◌<◌, ◌≤◌, ◌%◌, true, false, List, length, Some, slice_get, if◌then◌else◌, bit_or}
use Rattle.handle_pool.specs.Slots.{Slots, slot_value, max_of}
use Rattle.handle_pool.specs.Walks.{SomeLive}
use Rattle.linked_places.specs.Lists.{HandleLists, list_at, has_handle}
use Rattle.mtapi_values.specs.Masks.{in_mask}
use Rattle.mtapi_objects.specs.Actions.{Action, has_job, has_enabled_job}
use Rattle.job_table.specs.Answers.{Passes, runs_job_on}
use Rattle.job_table.specs.declared.cover.Cover.{Cover}
use Rattle.job_table.specs.declared.cover.Cover.TheVariants.{NoAction, AllDisabled, Cores}

-- the cores that a cover has
abbrev pub mask_of : Cover → ℕ
mask_of NoAction = 0
mask_of AllDisabled = 0
mask_of (Cores mask) = mask.0

-- a cover where there is an action that is disabled
abbrev pub some_disabled : Cover → Cover
some_disabled NoAction = AllDisabled
some_disabled AllDisabled = AllDisabled
some_disabled (Cores mask) = Cores mask

-- the cover with one more action of the job
abbrev pub cover_with : Cover → Action → Cover
cover_with cover a = if a.enabled then Cores (record { 0 = bit_or (mask_of cover) a.cores }) else some_disabled cover

-- no handle of the list before this index has a value of which this holds
abbrev pub NoneBefore : Slots Action → List ℕ → ℕ → (Action → Type 0) → Type 0
NoneBefore p hs index P = (i h : ℕ) (a : Action) → i < index → slice_get hs i ≡ Some h → slot_value p h ≡ Some a → P a → ⊥

-- a core is in the mask exactly where it is in the mask of an enabled action of the job before this index
pub record IsUnionBefore (p : Slots Action) (hs : List ℕ) (index job mask : ℕ) : Type 0 where
  pub covered : (core : ℕ) → in_mask core mask ≡ true → SomeLive (slot_value p) (Passes (runs_job_on job core))
  pub uncovered : (core : ℕ) → in_mask core mask ≡ false → NoneBefore p hs index (Passes (runs_job_on job core))

-- the cover of the actions before this index
abbrev pub CoversBefore : Slots Action → List ℕ → ℕ → ℕ → Cover → Type 0
CoversBefore p hs index job NoAction = NoneBefore p hs index (Passes (has_job job))
CoversBefore p hs index job AllDisabled = SomeLive (slot_value p) (Passes (has_job job)) × NoneBefore p hs index (Passes (has_enabled_job job))
CoversBefore p hs index job (Cores mask) = SomeLive (slot_value p) (Passes (has_enabled_job job)) × IsUnionBefore p hs index job mask.0

-- the number of the list of a job, of so many
abbrev pub list_of_job : ℕ → ℕ → ℕ
list_of_job lists job = job % lists

-- there are as many lists as places; a live action stands in the list of its job, and what stands in a list is live
pub record AreListed (p : Slots Action) (jobs : HandleLists) : Type 0 where
  pub some : 1 ≤ max_of p
  pub few : max_of p ≤ 65536
  pub places : jobs.places ≡ max_of p
  pub lists : length jobs.lists ≡ max_of p
  pub listed : (h : ℕ) (a : Action) → slot_value p h ≡ Some a → has_handle h (list_at jobs.lists (list_of_job (max_of p) a.job)) ≡ true
  pub live : (n h : ℕ) → has_handle h (list_at jobs.lists n) ≡ true → (a : Action) × (slot_value p h ≡ Some a)
