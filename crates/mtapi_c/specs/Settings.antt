-- The settings that C asks for.
use Rattle.std.specs.Prelude.{◌≡◌, ◌⊎◌, ℕ, List, [], ◌∷◌, zero, suc, Bool, if◌then◌else◌}
use Rattle.mtapi_values.specs.declared.statuses.MtapiStatus.TheVariants.{ErrParameter}
use Rattle.mtapi_values.specs.Statuses.{mtapi_number}
use Rattle.mtapi_values.specs.declared.handles.Layout.TheVariants.{Two}
use Rattle.mtapi_values.specs.Attributes.{NodeSettings}
use Rattle.mtapi_values.specs.AttributeTables.{Attribute, is_within, node_attributes}
use Rattle.node_handle.specs.declared.handle.NodeHandle.{NodeHandle}
use Rattle.node_handle.specs.Handles.{IsNewNode}
use Rattle.mtapi_c.specs.declared.settings.Settings.{Settings}

-- the settings as those of a node
abbrev pub asked_settings : Settings → NodeSettings
asked_settings s = record {
  workers = s.workers;
  tasks = s.tasks;
  actions = s.actions;
  groups = s.groups;
  queues = s.queues;
  objects = s.objects;
  priorities = s.priorities;
  generations = s.generations;
}

-- the number of the first attribute that is out of its range, 0 where each is in it
abbrev pub first_wrong : {S : Type 0} → List (Attribute S) → S → ℕ
first_wrong [] s = 0
first_wrong (a ∷ table) s = if is_within a.least a.greatest (a.value s) then first_wrong table s else a.number

-- the first of two numbers that isn't 0
abbrev pub first_not_zero : ℕ → ℕ → ℕ
first_not_zero zero second = second
first_not_zero (suc first) second = suc first

-- the number of the first setting that is out of its range, 9 where only the number of callers is, 0 where there is none
abbrev pub wrong_of : Settings → ℕ → ℕ
wrong_of s callers = first_not_zero (first_wrong node_attributes (asked_settings s)) (if is_within 1 9 callers then 0 else 9)

-- a setting is out of its range, and the status is 3; else it is 0, or 99 where memory was short
abbrev pub TellsWrong : ℕ → ℕ → Type 0
TellsWrong zero status = (status ≡ 0) ⊎ (status ≡ 99)
TellsWrong (suc wrong) status = status ≡ mtapi_number ErrParameter

-- the status is 0, and the handle holds a new node with the settings, the callers and a journal as asked; else it is as it was
abbrev pub IfCreated : NodeHandle → Settings → ℕ → Bool → ℕ → NodeHandle → Type 0
IfCreated old s callers journal zero new = IsNewNode new (record {
  node = record { layout = Two; settings = asked_settings s; callers = callers };
  keeps = journal;
})
IfCreated old s callers journal (suc status) new = new ≡ old
