-- A state with other handles and other limits.
use Rattle.std.specs.Prelude.{ℕ, List, option_map}
use Rattle.mtapi_values.specs.declared.handles.ObjectKind.TheVariants as kind
use Rattle.mtapi_values.specs.declared.handles.Layout.{Layout}
use Rattle.mtapi_values.specs.Attributes.{NodeSettings}
use Rattle.mtapi_renaming.specs.Names.{Listed, Notes, TallyNotes, Terms, State}
use Rattle.handle_pool.specs.Inside.{inside}
use Rattle.mtapi_objects.specs.Tasks.{Task}
use Rattle.mtapi_renaming.specs.Renaming.{Renaming}

-- how handles are made, how many objects of each kind there may be, and how often a slot is used: all of the terms that no reply
-- speaks of but those of creates
pub record Room : Type 0 where
  pub layout : Layout
  pub tasks : ℕ
  pub actions : ℕ
  pub groups : ℕ
  pub queues : ℕ
  pub objects : ℕ
  pub generations : ℕ

-- the settings with these limits; the workers and the priorities stay
abbrev pub settings_in : Room → NodeSettings → NodeSettings
settings_in x a = record a { tasks = x.tasks; actions = x.actions; groups = x.groups; queues = x.queues; objects = x.objects; generations = x.generations }

-- the terms so; the callers stay
abbrev pub terms_in : Room → Terms → Terms
terms_in x terms = record terms { layout = x.layout; settings = settings_in x terms.settings }

-- what a tally has done, with the other handles of its mutex and its segment
abbrev pub renamed_tally : Renaming → TallyNotes → TallyNotes
renamed_tally g t = record t { mutex = g kind.Mutex t.mutex; segment = g kind.Shmem t.segment }

-- what is noted of a task, with the other handle of its group
abbrev pub renamed_notes : Renaming → Notes → Notes
renamed_notes g n = record n { group = option_map (g kind.Group) n.group; tally = renamed_tally g n.tally }

-- a task, with the other handle of its queue and those among its notes
abbrev pub renamed_task : Renaming → Task → Task
renamed_task g t = record t { queue = option_map (g kind.Queue) t.queue; notes = renamed_notes g t.notes }

-- the objects of a kind, each with its other handle and its fields changed so
abbrev pub renamed_list : {T : Type 0} → (ℕ → ℕ) → (T → T) → List (Listed T) → List (Listed T)
renamed_list f c l = inside f (λ h x. c x) l

-- the state, with the other handle of each object and with other limits
abbrev pub renamed : Renaming → Room → State → State
renamed g x s = record s {
  terms = terms_in x s.terms;
  actions = renamed_list (g kind.Action) (λ y. y) s.actions;
  tasks = renamed_list (g kind.Task) (renamed_task g) s.tasks;
  groups = renamed_list (g kind.Group) (λ y. y) s.groups;
  queues = renamed_list (g kind.Queue) (λ y. y) s.queues;
  mutexes = renamed_list (g kind.Mutex) (λ y. y) s.mutexes;
  sems = renamed_list (g kind.Sem) (λ y. y) s.sems;
  rwls = renamed_list (g kind.Rwl) (λ y. y) s.rwls;
  segments = renamed_list (g kind.Shmem) (λ y. y) s.segments;
}
