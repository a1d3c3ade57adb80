-- The state of a node of layout two as the node has it inside: the same state with every handle in layout one.
use Rattle.std.specs.Prelude.{List}
use Rattle.mtapi_values.specs.declared.handles.ObjectKind.{ObjectKind}
use Rattle.mtapi_values.specs.declared.handles.Layout.TheVariants.{One}
use Rattle.handle_pool.specs.Issued.{Listed}
use Rattle.mtapi_objects.specs.Tasks.{Task}
use Rattle.mtapi_machine.specs.declared.terms.Terms.{Terms}
use Rattle.mtapi_machine.specs.State.{State}
use Rattle.mtapi_renaming.specs.Renamed.{Room, renamed_list, renamed_task, renamed}
use Rattle.mtapi_layouts.specs.Inward.{inward}

-- a task, with the handles of its queue, its group, and its tally's mutex and segment turned
abbrev pub turned_task : Task → Task
turned_task t = renamed_task inward t

-- the terms of a node of layout one
abbrev pub in_layout_one : Terms → Terms
in_layout_one terms = record terms { layout = One }

-- layout one, and the limits of these terms
abbrev pub room_one : Terms → Room
room_one terms = record {
  layout = One;
  tasks = terms.settings.tasks;
  actions = terms.settings.actions;
  groups = terms.settings.groups;
  queues = terms.settings.queues;
  objects = terms.settings.objects;
  generations = terms.settings.generations;
}

-- the objects of a kind, with their handles turned, and their fields changed so
abbrev pub turned_list : {T : Type 0} → ObjectKind → (T → T) → List (Listed T) → List (Listed T)
turned_list k f l = renamed_list (inward k) f l

-- the state in layout one
abbrev pub state_in_one : State → State
state_in_one s = renamed inward (room_one s.terms) s
