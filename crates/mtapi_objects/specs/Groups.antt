-- Groups: the members of a group, and the order of their ends. The members of a group are the live tasks that name it.
use Rattle.std.specs.Prelude.{ℕ, Bool, true, false, ◌&&◌, ◌==◌, nat_lt, List, [], ◌∷◌, Option, Some, None, if◌then◌else◌}
use Rattle.std.specs.Option.{option_or}
use Rattle.mtapi_values.specs.declared.statuses.MtapiStatus.{MtapiStatus}
use Rattle.mtapi_values.specs.declared.statuses.MtapiStatus.TheVariants.{ErrTaskCancelled}
use Rattle.mtapi_values.specs.declared.ends.TaskEnd.{TaskEnd}
use Rattle.mtapi_values.specs.declared.ends.TaskEnd.TheVariants.{Completed, Cancelled, Failed}
use Rattle.mtapi_values.specs.Conditions.{holds}
use Rattle.handle_pool.specs.Issued.{Listed}
use Rattle.mtapi_objects.specs.Tasks.{Task, Notes, with_notes, end_of, is_unended}

-- a group has no fields
pub record Group : Type 0 where
  pub nothing : Unit {0}

abbrev pub new_group : Group
new_group = record { nothing = tt }

-- the task names the group
abbrev pub is_member : ℕ → Task → Bool
is_member g t = holds (λ h. h == g) t.notes.group

-- the task names the group and hasn't ended
abbrev pub is_unended_member : ℕ → Task → Bool
is_unended_member g t = is_member g t && is_unended t

-- a task that has ended, its end, and the number of its end
pub record Ending : Type 0 where
  pub task : ℕ
  pub end : TaskEnd
  pub number : ℕ

-- put in the order of ends
abbrev pub insert : Ending → List Ending → List Ending
insert e [] = e ∷ []
insert e (f ∷ fs) = if nat_lt e.number f.number then e ∷ f ∷ fs else f ∷ insert e fs

-- the same for a task that may have ended
abbrev pub insert_ended : ℕ → Option (TaskEnd × ℕ) → List Ending → List Ending
insert_ended h None es = es
insert_ended h (Some e) es = insert (record { task = h; end = e.0; number = e.1 }) es

-- the members that have ended, in the order of their ends
unfoldable pub endings : ℕ → List (ℕ × Task) → List Ending
endings g [] = []
endings g (t ∷ ts) = if is_member g t.1 then insert_ended t.0 (end_of t.1.state) (endings g ts) else endings g ts

-- what an end counts as where it isn't completed
abbrev pub fault_of : TaskEnd → Option MtapiStatus
fault_of (Completed args) = None
fault_of Cancelled = Some ErrTaskCancelled
fault_of (Failed c) = Some c

-- the first fault in the order of ends
abbrev pub first_fault : List Ending → Option MtapiStatus
first_fault [] = None
first_fault (e ∷ es) = option_or (fault_of e.end) (first_fault es)

-- it is in no group
abbrev pub in_no_group : Notes → Notes
in_no_group n = record n { group = None }

-- a member that is freed: it leaves the group and stops being live
abbrev pub freed : Listed Task → Listed Task
freed r = record { handle = r.handle; live = false; fields = with_notes in_no_group r.fields }

-- a member of a deleted group: it leaves it and becomes detached; an ended one stops being live
abbrev pub let_go : Listed Task → Listed Task
let_go r = record { handle = r.handle; live = r.live && is_unended r.fields; fields = with_notes (λ n. record n { group = None; detached = true }) r.fields }
