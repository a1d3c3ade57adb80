-- What was made under a journal's handles: by slots, the handles of the last generation, how many, and how many of them aren't live any more.
use Rattle.std.specs.Prelude.{◌≡◌, ℕ, ◌+◌, ◌≤◌, ◌==◌, List, if◌then◌else◌}
use Rattle.std.specs.Ordering.{nat_cmp}
use Rattle.std.specs.BTreeMap.{get}
use Rattle.mtapi_values.specs.declared.handles.ObjectKind.{ObjectKind}
use Rattle.mtapi_values.specs.declared.handles.ObjectKind.TheVariants.{Action, Task, Group, Queue, Mutex, Sem, Rwl, Shmem}
use Rattle.handle_pool.specs.Slots.{slot_of, generation_of}
use Rattle.mtapi_layouts.specs.Inward.{or_zero}
use Rattle.mtapi_machine.specs.State.{State}
use Rattle.mtapi_renaming.specs.Counts.{made_in, made_at}
use Rattle.mtapi_renaming.specs.Lasts.{lasts_of, with_last_handle}
use Rattle.mtapi_renaming.specs.Gone.{gone_in, taken_in}
use Rattle.journal_check.specs.declared.made.MadeOfKind.{MadeOfKind}
use Rattle.journal_check.specs.declared.made.Made.{Made}

-- how many were made in a slot
abbrev pub made_in_slot : MadeOfKind → ℕ → ℕ
made_in_slot m slot = or_zero (get nat_cmp m.counts slot)

-- the handles of the last generation, in the order in which they were given
abbrev pub last_handles : MadeOfKind → List ℕ
last_handles m = m.lasts.items

-- how many were made
abbrev pub made_count : MadeOfKind → ℕ
made_count m = m.made

-- at least so many of the last generation aren't live any more
abbrev pub gone_count : MadeOfKind → ℕ
gone_count m = m.gone

-- at least so many of the others
abbrev pub freed_count : MadeOfKind → ℕ
freed_count m = m.freed

-- with other numbers of these two
abbrev pub with_gone : ℕ → ℕ → MadeOfKind → MadeOfKind
with_gone gone freed m = record m { gone = gone; freed = freed }

-- what was made of a kind
abbrev pub of_kind : Made → ObjectKind → MadeOfKind
of_kind m Action = m.actions
of_kind m Task = m.tasks
of_kind m Group = m.groups
of_kind m Queue = m.queues
of_kind m Mutex = m.mutexes
of_kind m Sem = m.sems
of_kind m Rwl = m.rwls
of_kind m Shmem = m.segments

-- one object more is noted, whose handle this is: its generation is how many were made in its slot by now
pub record NotesOne (last handle : ℕ) (m n : MadeOfKind) : Type 0 where
  pub counts : (slot : ℕ) → made_in_slot n slot ≡ (if slot == slot_of handle then generation_of handle else made_in_slot m slot)
  pub lasts : last_handles n ≡ with_last_handle last handle (last_handles m)
  pub made : made_count n ≡ made_count m + 1
  pub gone : gone_count n ≡ gone_count m
  pub freed : freed_count n ≡ freed_count m

-- of this kind, and nothing of another
pub record NotesObject (kind : ObjectKind) (last handle : ℕ) (m n : Made) : Type 0 where
  pub one : NotesOne last handle (of_kind m kind) (of_kind n kind)
  pub others : (k : ObjectKind) → (k ≡ kind → ⊥) → of_kind n k ≡ of_kind m k

-- so many of this kind aren't live any more, of the last generation and of the others, and nothing else changes
pub record EndsObjects (kind : ObjectKind) (gone freed : ℕ) (m n : Made) : Type 0 where
  pub one : of_kind n kind ≡ with_gone gone freed (of_kind m kind)
  pub others : (k : ObjectKind) → (k ≡ kind → ⊥) → of_kind n k ≡ of_kind m k

-- one more than before, whose handle this is
abbrev pub EndsOne : ObjectKind → ℕ → ℕ → Made → Made → Type 0
EndsOne kind last handle m n =
    EndsObjects kind (gone_count (of_kind m kind) + (if generation_of handle == last then 1 else 0)) (freed_count (of_kind m kind)
    + (if generation_of handle == last then 0 else 1)) m n

-- what was noted is what was made in the state; of what isn't live any more no more is noted than there is
pub record TellsState (m : Made) (s : State) : Type 0 where
  pub counts : (k : ObjectKind) (h : ℕ) → made_in_slot (of_kind m k) (slot_of h) ≡ made_at k s h
  pub lasts : (k : ObjectKind) → last_handles (of_kind m k) ≡ lasts_of k s
  pub made : (k : ObjectKind) → made_count (of_kind m k) ≡ made_in k s
  pub gone : (k : ObjectKind) → gone_count (of_kind m k) ≤ gone_in k s
  pub freed : (k : ObjectKind) → freed_count (of_kind m k) + taken_in k s ≤ made_in k s
