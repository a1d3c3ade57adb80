-- The words of the laws: what an entry does, and what a list of one kind has.
use Rattle.std.specs.Prelude.{ℕ, ◌+◌, Bool, true, false, ◌&&◌, ◌==◌, List, [], ◌∷◌, is_some, if◌then◌else◌}
use Rattle.history_law.specs.Names.{ObjectKind, live_object, listed, Op, ActionCreate, TaskStart, TaskEnqueue, GroupCreate, QueueCreate, MutexCreate, SemCreate, RwlCreate, ShmemCreate, Reply, Handle, State, objects_of, NodeEntry}
use Rattle.mtapi_values.specs.declared.handles.ObjectKind.TheVariants as kind

-- some entry of the list passes
abbrev pub some_entry : (NodeEntry → Bool) → List NodeEntry → Bool
some_entry p [] = false
some_entry p (e ∷ es) = if p e then true else some_entry p es

-- how many entries of the list pass
abbrev pub entries_that : (NodeEntry → Bool) → List NodeEntry → ℕ
entries_that p [] = 0
entries_that p (e ∷ es) = (if p e then 1 else 0) + entries_that p es

-- how many objects of the kind were issued under the handle
abbrev pub times : ObjectKind → ℕ → State → ℕ
times k h s = listed h ((objects_of k).list s)

-- the handle is that of a live object of the kind
abbrev pub is_live_object : ObjectKind → ℕ → State → Bool
is_live_object k h s = is_some (live_object ((objects_of k).list s) h)

-- the op makes an object of the kind
abbrev pub makes_object : ObjectKind → Op → Bool
makes_object kind.Action (ActionCreate job kind cores) = true
makes_object kind.Task (TaskStart job args priority cores detached group) = true
makes_object kind.Task (TaskEnqueue q args cores detached group) = true
makes_object kind.Group GroupCreate = true
makes_object kind.Queue (QueueCreate id job priority limit ordered retain) = true
makes_object kind.Mutex (MutexCreate id recursive) = true
makes_object kind.Sem (SemCreate id limit) = true
makes_object kind.Rwl (RwlCreate id limit) = true
makes_object kind.Shmem (ShmemCreate id cells) = true
makes_object _ _ = false

-- the reply is this handle
abbrev pub is_this_handle : ℕ → Reply → Bool
is_this_handle h (Handle g) = g == h
is_this_handle h _ = false

-- the entry issues the handle to an object of the kind
abbrev pub issues : ObjectKind → ℕ → NodeEntry → Bool
issues k h e = makes_object k e.op && is_this_handle h e.reply
