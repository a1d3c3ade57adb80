-- When a handle may be given and when a kind has no room, by counts alone, and how the counts change.
use Rattle.std.specs.Prelude.{◌≡◌, ℕ, ◌+◌, ◌<◌, Bool, ◌&&◌, ◌==◌, nat_le, List, length, None, Some, if◌then◌else◌}
use Rattle.mtapi_renaming.specs.Names.{ObjectKind, Action, Group, Queue, Mutex, Sem, Rwl, Shmem, names_kind, slot_of, generation_of, issued_at, Terms, Op, Reply, Handle, State, objects_of, actions, tasks, groups, queues, mutexes, sems, rwls, segments, Allows, after_row, row, NodeEntry, after}
use Rattle.mtapi_values.specs.declared.handles.ObjectKind.TheVariants.{Task}
use Rattle.mtapi_renaming.specs.Kinds.{made_kind, live_in, is_full_of, is_fresh_of}

-- how many objects of the kind were made
abbrev pub made_in : ObjectKind → State → ℕ
made_in k s = length ((objects_of k).list s)

-- how many of them in the slot of this handle
abbrev pub made_at : ObjectKind → State → ℕ → ℕ
made_at k s h = issued_at h ((objects_of k).list s)

-- how many objects of the kind there may be
abbrev pub most_of : ObjectKind → State → ℕ
most_of Action s = actions.max s.terms.settings
most_of Task s = tasks.max s.terms.settings
most_of Group s = groups.max s.terms.settings
most_of Queue s = queues.max s.terms.settings
most_of Mutex s = mutexes.max s.terms.settings
most_of Sem s = sems.max s.terms.settings
most_of Rwl s = rwls.max s.terms.settings
most_of Shmem s = segments.max s.terms.settings

-- the handle names the kind, and is of the next generation of its slot, which is no later than the last
abbrev pub is_next_of : ObjectKind → State → ℕ → Bool
is_next_of k s h = names_kind s.terms.layout k h && (nat_le (generation_of h) s.terms.settings.generations && (generation_of h == made_at k s h + 1))

-- after any entries a handle may be given exactly where it is the next of its slot
abbrev pub FreshIsNext : Type 0
FreshIsNext = (terms : Terms) (L : List NodeEntry) (k : ObjectKind) (h : ℕ) → is_fresh_of k (after terms L) h ≡ is_next_of k (after terms L) h

-- where fewer objects of a kind were made than a slot has generations, it has no room exactly where as many are live as there may be
abbrev pub FullIsLive : Type 0
FullIsLive = (terms : Terms) (L : List NodeEntry) (k : ObjectKind) → made_in k (after terms L) < (after terms L).terms.settings.generations
    → is_full_of k (after terms L) ≡ (live_in k (after terms L) == most_of k (after terms L))

-- after any entries the terms are those of the start
abbrev pub TermsStay : Type 0
TermsStay = (terms : Terms) (L : List NodeEntry) → (after terms L).terms ≡ terms

-- one object more of this kind was made, under this handle, and none of another kind
pub record MakesOne (s t : State) (k : ObjectKind) (h : ℕ) : Type 0 where
  pub one : made_in k t ≡ made_in k s + 1
  pub slot : (j : ℕ) → made_at k t j ≡ made_at k s j + (if slot_of h == slot_of j then 1 else 0)
  pub others : (i : ObjectKind) → (i ≡ k → ⊥) → made_in i t ≡ made_in i s
  pub other_slots : (i : ObjectKind) → (i ≡ k → ⊥) → (j : ℕ) → made_at i t j ≡ made_at i s j

-- so an op does that makes an object and answers its handle
abbrev pub CreatesMakeOne : Type 0
CreatesMakeOne = (s : State) (who : ℕ) (op : Op) (k : ObjectKind) (h : ℕ) → made_kind op ≡ Some k → Allows (row s who op (Handle h)) (Handle h)
    → MakesOne s (after_row s (row s who op (Handle h))) k h

-- an op that makes nothing leaves the counts
pub record MakesNone (s t : State) : Type 0 where
  pub counts : (k : ObjectKind) → made_in k t ≡ made_in k s
  pub slots : (k : ObjectKind) (j : ℕ) → made_at k t j ≡ made_at k s j

abbrev pub OthersMakeNone : Type 0
OthersMakeNone = (s : State) (who : ℕ) (op : Op) (r : Reply) → made_kind op ≡ None → MakesNone s (after_row s (row s who op r))
