-- What a quiet history grants: what was made stays as it was made, and calls are not refused.
use Rattle.std.specs.Prelude.{◌≡◌, ℕ, ◌<◌, ◌≤◌, ◌==◌, Bool, true, false, ◌&&◌, List, [], ◌∷◌, ◌++◌, ℤ, Option, Some, None}
use Rattle.settled_runs.specs.Names.{Kind, Mask, GroupHandle, entry, live_object, new_action, is_job, new_group, Op, Initialize, ActionCreate, TaskStart, TaskEnqueue, GroupCreate, QueueCreate, Reply, Ok, Handle, Terms, State, objects_of, new_queue, NodeEntry, Legal, after, NoClose, AreQuiet}
use Rattle.mtapi_values.specs.declared.handles.QueueHandle.{QueueHandle}
use Rattle.mtapi_values.specs.declared.handles.ObjectKind.{ObjectKind}
use Rattle.mtapi_values.specs.declared.handles.ObjectKind.TheVariants as kinds
use Rattle.mtapi_values.specs.Masks.{in_mask}
use Rattle.history_law.specs.Words.{makes_object, some_entry, entries_that}

-- What was made

-- the live action, queue or group of this handle is the one that the op makes
abbrev pub IsThere : Op → ℕ → State → Type 0
IsThere (ActionCreate job kind cores) h s = live_object s.actions h ≡ Some (new_action job kind cores.0)
IsThere (QueueCreate id job priority limit ordered retain) h s = live_object s.queues h ≡ Some (new_queue id job priority limit ordered retain)
IsThere GroupCreate h s = live_object s.groups h ≡ Some new_group
IsThere _ h s = Unit {0}

-- one of these entries made such an object under this handle
pub record MadeObject (o : Op) (h : ℕ) (L : List NodeEntry) : Type 0 where
  pub before : List NodeEntry
  pub who : ℕ
  pub behind : List NodeEntry
  pub is : L ≡ before ++ entry who o (Handle h) ∷ behind

-- what a quiet history made is there at its end
abbrev pub MadeObjectsStay : Type 0
MadeObjectsStay = (terms : Terms) (L : List NodeEntry) (o : Op) (h : ℕ) → Legal terms L → AreQuiet L → MadeObject o h L → IsThere o h (after terms L)

-- When a call is granted

-- one of these entries opened the node, and none of those behind it closes it
pub record IsOpened (L : List NodeEntry) : Type 0 where
  pub before : List NodeEntry
  pub who : ℕ
  pub behind : List NodeEntry
  pub is : L ≡ before ++ entry who Initialize Ok ∷ behind
  pub unclosed : NoClose behind

abbrev pub is_any_handle : Reply → Bool
is_any_handle (Handle h) = true
is_any_handle _ = false

-- the entry made an object of the kind
abbrev pub makes_one : ObjectKind → NodeEntry → Bool
makes_one k e = makes_object k e.op && is_any_handle e.reply

-- these entries made fewer objects of the kind than the settings allow
abbrev pub HasObjectRoom : Terms → ObjectKind → List NodeEntry → Type 0
HasObjectRoom terms k L = entries_that (makes_one k) L < (objects_of k).max terms.settings

-- one of these entries made an action of the job
pub record HasAction (L : List NodeEntry) (job : ℕ) : Type 0 where
  pub kind : Kind
  pub mask : Mask
  pub handle : ℕ
  pub made : MadeObject (ActionCreate job kind mask) handle L

-- one made an action of the job, and a worker is in its mask and in this one
pub record IsJobServed (terms : Terms) (L : List NodeEntry) (job cores : ℕ) : Type 0 where
  pub kind : Kind
  pub mask : Mask
  pub handle : ℕ
  pub made : MadeObject (ActionCreate job kind mask) handle L
  pub worker : ℕ
  pub is_worker : worker < terms.settings.workers
  pub in_action : in_mask worker mask.0 ≡ true
  pub in_task : in_mask worker cores ≡ true

-- one of these entries made the group, if there is any
abbrev pub GroupIsMade : Option GroupHandle → List NodeEntry → Type 0
GroupIsMade None L = Unit {0}
GroupIsMade (Some g) L = MadeObject GroupCreate g.0 L

-- the op makes a queue of this id
abbrev pub makes_queue : ℕ → Op → Bool
makes_queue id (QueueCreate other job priority limit ordered retain) = other == id
makes_queue id _ = false

-- the op puts a task into this queue, and the entry did
abbrev pub puts : ℕ → Op → Bool
puts q (TaskEnqueue other args cores detached group) = other.0 == q
puts q _ = false

abbrev pub did_put_into : ℕ → NodeEntry → Bool
did_put_into q e = puts q e.op && is_any_handle e.reply

-- the list is quiet and legal with this entry behind it, and the node is open before the entry
pub record Asks (terms : Terms) (L : List NodeEntry) (who : ℕ) (o : Op) (r : Reply) : Type 0 where
  pub legal : Legal terms (L ++ entry who o r ∷ [])
  pub quiet : AreQuiet L
  pub opened : IsOpened L

-- the reply is a handle
abbrev pub IsGranted : Reply → Type 0
IsGranted r = (h : ℕ) × (r ≡ Handle h)

-- the queue of an enqueue, as it was made
pub record IsQueued (L : List NodeEntry) (q job priority : ℕ) : Type 0 where
  pub id : ℕ
  pub limit : ℕ
  pub ordered : Bool
  pub retain : Bool
  pub made : MadeObject (QueueCreate id job priority limit ordered retain) q L
  pub few : entries_that (did_put_into q) L < limit

-- an action, a group, a task and a queue are made where there is room for them and all that they need was made before
pub record CallsAreGranted (terms : Terms) (L : List NodeEntry) (who : ℕ) (r : Reply) : Type 0 where
  pub action : (job : ℕ) (kind : Kind) (cores : Mask) → Asks terms L who (ActionCreate job kind cores) r → is_job job ≡ true
      → HasObjectRoom terms kinds.Action L
      → IsGranted r
  pub group : Asks terms L who GroupCreate r → HasObjectRoom terms kinds.Group L → IsGranted r
  pub start : (job : ℕ) (args : List ℤ) (priority : ℕ) (cores : Mask) (group : Option GroupHandle)
      → Asks terms L who (TaskStart job args priority cores false group) r
      → priority < terms.settings.priorities → HasObjectRoom terms kinds.Task L → IsJobServed terms L job cores.0 → GroupIsMade group L → IsGranted r
  pub queue : (id job priority limit : ℕ) (ordered retain : Bool) → Asks terms L who (QueueCreate id job priority limit ordered retain) r
      → priority < terms.settings.priorities → (1 ≤ limit) × (limit ≤ 65536) → HasObjectRoom terms kinds.Queue L → HasAction L job
      → some_entry (λ e. makes_queue id e.op) L ≡ false → IsGranted r
  pub enqueue : (q : QueueHandle) (job priority : ℕ) (args : List ℤ) (cores : Mask) (group : Option GroupHandle)
      → Asks terms L who (TaskEnqueue q args cores false group) r
      → IsQueued L q.0 job priority → HasObjectRoom terms kinds.Task L → IsJobServed terms L job cores.0 → GroupIsMade group L → IsGranted r

abbrev pub QuietCallsAreGranted : Type 0
QuietCallsAreGranted = (terms : Terms) (L : List NodeEntry) (who : ℕ) (r : Reply) → CallsAreGranted terms L who r
