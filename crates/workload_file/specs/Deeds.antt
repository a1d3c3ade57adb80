-- What each deed is in the text, and back.
use Rattle.std.specs.Prelude.{ℕ, ◌-◌, ◌^◌, ℤ, pos, List, [], ◌∷◌, Bool, true, false, Option, Some, None}
use Rattle.mtapi_values.specs.declared.masks.Mask.{Mask}
use Rattle.mtapi_values.specs.declared.kinds.Kind.{Kind}
use Rattle.mtapi_values.specs.declared.kinds.Kind.TheVariants.{Add}
use Rattle.mtapi_values.specs.declared.timeouts.Timeout.{Timeout}
use Rattle.mtapi_values.specs.declared.timeouts.Timeout.TheVariants.{NoWait}
use Rattle.mtapi_values.specs.Attributes.{NodeSettings}
use Rattle.workload_file.specs.declared.table.Word.{Word}
use Rattle.workload_file.specs.declared.table.Word.TheVariants as word
use Rattle.workload_file.specs.declared.table.Sort.{Sort}
use Rattle.workload_file.specs.declared.table.Sort.TheVariants as sort
use Rattle.workload_file.specs.declared.table.Naming.{Naming}
use Rattle.workload_file.specs.declared.table.Naming.TheVariants as rule
use Rattle.workload_file.specs.Table.{naming}
use Rattle.workload_file.specs.declared.workload.Deed.{Deed}
use Rattle.workload_file.specs.declared.workload.Deed.TheVariants as deed
use Rattle.workload_file.specs.declared.values.OptionValue.{OptionValue}
use Rattle.workload_file.specs.declared.values.OptionValue.TheVariants as given

-- a deed in the text: its word, the place of the statement that bound the name that it uses, and the values of its options in the order of the table
pub record Spelled : Type 0 where
  pub word : Word
  pub place : Option ℕ
  pub values : List OptionValue

unfoldable pub deed_spelled : Deed → Spelled
deed_spelled deed.Begin = record { word = word.Begin; place = None; values = [] }
deed_spelled (deed.Action job kind cores) = record { word = word.Action; place = None; values = given.Number job ∷ given.Kind kind ∷ given.Cores cores ∷ [] }
deed_spelled (deed.ActionDelete place) = record { word = word.ActionDelete; place = Some place; values = [] }
deed_spelled (deed.ActionEnable place) = record { word = word.ActionEnable; place = Some place; values = [] }
deed_spelled (deed.ActionDisable place) = record { word = word.ActionDisable; place = Some place; values = [] }
deed_spelled (deed.Start job args priority cores detached group) =
    record {
      word = word.Start;
      place = None;
      values = given.Number job ∷ given.Args args ∷ given.Number priority ∷ given.Cores cores ∷ given.Flag detached ∷ given.Place group ∷ [];
    }
deed_spelled (deed.Enqueue queue args cores detached group) =
    record {
      word = word.Enqueue;
      place = None;
      values = given.Place (Some queue) ∷ given.Args args ∷ given.Cores cores ∷ given.Flag detached ∷ given.Place group ∷ [];
    }
deed_spelled (deed.Wait place timeout) = record { word = word.Wait; place = Some place; values = given.Timeout timeout ∷ [] }
deed_spelled (deed.Cancel place) = record { word = word.Cancel; place = Some place; values = [] }
deed_spelled deed.Group = record { word = word.Group; place = None; values = [] }
deed_spelled (deed.WaitAll place timeout) = record { word = word.WaitAll; place = Some place; values = given.Timeout timeout ∷ [] }
deed_spelled (deed.WaitAny place timeout) = record { word = word.WaitAny; place = Some place; values = given.Timeout timeout ∷ [] }
deed_spelled (deed.GroupDelete place) = record { word = word.GroupDelete; place = Some place; values = [] }
deed_spelled (deed.Queue id job priority limit ordered retain) =
    record {
      word = word.Queue;
      place = None;
      values = given.Number id ∷ given.Number job ∷ given.Number priority ∷ given.Number limit ∷ given.Flag ordered ∷ given.Flag retain ∷ [];
    }
deed_spelled (deed.QueueGet id) = record { word = word.QueueGet; place = None; values = given.Number id ∷ [] }
deed_spelled (deed.QueueEnable place) = record { word = word.QueueEnable; place = Some place; values = [] }
deed_spelled (deed.QueueDisable place) = record { word = word.QueueDisable; place = Some place; values = [] }
deed_spelled (deed.QueueDelete place) = record { word = word.QueueDelete; place = Some place; values = [] }
deed_spelled (deed.Mutex id recursive) = record { word = word.Mutex; place = None; values = given.Number id ∷ given.Flag recursive ∷ [] }
deed_spelled (deed.MutexGet id) = record { word = word.MutexGet; place = None; values = given.Number id ∷ [] }
deed_spelled (deed.MutexDelete place) = record { word = word.MutexDelete; place = Some place; values = [] }
deed_spelled (deed.Lock place timeout) = record { word = word.Lock; place = Some place; values = given.Timeout timeout ∷ [] }
deed_spelled (deed.Unlock place key) = record { word = word.Unlock; place = Some place; values = given.Number key ∷ [] }
deed_spelled (deed.Sem id limit) = record { word = word.Sem; place = None; values = given.Number id ∷ given.Number limit ∷ [] }
deed_spelled (deed.SemGet id) = record { word = word.SemGet; place = None; values = given.Number id ∷ [] }
deed_spelled (deed.SemDelete place) = record { word = word.SemDelete; place = Some place; values = [] }
deed_spelled (deed.SemLock place timeout) = record { word = word.SemLock; place = Some place; values = given.Timeout timeout ∷ [] }
deed_spelled (deed.SemUnlock place) = record { word = word.SemUnlock; place = Some place; values = [] }
deed_spelled (deed.Rwl id limit) = record { word = word.Rwl; place = None; values = given.Number id ∷ given.Number limit ∷ [] }
deed_spelled (deed.RwlGet id) = record { word = word.RwlGet; place = None; values = given.Number id ∷ [] }
deed_spelled (deed.RwlDelete place) = record { word = word.RwlDelete; place = Some place; values = [] }
deed_spelled (deed.RwlLock place writer timeout) = record { word = word.RwlLock; place = Some place; values = given.Mode writer ∷ given.Timeout timeout ∷ [] }
deed_spelled (deed.RwlUnlock place writer) = record { word = word.RwlUnlock; place = Some place; values = given.Mode writer ∷ [] }
deed_spelled (deed.Shmem id cells) = record { word = word.Shmem; place = None; values = given.Number id ∷ given.Number cells ∷ [] }
deed_spelled (deed.ShmemGet id) = record { word = word.ShmemGet; place = None; values = given.Number id ∷ [] }
deed_spelled (deed.ShmemDelete place) = record { word = word.ShmemDelete; place = Some place; values = [] }
deed_spelled (deed.Attach place) = record { word = word.Attach; place = Some place; values = [] }
deed_spelled (deed.Detach place) = record { word = word.Detach; place = Some place; values = [] }
deed_spelled (deed.Read place cell) = record { word = word.Read; place = Some place; values = given.Number cell ∷ [] }
deed_spelled (deed.Write place cell value) = record { word = word.Write; place = Some place; values = given.Number cell ∷ given.Whole value ∷ [] }

abbrev pub word_for : Deed → Word
word_for d = (deed_spelled d).word

abbrev pub used_place : Deed → Option ℕ
used_place d = (deed_spelled d).place

abbrev pub values : Deed → List OptionValue
values d = (deed_spelled d).values

-- ---- what a value holds: of a value of another shape the default, which no statement without a fault reads

unfoldable pub number_given : OptionValue → ℕ
number_given (given.Number n) = n
number_given _ = 0

unfoldable pub whole_in : OptionValue → ℤ
whole_in (given.Whole z) = z
whole_in _ = pos 0

unfoldable pub args_in : OptionValue → List ℤ
args_in (given.Args zs) = zs
args_in _ = []

unfoldable pub cores_in : OptionValue → Mask
cores_in (given.Cores mask) = mask
cores_in _ = record { 0 = 2 ^ 64 - 1 }

unfoldable pub kind_in : OptionValue → Kind
kind_in (given.Kind kind) = kind
kind_in _ = Add

unfoldable pub flag_in : OptionValue → Bool
flag_in (given.Flag b) = b
flag_in _ = false

unfoldable pub mode_in : OptionValue → Bool
mode_in (given.Mode b) = b
mode_in _ = false

unfoldable pub timeout_in : OptionValue → Timeout
timeout_in (given.Timeout t) = t
timeout_in _ = NoWait

unfoldable pub place_in : OptionValue → Option ℕ
place_in (given.Place place) = place
place_in _ = None

-- the place of a name that has to be there
unfoldable pub place_there : OptionValue → ℕ
place_there (given.Place (Some place)) = place
place_there _ = 0

-- ---- a deed of its word, the place of the name that it uses, and the values of its options

-- the deeds on segments
unfoldable pub segment_deed : Word → ℕ → List OptionValue → Deed
segment_deed word.Shmem place (id ∷ cells ∷ []) = deed.Shmem (number_given id) (number_given cells)
segment_deed word.ShmemGet place (id ∷ []) = deed.ShmemGet (number_given id)
segment_deed word.ShmemDelete place [] = deed.ShmemDelete place
segment_deed word.Attach place [] = deed.Attach place
segment_deed word.Detach place [] = deed.Detach place
segment_deed word.Read place (cell ∷ []) = deed.Read place (number_given cell)
segment_deed word.Write place (cell ∷ value ∷ []) = deed.Write place (number_given cell) (whole_in value)
segment_deed w place values = deed.Begin

-- the deeds on mutexes, semaphores and reader-writer locks, and what follows
unfoldable pub lock_deed : Word → ℕ → List OptionValue → Deed
lock_deed word.Mutex place (id ∷ recursive ∷ []) = deed.Mutex (number_given id) (flag_in recursive)
lock_deed word.MutexGet place (id ∷ []) = deed.MutexGet (number_given id)
lock_deed word.MutexDelete place [] = deed.MutexDelete place
lock_deed word.Lock place (timeout ∷ []) = deed.Lock place (timeout_in timeout)
lock_deed word.Unlock place (key ∷ []) = deed.Unlock place (number_given key)
lock_deed word.Sem place (id ∷ limit ∷ []) = deed.Sem (number_given id) (number_given limit)
lock_deed word.SemGet place (id ∷ []) = deed.SemGet (number_given id)
lock_deed word.SemDelete place [] = deed.SemDelete place
lock_deed word.SemLock place (timeout ∷ []) = deed.SemLock place (timeout_in timeout)
lock_deed word.SemUnlock place [] = deed.SemUnlock place
lock_deed word.Rwl place (id ∷ limit ∷ []) = deed.Rwl (number_given id) (number_given limit)
lock_deed word.RwlGet place (id ∷ []) = deed.RwlGet (number_given id)
lock_deed word.RwlDelete place [] = deed.RwlDelete place
lock_deed word.RwlLock place (writer ∷ timeout ∷ []) = deed.RwlLock place (mode_in writer) (timeout_in timeout)
lock_deed word.RwlUnlock place (writer ∷ []) = deed.RwlUnlock place (mode_in writer)
lock_deed w place values = segment_deed w place values

-- the deeds on queues, and what follows
unfoldable pub queue_deed : Word → ℕ → List OptionValue → Deed
queue_deed word.Queue place (id ∷ job ∷ priority ∷ limit ∷ ordered ∷ retain ∷ []) =
    deed.Queue (number_given id) (number_given job) (number_given priority) (number_given limit) (flag_in ordered) (flag_in retain)
queue_deed word.QueueGet place (id ∷ []) = deed.QueueGet (number_given id)
queue_deed word.QueueEnable place [] = deed.QueueEnable place
queue_deed word.QueueDisable place [] = deed.QueueDisable place
queue_deed word.QueueDelete place [] = deed.QueueDelete place
queue_deed w place values = lock_deed w place values

-- all deeds: those on actions, tasks and groups, and the others
unfoldable pub deed_with : Word → ℕ → List OptionValue → Deed
deed_with word.Begin place [] = deed.Begin
deed_with word.Action place (job ∷ kind ∷ cores ∷ []) = deed.Action (number_given job) (kind_in kind) (cores_in cores)
deed_with word.ActionDelete place [] = deed.ActionDelete place
deed_with word.ActionEnable place [] = deed.ActionEnable place
deed_with word.ActionDisable place [] = deed.ActionDisable place
deed_with word.Start place (job ∷ args ∷ priority ∷ cores ∷ detached ∷ group ∷ []) =
    deed.Start (number_given job) (args_in args) (number_given priority) (cores_in cores) (flag_in detached) (place_in group)
deed_with word.Enqueue place (queue ∷ args ∷ cores ∷ detached ∷ group ∷ []) =
    deed.Enqueue (place_there queue) (args_in args) (cores_in cores) (flag_in detached) (place_in group)
deed_with word.Wait place (timeout ∷ []) = deed.Wait place (timeout_in timeout)
deed_with word.Cancel place [] = deed.Cancel place
deed_with word.Group place [] = deed.Group
deed_with word.WaitAll place (timeout ∷ []) = deed.WaitAll place (timeout_in timeout)
deed_with word.WaitAny place (timeout ∷ []) = deed.WaitAny place (timeout_in timeout)
deed_with word.GroupDelete place [] = deed.GroupDelete place
deed_with w place values = queue_deed w place values

-- the settings of a node, in the order of the table
abbrev pub setting_values : NodeSettings → List OptionValue
setting_values s = given.Number s.workers ∷ given.Number s.tasks ∷ given.Number s.actions ∷ given.Number s.groups ∷ given.Number s.queues
    ∷ given.Number s.objects ∷ given.Number s.priorities ∷ given.Number s.generations ∷ []

-- the kind of object whose name is used, and the place of the statement that bound it
abbrev pub used_with : Naming → Option ℕ → Option (Sort × ℕ)
used_with (rule.Uses sort) (Some place) = Some (sort, place)
used_with _ _ = None

abbrev pub place_used : Deed → Option (Sort × ℕ)
place_used d = used_with (naming (word_for d)) (used_place d)

-- what a statement binds its name to
unfoldable pub binds : Sort → Deed → Bool
binds sort.Action (deed.Action job kind cores) = true
binds sort.Task (deed.Start job args priority cores detached group) = true
binds sort.Task (deed.Enqueue queue args cores detached group) = true
binds sort.Group deed.Group = true
binds sort.Queue (deed.Queue id job priority limit ordered retain) = true
binds sort.Queue (deed.QueueGet id) = true
binds sort.Mutex (deed.Mutex id recursive) = true
binds sort.Mutex (deed.MutexGet id) = true
binds sort.Sem (deed.Sem id limit) = true
binds sort.Sem (deed.SemGet id) = true
binds sort.Rwl (deed.Rwl id limit) = true
binds sort.Rwl (deed.RwlGet id) = true
binds sort.Shmem (deed.Shmem id cells) = true
binds sort.Shmem (deed.ShmemGet id) = true
binds _ _ = false

-- the statement is `begin`
unfoldable pub is_begin : Deed → Bool
is_begin deed.Begin = true
is_begin _ = false
