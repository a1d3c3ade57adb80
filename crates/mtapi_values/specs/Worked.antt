-- Worked rows of the values: each table with its numbers, words and ranges, and what calls on attributes answer where all values differ.
-- Each is decided by computing.
use Rattle.std.specs.Prelude.{◌≡◌, ℕ, true, false, List, [], ◌∷◌, map, codes, Some, None, Result, Ok, Err}
use Rattle.mtapi_values.specs.declared.statuses.MtapiStatus.{MtapiStatus}
use Rattle.mtapi_values.specs.declared.statuses.MrapiStatus.{MrapiStatus}
use Rattle.mtapi_values.specs.declared.statuses.MtapiStatus.TheVariants as t
use Rattle.mtapi_values.specs.declared.statuses.MrapiStatus.TheVariants as r
use Rattle.mtapi_values.specs.declared.kinds.Kind.{Kind}
use Rattle.mtapi_values.specs.declared.kinds.Kind.TheVariants as k
use Rattle.mtapi_values.specs.declared.handles.ObjectKind.{ObjectKind}
use Rattle.mtapi_values.specs.declared.handles.ObjectKind.TheVariants as o
use Rattle.mtapi_values.specs.declared.handles.Layout.TheVariants.{One, Two}
use Rattle.mtapi_values.specs.declared.looks.Look.TheVariants.{Got, Busy, Refused}
use Rattle.mtapi_values.specs.declared.timeouts.Timeout.TheVariants.{NoWait, Looks, Infinite}
use Rattle.mtapi_values.specs.Statuses.{mtapi_number, mtapi_name, mrapi_number, mrapi_name}
use Rattle.mtapi_values.specs.Kinds.{kind_word, kind_named}
use Rattle.mtapi_values.specs.Layouts.{object_number, outer, inner, names_kind}
use Rattle.mtapi_values.specs.Looks.{answer, is_got}
use Rattle.mtapi_values.specs.Seats.{is_seat, is_other, no_marks, marked, any_mark, all_marked}
use Rattle.mtapi_values.specs.Masks.{in_mask}
use Rattle.mtapi_values.specs.Timeouts.{looks_of}
use Rattle.mtapi_values.specs.Attributes.{NodeSettings, ActionAttributes, TaskAttributes, QueueAttributes}
use Rattle.mtapi_values.specs.AttributeTables.{Attribute, set_answer, after_set, get_answer, node_attributes, action_attributes, task_attributes, queue_attributes, mutex_attributes}

-- the statuses, each with its number and its name
abbrev pub mtapi_rows : List (MtapiStatus × ℕ × List ℕ)
mtapi_rows =
    (t.Success, 0, codes "MTAPI_SUCCESS")
    ∷ (t.Timeout, 1, codes "MTAPI_TIMEOUT")
    ∷ (t.GroupCompleted, 2, codes "MTAPI_GROUP_COMPLETED")
    ∷ (t.ErrParameter, 3, codes "MTAPI_ERR_PARAMETER")
    ∷ (t.ErrNodeInitialized, 4, codes "MTAPI_ERR_NODE_INITIALIZED")
    ∷ (t.ErrNodeNotinit, 5, codes "MTAPI_ERR_NODE_NOTINIT")
    ∷ (t.ErrActionInvalid, 6, codes "MTAPI_ERR_ACTION_INVALID")
    ∷ (t.ErrActionLimit, 7, codes "MTAPI_ERR_ACTION_LIMIT")
    ∷ (t.ErrActionFailed, 8, codes "MTAPI_ERR_ACTION_FAILED")
    ∷ (t.ErrActionDeleted, 9, codes "MTAPI_ERR_ACTION_DELETED")
    ∷ (t.ErrActionDisabled, 10, codes "MTAPI_ERR_ACTION_DISABLED")
    ∷ (t.ErrArgSize, 11, codes "MTAPI_ERR_ARG_SIZE")
    ∷ (t.ErrJobInvalid, 12, codes "MTAPI_ERR_JOB_INVALID")
    ∷ (t.ErrNoCore, 13, codes "MTAPI_ERR_NO_CORE")
    ∷ (t.ErrTaskInvalid, 14, codes "MTAPI_ERR_TASK_INVALID")
    ∷ (t.ErrTaskLimit, 16, codes "MTAPI_ERR_TASK_LIMIT")
    ∷ (t.ErrTaskCancelled, 17, codes "MTAPI_ERR_TASK_CANCELLED")
    ∷ (t.ErrGroupInvalid, 18, codes "MTAPI_ERR_GROUP_INVALID")
    ∷ (t.ErrGroupLimit, 19, codes "MTAPI_ERR_GROUP_LIMIT")
    ∷ (t.ErrQueueInvalid, 20, codes "MTAPI_ERR_QUEUE_INVALID")
    ∷ (t.ErrQueueLimit, 21, codes "MTAPI_ERR_QUEUE_LIMIT")
    ∷ (t.ErrQueueDeleted, 22, codes "MTAPI_ERR_QUEUE_DELETED")
    ∷ (t.ErrQueueDisabled, 23, codes "MTAPI_ERR_QUEUE_DISABLED")
    ∷ (t.ErrQueueExists, 24, codes "MTAPI_ERR_QUEUE_EXISTS")
    ∷ (t.ErrWaitPending, 25, codes "MTAPI_ERR_WAIT_PENDING")
    ∷ (t.ErrAttrNum, 26, codes "MTAPI_ERR_ATTR_NUM")
    ∷ (t.ErrAttrReadonly, 27, codes "MTAPI_ERR_ATTR_READONLY")
    ∷ (t.ErrCoreNum, 28, codes "MTAPI_ERR_CORE_NUM")
    ∷ (t.ErrSpent, 29, codes "MTAPI_ERR_SPENT")
    ∷ []

abbrev pub mrapi_rows : List (MrapiStatus × ℕ × List ℕ)
mrapi_rows =
    (r.Success, 0, codes "MRAPI_SUCCESS")
    ∷ (r.Timeout, 1, codes "MRAPI_TIMEOUT")
    ∷ (r.ErrParameter, 2, codes "MRAPI_ERR_PARAMETER")
    ∷ (r.ErrNodeNotinit, 3, codes "MRAPI_ERR_NODE_NOTINIT")
    ∷ (r.ErrMutexInvalid, 4, codes "MRAPI_ERR_MUTEX_INVALID")
    ∷ (r.ErrMutexIdInvalid, 5, codes "MRAPI_ERR_MUTEX_ID_INVALID")
    ∷ (r.ErrMutexExists, 6, codes "MRAPI_ERR_MUTEX_EXISTS")
    ∷ (r.ErrMutexLimit, 7, codes "MRAPI_ERR_MUTEX_LIMIT")
    ∷ (r.ErrMutexLocked, 8, codes "MRAPI_ERR_MUTEX_LOCKED")
    ∷ (r.ErrMutexNotlocked, 9, codes "MRAPI_ERR_MUTEX_NOTLOCKED")
    ∷ (r.ErrMutexKey, 10, codes "MRAPI_ERR_MUTEX_KEY")
    ∷ (r.ErrMutexLockorder, 11, codes "MRAPI_ERR_MUTEX_LOCKORDER")
    ∷ (r.ErrSemInvalid, 12, codes "MRAPI_ERR_SEM_INVALID")
    ∷ (r.ErrSemIdInvalid, 13, codes "MRAPI_ERR_SEM_ID_INVALID")
    ∷ (r.ErrSemExists, 14, codes "MRAPI_ERR_SEM_EXISTS")
    ∷ (r.ErrSemLocked, 15, codes "MRAPI_ERR_SEM_LOCKED")
    ∷ (r.ErrSemNotlocked, 16, codes "MRAPI_ERR_SEM_NOTLOCKED")
    ∷ (r.ErrRwlInvalid, 17, codes "MRAPI_ERR_RWL_INVALID")
    ∷ (r.ErrRwlIdInvalid, 18, codes "MRAPI_ERR_RWL_ID_INVALID")
    ∷ (r.ErrRwlExists, 19, codes "MRAPI_ERR_RWL_EXISTS")
    ∷ (r.ErrRwlLimit, 20, codes "MRAPI_ERR_RWL_LIMIT")
    ∷ (r.ErrRwlLocked, 21, codes "MRAPI_ERR_RWL_LOCKED")
    ∷ (r.ErrRwlNotlocked, 22, codes "MRAPI_ERR_RWL_NOTLOCKED")
    ∷ (r.ErrShmInvalid, 23, codes "MRAPI_ERR_SHM_INVALID")
    ∷ (r.ErrShmIdInvalid, 24, codes "MRAPI_ERR_SHM_ID_INVALID")
    ∷ (r.ErrShmExists, 25, codes "MRAPI_ERR_SHM_EXISTS")
    ∷ (r.ErrShmLimit, 26, codes "MRAPI_ERR_SHM_LIMIT")
    ∷ (r.ErrShmAttached, 27, codes "MRAPI_ERR_SHM_ATTACHED")
    ∷ (r.ErrShmNotattached, 28, codes "MRAPI_ERR_SHM_NOTATTACHED")
    ∷ (r.ErrSpent, 29, codes "MRAPI_ERR_SPENT")
    ∷ (r.ErrSemLimit, 30, codes "MRAPI_ERR_SEM_LIMIT")
    ∷ []

-- the kinds of action, each with its word
abbrev pub kind_rows : List (Kind × List ℕ)
kind_rows =
    (k.Add, codes "add")
    ∷ (k.Mul, codes "mul")
    ∷ (k.Max, codes "max")
    ∷ (k.Div, codes "div")
    ∷ (k.Gcd, codes "gcd")
    ∷ (k.Echo, codes "echo")
    ∷ (k.Triangle, codes "triangle")
    ∷ (k.Fail, codes "fail")
    ∷ (k.Watch, codes "watch")
    ∷ (k.Tally, codes "tally")
    ∷ []

-- the kinds of object, each with its number
abbrev pub object_rows : List (ObjectKind × ℕ)
object_rows = (o.Action, 1) ∷ (o.Task, 2) ∷ (o.Group, 3) ∷ (o.Queue, 4) ∷ (o.Mutex, 5) ∷ (o.Sem, 6) ∷ (o.Rwl, 7) ∷ (o.Shmem, 8) ∷ []

pub record WorkedNames : Type 0 where
  pub mtapi_numbers : map (λ row. mtapi_number row.0) mtapi_rows ≡ map (λ row. row.1) mtapi_rows
  pub mtapi_names : map (λ row. mtapi_name row.0) mtapi_rows ≡ map (λ row. row.2) mtapi_rows
  pub mrapi_numbers : map (λ row. mrapi_number row.0) mrapi_rows ≡ map (λ row. row.1) mrapi_rows
  pub mrapi_names : map (λ row. mrapi_name row.0) mrapi_rows ≡ map (λ row. row.2) mrapi_rows
  pub kind_words : map (λ row. kind_word row.0) kind_rows ≡ map (λ row. row.1) kind_rows
  pub kinds_named : map (λ row. kind_named row.1) kind_rows ≡ map (λ row. Some row.0) kind_rows
  pub no_kind : kind_named (codes "max ") ≡ None
  pub object_numbers : map (λ row. object_number row.0) object_rows ≡ map (λ row. row.1) object_rows

-- 4294967299 is the handle with slot 3 of generation 1, as a pool has it; 4345298947 is that of a group, 3 * 2 ^ 24 above
pub record WorkedHandles : Type 0 where
  pub seen : outer o.Group 4294967299 ≡ 4345298947
  pub taken : inner o.Group 4345298947 ≡ Some 4294967299
  pub another_kind : inner o.Queue 4345298947 ≡ None
  pub named : names_kind Two o.Group 4345298947 ≡ true
  pub not_named : names_kind Two o.Queue 4345298947 ≡ false
  pub any_kind : names_kind One o.Queue 4345298947 ≡ true

-- timeouts, looks, seats, and the mask 10 of the cores 1 and 3
pub record WorkedLooks : Type 0 where
  pub no_wait : looks_of NoWait ≡ Some 1
  pub after_the_first : looks_of (Looks 4) ≡ Some 5
  pub infinite : looks_of Infinite ≡ None
  pub refused_though_busy : answer {T = ℕ} (Some r.ErrSemLocked) true 7 ≡ Refused r.ErrSemLocked
  pub busy : answer {T = ℕ} None true 7 ≡ Busy
  pub got : answer {T = ℕ} None false 7 ≡ Got 7
  pub which_got : map (is_got {T = ℕ}) (Got 7 ∷ Busy ∷ Refused r.ErrSemLocked ∷ []) ≡ (true ∷ false ∷ false ∷ [])
  pub this_seat : map (is_seat 3) (None ∷ Some 3 ∷ Some 4 ∷ []) ≡ (false ∷ true ∷ false ∷ [])
  pub other_seat : map (is_other 3) (None ∷ Some 3 ∷ Some 4 ∷ []) ≡ (false ∷ false ∷ true ∷ [])
  pub unmarked : map (λ who. marked who no_marks) (0 ∷ 24 ∷ 25 ∷ []) ≡ (false ∷ false ∷ false ∷ [])
  pub one_marked : map (λ who. marked who (false ∷ true ∷ false ∷ [])) (0 ∷ 1 ∷ 2 ∷ 3 ∷ []) ≡ (false ∷ true ∷ false ∷ false ∷ [])
  pub any_marked : map any_mark ([] ∷ (false ∷ true ∷ []) ∷ (false ∷ false ∷ []) ∷ []) ≡ (false ∷ true ∷ false ∷ [])
  pub first_marked : map (λ n. all_marked n (true ∷ true ∷ false ∷ true ∷ [])) (0 ∷ 2 ∷ 3 ∷ 4 ∷ 5 ∷ []) ≡ (true ∷ true ∷ false ∷ false ∷ false ∷ [])
  pub cores : map (λ core. in_mask core 10) (0 ∷ 1 ∷ 2 ∷ 3 ∷ 4 ∷ []) ≡ (false ∷ true ∷ false ∷ true ∷ false ∷ [])

module _ {S : Type 0} where
  -- what `set` answers to each of these numbers of attributes with a value, and which of them it takes: those alone leave something else
  abbrev pub sets : List (Attribute S) → List (ℕ × ℕ) → List (Result (Unit {0}) MtapiStatus)
  sets table pairs = map (λ pair. set_answer table pair.0 pair.1) pairs

  abbrev pub left : List (Attribute S) → S → List (ℕ × ℕ) → List S
  left table s pairs = map (λ pair. after_set table pair.0 pair.1 s) pairs

  abbrev pub gets_attributes : List (Attribute S) → S → List ℕ → List (Result ℕ MtapiStatus)
  gets_attributes table s numbers = map (λ number. get_answer table number s) numbers

-- the answers of `set`
abbrev pub taken : Result (Unit {0}) MtapiStatus
taken = Ok tt

abbrev pub out_of_range : Result (Unit {0}) MtapiStatus
out_of_range = Err t.ErrParameter

abbrev pub fixed : Result (Unit {0}) MtapiStatus
fixed = Err t.ErrAttrReadonly

abbrev pub unknown : Result (Unit {0}) MtapiStatus
unknown = Err t.ErrAttrNum

-- settings that all differ
abbrev pub settings : NodeSettings
settings = record { workers = 2; tasks = 300; actions = 401; groups = 502; queues = 63; objects = 74; priorities = 5; generations = 806 }

pub record WorkedNodes : Type 0 where
  pub gets : gets_attributes node_attributes settings (0 ∷ 1 ∷ 2 ∷ 3 ∷ 4 ∷ 5 ∷ 6 ∷ 7 ∷ 8 ∷ 9 ∷ [])
      ≡ (Err t.ErrAttrNum ∷ Ok 2 ∷ Ok 300 ∷ Ok 401 ∷ Ok 502 ∷ Ok 63 ∷ Ok 74 ∷ Ok 5 ∷ Ok 806 ∷ Err t.ErrAttrNum ∷ [])
  pub below : sets node_attributes ((1, 0) ∷ (2, 0) ∷ (3, 0) ∷ (4, 0) ∷ (5, 0) ∷ (6, 0) ∷ (7, 0) ∷ (8, 0) ∷ [])
      ≡ (out_of_range ∷ out_of_range ∷ out_of_range ∷ out_of_range ∷ out_of_range ∷ out_of_range ∷ out_of_range ∷ out_of_range ∷ [])
  pub least : sets node_attributes ((0, 1) ∷ (1, 1) ∷ (2, 1) ∷ (3, 1) ∷ (4, 1) ∷ (5, 1) ∷ (6, 1) ∷ (7, 1) ∷ (8, 1) ∷ (9, 1) ∷ [])
      ≡ (unknown ∷ taken ∷ taken ∷ taken ∷ taken ∷ taken ∷ taken ∷ taken ∷ taken ∷ unknown ∷ [])
  pub greatest : sets node_attributes ((1, 16) ∷ (2, 65536) ∷ (3, 1024) ∷ (4, 1024) ∷ (5, 256) ∷ (6, 256) ∷ (7, 8) ∷ (8, 4294967295) ∷ [])
      ≡ (taken ∷ taken ∷ taken ∷ taken ∷ taken ∷ taken ∷ taken ∷ taken ∷ [])
  pub above : sets node_attributes ((1, 17) ∷ (2, 65537) ∷ (3, 1025) ∷ (4, 1025) ∷ (5, 257) ∷ (6, 257) ∷ (7, 9) ∷ (8, 4294967296) ∷ [])
      ≡ (out_of_range ∷ out_of_range ∷ out_of_range ∷ out_of_range ∷ out_of_range ∷ out_of_range ∷ out_of_range ∷ out_of_range ∷ [])
  pub left : left node_attributes settings ((1, 6) ∷ (2, 6) ∷ (3, 6) ∷ (4, 6) ∷ (5, 6) ∷ (6, 6) ∷ (7, 6) ∷ (8, 6) ∷ (9, 6) ∷ (7, 9) ∷ [])
      ≡ (record settings { workers = 6 } ∷ record settings { tasks = 6 } ∷ record settings { actions = 6 } ∷ record settings { groups = 6 }
      ∷ record settings { queues = 6 } ∷ record settings { objects = 6 } ∷ record settings { priorities = 6 }
      ∷ record settings { generations = 6 } ∷ settings ∷ settings ∷ [])

-- an action, tasks, queues and mutexes with values that differ
abbrev pub worked_action : ActionAttributes
worked_action = record { global = false; affinity = 12; domain_shared = true }

abbrev pub worked_task : TaskAttributes
worked_task = record { detached = true; instances = 1; priority = 5; affinity = 12 }

abbrev pub worked_queue_attributes : QueueAttributes
worked_queue_attributes = record { global = false; priority = 5; limit = 70; ordered = true; retain = false; domain_shared = true }

-- the greatest number of 64 bits
abbrev pub all_bits : ℕ
all_bits = 18446744073709551615

pub record WorkedObjectValues : Type 0 where
  pub action_gets : gets_attributes action_attributes worked_action (0 ∷ 1 ∷ 2 ∷ 3 ∷ 4 ∷ []) ≡ (Err t.ErrAttrNum ∷ Ok 0 ∷ Ok 12 ∷ Ok 1 ∷ Err t.ErrAttrNum ∷ [])
  pub action_sets : sets action_attributes ((0, 0) ∷ (1, 0) ∷ (2, 0) ∷ (2, all_bits) ∷ (2, 18446744073709551616) ∷ (3, 0) ∷ (4, 0) ∷ [])
      ≡ (unknown ∷ fixed ∷ taken ∷ taken ∷ out_of_range ∷ fixed ∷ unknown ∷ [])
  pub action_left : left action_attributes worked_action ((1, 1) ∷ (2, 6) ∷ (3, 0) ∷ [])
      ≡ (worked_action ∷ record worked_action { affinity = 6 } ∷ worked_action ∷ [])
  pub task_gets : gets_attributes task_attributes worked_task (0 ∷ 1 ∷ 2 ∷ 3 ∷ 4 ∷ 5 ∷ [])
      ≡ (Err t.ErrAttrNum ∷ Ok 1 ∷ Ok 1 ∷ Ok 5 ∷ Ok 12 ∷ Err t.ErrAttrNum ∷ [])
  pub task_flags : sets task_attributes ((0, 0) ∷ (1, 0) ∷ (1, 1) ∷ (1, 2) ∷ (2, 0) ∷ (2, 1) ∷ (2, 2) ∷ [])
      ≡ (unknown ∷ taken ∷ taken ∷ out_of_range ∷ out_of_range ∷ taken ∷ out_of_range ∷ [])
  pub task_sets : sets task_attributes ((3, 0) ∷ (3, 7) ∷ (3, 8) ∷ (4, 0) ∷ (4, all_bits) ∷ (4, 18446744073709551616) ∷ (5, 0) ∷ [])
      ≡ (taken ∷ taken ∷ out_of_range ∷ taken ∷ taken ∷ out_of_range ∷ unknown ∷ [])
  pub task_left : left task_attributes worked_task ((1, 0) ∷ (1, 1) ∷ (3, 6) ∷ (4, 6) ∷ (3, 8) ∷ [])
      ≡ (record worked_task { detached = false } ∷ worked_task ∷ record worked_task { priority = 6 } ∷ record worked_task { affinity = 6 } ∷ worked_task ∷ [])
  pub instances_left : left task_attributes (record worked_task { instances = 3 }) ((2, 1) ∷ []) ≡ (worked_task ∷ [])
  pub queue_gets : gets_attributes queue_attributes worked_queue_attributes (0 ∷ 1 ∷ 2 ∷ 3 ∷ 4 ∷ 5 ∷ 6 ∷ 7 ∷ [])
      ≡ (Err t.ErrAttrNum ∷ Ok 0 ∷ Ok 5 ∷ Ok 70 ∷ Ok 1 ∷ Ok 0 ∷ Ok 1 ∷ Err t.ErrAttrNum ∷ [])
  pub queue_sets : sets queue_attributes ((0, 0) ∷ (1, 0) ∷ (2, 0) ∷ (2, 7) ∷ (2, 8) ∷ (3, 0) ∷ (3, 1) ∷ (3, 65536) ∷ (3, 65537) ∷ [])
      ≡ (unknown ∷ fixed ∷ taken ∷ taken ∷ out_of_range ∷ out_of_range ∷ taken ∷ taken ∷ out_of_range ∷ [])
  pub queue_flags : sets queue_attributes ((4, 0) ∷ (4, 1) ∷ (4, 2) ∷ (5, 0) ∷ (5, 1) ∷ (5, 2) ∷ (6, 0) ∷ (7, 0) ∷ [])
      ≡ (taken ∷ taken ∷ out_of_range ∷ taken ∷ taken ∷ out_of_range ∷ fixed ∷ unknown ∷ [])
  pub queue_left : left queue_attributes worked_queue_attributes ((1, 1) ∷ (2, 6) ∷ (3, 6) ∷ (4, 0) ∷ (5, 1) ∷ (6, 0) ∷ [])
      ≡ (worked_queue_attributes ∷ record worked_queue_attributes { priority = 6 } ∷ record worked_queue_attributes { limit = 6 }
      ∷ record worked_queue_attributes { ordered = false } ∷ record worked_queue_attributes { retain = true } ∷ worked_queue_attributes ∷ [])
  pub mutex_gets : gets_attributes mutex_attributes (record { recursive = true }) (0 ∷ 1 ∷ 2 ∷ []) ≡ (Err t.ErrAttrNum ∷ Ok 1 ∷ Err t.ErrAttrNum ∷ [])
  pub mutex_sets : sets mutex_attributes ((0, 0) ∷ (1, 0) ∷ (1, 1) ∷ (1, 2) ∷ (2, 0) ∷ []) ≡ (unknown ∷ taken ∷ taken ∷ out_of_range ∷ unknown ∷ [])
  pub mutex_left : left mutex_attributes (record { recursive = false }) ((1, 0) ∷ (1, 1) ∷ [])
      ≡ (record { recursive = false } ∷ record { recursive = true } ∷ [])

pub record WorkedValues : Type 0 where
  pub names : WorkedNames
  pub handles : WorkedHandles
  pub looks : WorkedLooks
  pub nodes : WorkedNodes
  pub objects : WorkedObjectValues
