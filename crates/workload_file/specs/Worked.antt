-- Worked lines: what each kind of statement says, with numbers that all differ, and why lines are refused. Each is found by computing.
use Rattle.std.specs.Prelude.{◌≡◌, ℕ, ◌-◌, ◌^◌, true, false, List, [], ◌∷◌, ◌++◌, replicate, codes, pos, negsuc, Some, None, Ok, Err}
use Rattle.mtapi_values.specs.Attributes.{NodeSettings}
use Rattle.mtapi_values.specs.declared.kinds.Kind.TheVariants as kind
use Rattle.mtapi_values.specs.declared.masks.Mask.{Mask}
use Rattle.mtapi_values.specs.declared.timeouts.Timeout.TheVariants as timeout
use Rattle.workload_file.specs.declared.workload.Deed.{Deed}
use Rattle.workload_file.specs.declared.workload.Deed.TheVariants as deed
use Rattle.workload_file.specs.declared.workload.Statement.{Statement}
use Rattle.workload_file.specs.declared.workload.Part.{Part}
use Rattle.workload_file.specs.declared.reading.Reading.{Reading}
use Rattle.workload_file.specs.declared.reading.LineEffect.TheVariants as change
use Rattle.workload_file.specs.declared.faults.Cause.{Cause}
use Rattle.workload_file.specs.declared.faults.Cause.TheVariants as cause
use Rattle.workload_file.specs.Values.{is_name}
use Rattle.workload_file.specs.Reading.{empty_reading, line_gives}

-- Behind which lines

-- a statement that binds this name
abbrev pub binding : List ℕ → Deed → Statement
binding name deed = record { line = 1; name = Some name; deed = deed }

abbrev pub mask_of_cores : ℕ → Mask
mask_of_cores mask = record { 0 = mask }

abbrev pub mask_of_every_core : Mask
mask_of_every_core = mask_of_cores (2 ^ 64 - 1)

-- a name for each kind of object, bound by the statements at the places 0 to 7
abbrev pub all_bound : List Statement
all_bound =
    binding (codes "a") (deed.Action 1 kind.Add mask_of_every_core)
    ∷ binding (codes "t") (deed.Start 1 [] 0 mask_of_every_core false None)
    ∷ binding (codes "g") deed.Group
    ∷ binding (codes "q") (deed.QueueGet 1)
    ∷ binding (codes "m") (deed.MutexGet 1)
    ∷ binding (codes "s") (deed.SemGet 1)
    ∷ binding (codes "r") (deed.RwlGet 1)
    ∷ binding (codes "h") (deed.ShmemGet 1)
    ∷ []

-- the same behind three more, which bind the names by the other statements that do
abbrev pub all_bound_again : List Statement
all_bound_again =
    record { line = 1; name = None; deed = deed.Begin }
    ∷ binding (codes "t") (deed.Enqueue 0 [] mask_of_every_core false None)
    ∷ binding (codes "q") (deed.Queue 1 1 0 1 false false)
    ∷ binding (codes "m") (deed.Mutex 1 false)
    ∷ binding (codes "s") (deed.Sem 1 1)
    ∷ binding (codes "r") (deed.Rwl 1 1)
    ∷ binding (codes "h") (deed.Shmem 1 1)
    ∷ []

-- a part of this name with these statements
abbrev pub part : List ℕ → List Statement → Part
part name statements = record { line = 0; name = name; statements = statements }

-- what was said before, in main's part or in one behind these, where there were so many statements
abbrev pub behind : List Part → Part → ℕ → Reading
behind before current count = record empty_reading { before = before; current = current; count = count }

abbrev pub worked_reading : Reading
worked_reading = behind [] (part (codes "main") all_bound) 8

abbrev pub said_again : Reading
said_again = behind [] (part (codes "main") all_bound_again) 7

-- eight parts, and a ninth
abbrev pub callers : ℕ → ℕ → Reading
callers parts count = behind (replicate parts (part (codes "main") [])) (part (codes "c") []) count

-- What lines say

-- the line makes this statement, which binds this name, or none
abbrev pub IsEffectOf : List ℕ → List ℕ → Deed → Type 0
IsEffectOf text name d = line_gives worked_reading 40 text ≡ Ok (Some (change.Statement (record { line = 40; name = Some name; deed = d })))

abbrev pub LineDoes : List ℕ → Deed → Type 0
LineDoes text d = line_gives worked_reading 40 text ≡ Ok (Some (change.Statement (record { line = 40; name = None; deed = d })))

-- the same behind the other statements
abbrev pub DoesAgain : List ℕ → Deed → Type 0
DoesAgain text d = line_gives said_again 40 text ≡ Ok (Some (change.Statement (record { line = 40; name = None; deed = d })))

-- the line sets the node up so
abbrev pub SetsUp : List ℕ → NodeSettings → Type 0
SetsUp text settings = line_gives empty_reading 1 text ≡ Ok (Some (change.Node settings))

-- the lines of the node, of callers, and of actions and tasks; an option that may be absent has the default of the table
pub record WorkedTaskLines : Type 0 where
  pub node : SetsUp (codes "node workers=2 max_tasks=31 max_actions=32 max_groups=33 max_queues=34 max_objects=35 priorities=6 generations=37")
      (record { workers = 2; tasks = 31; actions = 32; groups = 33; queues = 34; objects = 35; priorities = 6; generations = 37 })
  pub node_absent : SetsUp (codes "node")
      (record { workers = 1; tasks = 1024; actions = 64; groups = 128; queues = 16; objects = 16; priorities = 4; generations = 4294967295 })
  pub node_greatest : SetsUp (codes "node workers=16 max_tasks=65536 max_actions=1024 max_groups=1024 max_queues=256 max_objects=256 priorities=8 generations=4294967295") (record { workers = 16; tasks = 65536; actions = 1024; groups = 1024; queues = 256; objects = 256; priorities = 8; generations = 4294967295 })
  pub node_least : SetsUp (codes "node workers=1 max_tasks=1 max_actions=1 max_groups=1 max_queues=1 max_objects=1 priorities=1 generations=1")
      (record { workers = 1; tasks = 1; actions = 1; groups = 1; queues = 1; objects = 1; priorities = 1; generations = 1 })
  pub caller : line_gives worked_reading 40 (codes "caller c") ≡ Ok (Some (change.Caller (codes "c")))
  pub begin : LineDoes (codes "begin") deed.Begin
  pub action : IsEffectOf (codes "action x job=21 kind=gcd cores=1,2") (codes "x") (deed.Action 21 kind.Gcd (mask_of_cores 6))
  pub action_absent : IsEffectOf (codes "action x job=65535 kind=watch") (codes "x") (deed.Action 65535 kind.Watch mask_of_every_core)
  pub action_delete : LineDoes (codes "action_delete a") (deed.ActionDelete 0)
  pub action_enable : LineDoes (codes "action_enable a") (deed.ActionEnable 0)
  pub action_disable : LineDoes (codes "action_disable a") (deed.ActionDisable 0)
  pub started : IsEffectOf (codes "start x job=22 args=31,-32 priority=3 cores=0,2 detached=yes group=g") (codes "x")
      (deed.Start 22 (pos 31 ∷ negsuc 31 ∷ []) 3 (mask_of_cores 5) true (Some 2))
  pub start_absent : IsEffectOf (codes "start x job=1") (codes "x") (deed.Start 1 [] 0 mask_of_every_core false None)
  pub start_last : IsEffectOf (codes "start x job=65535 priority=7") (codes "x") (deed.Start 65535 [] 7 mask_of_every_core false None)
  pub enqueue : IsEffectOf (codes "enqueue x queue=q args=33 cores=1,3 detached=yes group=g") (codes "x")
      (deed.Enqueue 3 (pos 33 ∷ []) (mask_of_cores 10) true (Some 2))
  pub enqueue_absent : IsEffectOf (codes "enqueue x queue=q") (codes "x") (deed.Enqueue 3 [] mask_of_every_core false None)
  pub wait : LineDoes (codes "wait t timeout=41") (deed.Wait 1 (timeout.Looks 41))
  pub wait_once : LineDoes (codes "wait t timeout=nowait") (deed.Wait 1 timeout.NoWait)
  pub wait_most : LineDoes (codes "wait t timeout=1000000") (deed.Wait 1 (timeout.Looks 1000000))
  pub cancel : LineDoes (codes "cancel t") (deed.Cancel 1)
  pub cancel_enqueued : DoesAgain (codes "cancel t") (deed.Cancel 1)

-- the lines of groups and queues
pub record WorkedGroupLines : Type 0 where
  pub group : IsEffectOf (codes "group x") (codes "x") deed.Group
  pub wait_all : LineDoes (codes "wait_all g timeout=42") (deed.WaitAll 2 (timeout.Looks 42))
  pub wait_any : LineDoes (codes "wait_any g timeout=inf") (deed.WaitAny 2 timeout.Infinite)
  pub group_delete : LineDoes (codes "group_delete g") (deed.GroupDelete 2)
  pub queue_ordered : IsEffectOf (codes "queue x id=51 job=24 priority=5 limit=61 ordered=yes retain=no") (codes "x") (deed.Queue 51 24 5 61 true false)
  pub queue_retains : IsEffectOf (codes "queue x id=52 job=25 priority=6 limit=62 ordered=no retain=yes") (codes "x") (deed.Queue 52 25 6 62 false true)
  pub queue_absent : IsEffectOf (codes "queue x id=4294967295 job=65535") (codes "x") (deed.Queue 4294967295 65535 0 65536 false false)
  pub queue_least : IsEffectOf (codes "queue x id=0 job=1 priority=7 limit=1") (codes "x") (deed.Queue 0 1 7 1 false false)
  pub queue_get : IsEffectOf (codes "queue_get x id=53") (codes "x") (deed.QueueGet 53)
  pub queue_enable : LineDoes (codes "queue_enable q") (deed.QueueEnable 3)
  pub queue_disable : LineDoes (codes "queue_disable q") (deed.QueueDisable 3)
  pub queue_delete : LineDoes (codes "queue_delete q") (deed.QueueDelete 3)
  pub queue_made : DoesAgain (codes "queue_delete q") (deed.QueueDelete 2)

-- the lines of mutexes, semaphores and reader-writer locks
pub record WorkedLockLines : Type 0 where
  pub mutex : IsEffectOf (codes "mutex x id=54") (codes "x") (deed.Mutex 54 false)
  pub mutex_recursive : IsEffectOf (codes "mutex x id=4294967295 recursive=yes") (codes "x") (deed.Mutex 4294967295 true)
  pub mutex_get : IsEffectOf (codes "mutex_get x id=56") (codes "x") (deed.MutexGet 56)
  pub mutex_delete : LineDoes (codes "mutex_delete m") (deed.MutexDelete 4)
  pub mutex_made : DoesAgain (codes "mutex_delete m") (deed.MutexDelete 3)
  pub lock : LineDoes (codes "lock m timeout=43") (deed.Lock 4 (timeout.Looks 43))
  pub unlock : LineDoes (codes "unlock m key=71") (deed.Unlock 4 71)
  pub sem : IsEffectOf (codes "sem x id=57 limit=65535") (codes "x") (deed.Sem 57 65535)
  pub sem_get : IsEffectOf (codes "sem_get x id=58") (codes "x") (deed.SemGet 58)
  pub sem_delete : LineDoes (codes "sem_delete s") (deed.SemDelete 5)
  pub sem_made : DoesAgain (codes "sem_delete s") (deed.SemDelete 4)
  pub sem_lock : LineDoes (codes "sem_lock s timeout=44") (deed.SemLock 5 (timeout.Looks 44))
  pub sem_unlock : LineDoes (codes "sem_unlock s") (deed.SemUnlock 5)
  pub rwl : IsEffectOf (codes "rwl x id=59 limit=32") (codes "x") (deed.Rwl 59 32)
  pub rwl_get : IsEffectOf (codes "rwl_get x id=60") (codes "x") (deed.RwlGet 60)
  pub rwl_delete : LineDoes (codes "rwl_delete r") (deed.RwlDelete 6)
  pub rwl_made : DoesAgain (codes "rwl_delete r") (deed.RwlDelete 5)
  pub rwl_lock_reader : LineDoes (codes "rwl_lock r mode=reader timeout=45") (deed.RwlLock 6 false (timeout.Looks 45))
  pub rwl_lock_writer : LineDoes (codes "rwl_lock r mode=writer timeout=46") (deed.RwlLock 6 true (timeout.Looks 46))
  pub rwl_unlock_reader : LineDoes (codes "rwl_unlock r mode=reader") (deed.RwlUnlock 6 false)
  pub rwl_unlock_writer : LineDoes (codes "rwl_unlock r mode=writer") (deed.RwlUnlock 6 true)

-- the lines of segments
pub record WorkedSegmentLines : Type 0 where
  pub shmem : IsEffectOf (codes "shmem x id=63 cells=4096") (codes "x") (deed.Shmem 63 4096)
  pub shmem_get : IsEffectOf (codes "shmem_get x id=64") (codes "x") (deed.ShmemGet 64)
  pub shmem_delete : LineDoes (codes "shmem_delete h") (deed.ShmemDelete 7)
  pub shmem_made : DoesAgain (codes "shmem_delete h") (deed.ShmemDelete 6)
  pub attach : LineDoes (codes "attach h") (deed.Attach 7)
  pub detach : LineDoes (codes "detach h") (deed.Detach 7)
  pub read : LineDoes (codes "read h cell=4095") (deed.Read 7 4095)
  pub write : LineDoes (codes "write h cell=83 value=-85") (deed.Write 7 83 (negsuc 84))

-- Why lines are refused

abbrev pub IsLineRefused : Reading → List ℕ → Cause → Type 0
IsLineRefused r text c = line_gives r 40 text ≡ Err c

-- a line that meets two causes is refused for the earlier one
pub record WorkedCauses : Type 0 where
  pub longest : line_gives worked_reading 40 (replicate 512 32) ≡ Ok None
  pub too_long : IsLineRefused worked_reading (replicate 513 127) cause.LineTooLong
  pub bad_byte : IsLineRefused worked_reading (codes "foo" ++ 127 ∷ []) cause.BadByte
  pub tab : IsLineRefused worked_reading (codes "begin" ++ 31 ∷ []) cause.BadByte
  pub tilde : line_gives worked_reading 40 (codes "#" ++ 126 ∷ []) ≡ Ok None
  pub unknown_word : IsLineRefused (callers 8 20000) (codes "foo c") cause.UnknownWord
  pub too_many_statements : IsLineRefused (callers 8 20000) (codes "caller c") cause.TooManyStatements
  pub too_many_callers : IsLineRefused (callers 8 19999) (codes "caller") cause.TooManyCallers
  pub eighth_caller : line_gives (callers 7 19999) 40 (codes "caller d") ≡ Ok (Some (change.Caller (codes "d")))
  pub second_begin : IsLineRefused said_again (codes "begin x=1") cause.Misplaced
  pub begin_of_caller : IsLineRefused (callers 1 2) (codes "begin") cause.Misplaced
  pub late_node : IsLineRefused (behind [] (part (codes "main") []) 1) (codes "node workers=0") cause.Misplaced
  pub bad_name : IsLineRefused worked_reading (codes "group A x=1") cause.BadName
  pub no_name : IsLineRefused worked_reading (codes "group") cause.BadName
  pub unknown_option : IsLineRefused worked_reading (codes "group x id=1 id=1") cause.UnknownOption
  pub no_option : IsLineRefused worked_reading (codes "queue_get x id") cause.UnknownOption
  pub option_twice : IsLineRefused worked_reading (codes "wait t timeout=x timeout=x") cause.OptionTwice
  pub bad_value : IsLineRefused worked_reading (codes "action x kind=x") cause.BadValue
  pub option_missing : IsLineRefused worked_reading (codes "action a job=1") cause.OptionMissing
  pub name_taken : IsLineRefused worked_reading (codes "start t job=1 group=x") cause.NameTaken
  pub main_taken : IsLineRefused worked_reading (codes "caller main") cause.NameTaken
  pub own_taken : IsLineRefused (callers 1 2) (codes "caller c") cause.NameTaken
  pub earlier_taken : IsLineRefused (callers 1 2) (codes "caller main") cause.NameTaken
  pub name_unknown : IsLineRefused worked_reading (codes "cancel x") cause.NameUnknown
  pub other_kind : IsLineRefused worked_reading (codes "wait g timeout=inf") cause.NameUnknown
  pub group_unknown : IsLineRefused worked_reading (codes "start x job=1 group=t") cause.NameUnknown
  pub queue_unknown : IsLineRefused worked_reading (codes "enqueue x queue=g") cause.NameUnknown

-- values beside the ends of the ranges of their options
pub record WorkedBadValues : Type 0 where
  pub workers : IsLineRefused empty_reading (codes "node workers=17") cause.BadValue
  pub tasks : IsLineRefused empty_reading (codes "node max_tasks=65537") cause.BadValue
  pub actions : IsLineRefused empty_reading (codes "node max_actions=1025") cause.BadValue
  pub groups : IsLineRefused empty_reading (codes "node max_groups=1025") cause.BadValue
  pub queues : IsLineRefused empty_reading (codes "node max_queues=257") cause.BadValue
  pub objects : IsLineRefused empty_reading (codes "node max_objects=257") cause.BadValue
  pub priorities : IsLineRefused empty_reading (codes "node priorities=9") cause.BadValue
  pub generations : IsLineRefused empty_reading (codes "node generations=4294967296") cause.BadValue
  pub no_workers : IsLineRefused empty_reading (codes "node workers=0") cause.BadValue
  pub no_tasks : IsLineRefused empty_reading (codes "node max_tasks=0") cause.BadValue
  pub no_actions : IsLineRefused empty_reading (codes "node max_actions=0") cause.BadValue
  pub no_groups : IsLineRefused empty_reading (codes "node max_groups=0") cause.BadValue
  pub no_queues : IsLineRefused empty_reading (codes "node max_queues=0") cause.BadValue
  pub no_objects : IsLineRefused empty_reading (codes "node max_objects=0") cause.BadValue
  pub no_priorities : IsLineRefused empty_reading (codes "node priorities=0") cause.BadValue
  pub no_generations : IsLineRefused empty_reading (codes "node generations=0") cause.BadValue
  pub job : IsLineRefused worked_reading (codes "action x job=65536 kind=add") cause.BadValue
  pub no_job : IsLineRefused worked_reading (codes "action x job=0 kind=add") cause.BadValue
  pub job_started : IsLineRefused worked_reading (codes "start x job=65536") cause.BadValue
  pub no_job_started : IsLineRefused worked_reading (codes "start x job=0") cause.BadValue
  pub priority : IsLineRefused worked_reading (codes "start x job=1 priority=8") cause.BadValue
  pub queue_id : IsLineRefused worked_reading (codes "queue x id=4294967296 job=1") cause.BadValue
  pub queue_job : IsLineRefused worked_reading (codes "queue x id=1 job=65536") cause.BadValue
  pub no_queue_job : IsLineRefused worked_reading (codes "queue x id=1 job=0") cause.BadValue
  pub queue_priority : IsLineRefused worked_reading (codes "queue x id=1 job=1 priority=8") cause.BadValue
  pub queue_limit : IsLineRefused worked_reading (codes "queue x id=1 job=1 limit=65537") cause.BadValue
  pub no_queue_limit : IsLineRefused worked_reading (codes "queue x id=1 job=1 limit=0") cause.BadValue
  pub sem_limit : IsLineRefused worked_reading (codes "sem x id=1 limit=65536") cause.BadValue
  pub no_sem_limit : IsLineRefused worked_reading (codes "sem x id=1 limit=0") cause.BadValue
  pub rwl_limit : IsLineRefused worked_reading (codes "rwl x id=1 limit=33") cause.BadValue
  pub no_rwl_limit : IsLineRefused worked_reading (codes "rwl x id=1 limit=0") cause.BadValue
  pub cells : IsLineRefused worked_reading (codes "shmem x id=1 cells=4097") cause.BadValue
  pub no_cells : IsLineRefused worked_reading (codes "shmem x id=1 cells=0") cause.BadValue
  pub cell : IsLineRefused worked_reading (codes "read h cell=4096") cause.BadValue
  pub cell_written : IsLineRefused worked_reading (codes "write h cell=4096 value=1") cause.BadValue
  pub value : IsLineRefused worked_reading (codes "write h cell=1 value=9223372036854775808") cause.BadValue
  pub key : IsLineRefused worked_reading (codes "unlock m key=4294967296") cause.BadValue
  pub looks : IsLineRefused worked_reading (codes "wait t timeout=1000001") cause.BadValue
  pub flag : IsLineRefused worked_reading (codes "mutex x id=1 recursive=1") cause.BadValue
  pub mode : IsLineRefused worked_reading (codes "rwl_unlock r mode=both") cause.BadValue
  pub name : IsLineRefused worked_reading (codes "start x job=1 group=1") cause.BadValue
  pub no_args : IsLineRefused worked_reading (codes "start x job=1 args=") cause.BadValue

-- names
pub record WorkedTextNames : Type 0 where
  pub all_bytes : is_name (codes "az09_") ≡ true
  pub longest : is_name (codes "a234567890123456") ≡ true
  pub too_long : is_name (codes "a2345678901234567") ≡ false
  pub empty : is_name [] ≡ false
  pub digit : is_name (codes "0a") ≡ false
  pub line : is_name (codes "_a") ≡ false
  pub capital : is_name (codes "aA") ≡ false
  pub last : is_name (codes "z") ≡ true
  pub before_letters : is_name (96 ∷ []) ≡ false
  pub after_letters : is_name (123 ∷ []) ≡ false
  pub before_digits : is_name (codes "a/") ≡ false
  pub after_digits : is_name (codes "a:") ≡ false

-- the lines of all kinds of statements, and those that are refused
pub record WorkedLines : Type 0 where
  pub tasks : WorkedTaskLines
  pub groups : WorkedGroupLines
  pub locks : WorkedLockLines
  pub segments : WorkedSegmentLines
  pub causes : WorkedCauses
  pub bad_values : WorkedBadValues
  pub names : WorkedTextNames
