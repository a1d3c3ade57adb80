-- The statements: their words, their names and their options.
use Rattle.std.specs.Prelude.{ℕ, List, [], ◌∷◌, codes, Option}
use Rattle.std.specs.List.{find}
use Rattle.std.specs.Str.{bytes_eq}
use Rattle.workload_file.specs.declared.table.Word.{Word}
use Rattle.workload_file.specs.declared.table.Word.TheVariants as word
use Rattle.workload_file.specs.declared.table.Key.{Key}
use Rattle.workload_file.specs.declared.table.Key.TheVariants as key
use Rattle.workload_file.specs.declared.table.OptionShape.{OptionShape}
use Rattle.workload_file.specs.declared.table.OptionShape.TheVariants as shape
use Rattle.workload_file.specs.declared.table.Sort.TheVariants as sort
use Rattle.workload_file.specs.declared.table.Naming.{Naming}
use Rattle.workload_file.specs.declared.table.Naming.TheVariants as rule
use Rattle.workload_file.specs.declared.table.Field.{Field}
use Rattle.workload_file.specs.declared.table.Absent.TheVariants as absent

-- a statement: its word, what its second word is, and its options in order
pub record StatementRow : Type 0 where
  pub text : List ℕ
  pub naming : Naming
  pub fields : List Field

-- an option that has to be there
abbrev pub needs : Key → OptionShape → Field
needs k s = record { key = k; shape = s; absent = absent.Refused }

-- an option that may be absent, and then has the usual value of its shape
abbrev pub may : Key → OptionShape → Field
may k s = record { key = k; shape = s; absent = absent.Usual }

-- a number from low to high, which is n where the option is absent
abbrev pub number_field : Key → ℕ → ℕ → ℕ → Field
number_field k low high n = record { key = k; shape = shape.Number low high; absent = absent.Number n }

-- each statement
unfoldable pub statement_row : Word → StatementRow
statement_row word.Node = record {
  text = codes "node";
  naming = rule.Bare;
  fields =
      number_field key.Workers 1 16 1 ∷ number_field key.MaxTasks 1 65536 1024 ∷ number_field key.MaxActions 1 1024 64 ∷ number_field key.MaxGroups 1 1024 128
      ∷ number_field key.MaxQueues 1 256 16 ∷ number_field key.MaxObjects 1 256 16 ∷ number_field key.Priorities 1 8 4
      ∷ number_field key.Generations 1 4294967295 4294967295 ∷ [];
}
statement_row word.Caller = record { text = codes "caller"; naming = rule.Caller; fields = [] }
statement_row word.Begin = record { text = codes "begin"; naming = rule.Bare; fields = [] }
statement_row word.Action = record {
  text = codes "action";
  naming = rule.Binds sort.Action;
  fields = needs key.Job (shape.Number 1 65535) ∷ needs key.Kind shape.Kind ∷ may key.Cores shape.Cores ∷ [];
}
statement_row word.ActionDelete = record { text = codes "action_delete"; naming = rule.Uses sort.Action; fields = [] }
statement_row word.ActionEnable = record { text = codes "action_enable"; naming = rule.Uses sort.Action; fields = [] }
statement_row word.ActionDisable = record { text = codes "action_disable"; naming = rule.Uses sort.Action; fields = [] }
statement_row word.Start = record {
  text = codes "start";
  naming = rule.Binds sort.Task;
  fields =
      needs key.Job (shape.Number 1 65535) ∷ may key.Args shape.Args ∷ number_field key.Priority 0 7 0 ∷ may key.Cores shape.Cores ∷ may key.Detached shape.Flag
      ∷ may key.Group (shape.Named sort.Group) ∷ [];
}
statement_row word.Enqueue = record {
  text = codes "enqueue";
  naming = rule.Binds sort.Task;
  fields =
      needs key.Queue (shape.Named sort.Queue) ∷ may key.Args shape.Args ∷ may key.Cores shape.Cores ∷ may key.Detached shape.Flag
      ∷ may key.Group (shape.Named sort.Group) ∷ [];
}
statement_row word.Wait = record { text = codes "wait"; naming = rule.Uses sort.Task; fields = needs key.Timeout shape.Timeout ∷ [] }
statement_row word.Cancel = record { text = codes "cancel"; naming = rule.Uses sort.Task; fields = [] }
statement_row word.Group = record { text = codes "group"; naming = rule.Binds sort.Group; fields = [] }
statement_row word.WaitAll = record { text = codes "wait_all"; naming = rule.Uses sort.Group; fields = needs key.Timeout shape.Timeout ∷ [] }
statement_row word.WaitAny = record { text = codes "wait_any"; naming = rule.Uses sort.Group; fields = needs key.Timeout shape.Timeout ∷ [] }
statement_row word.GroupDelete = record { text = codes "group_delete"; naming = rule.Uses sort.Group; fields = [] }
statement_row word.Queue = record {
  text = codes "queue";
  naming = rule.Binds sort.Queue;
  fields =
      needs key.Id (shape.Number 0 4294967295) ∷ needs key.Job (shape.Number 1 65535) ∷ number_field key.Priority 0 7 0 ∷ number_field key.Limit 1 65536 65536
      ∷ may key.Ordered shape.Flag ∷ may key.Retain shape.Flag ∷ [];
}
statement_row word.QueueGet = record { text = codes "queue_get"; naming = rule.Binds sort.Queue; fields = needs key.Id (shape.Number 0 4294967295) ∷ [] }
statement_row word.QueueEnable = record { text = codes "queue_enable"; naming = rule.Uses sort.Queue; fields = [] }
statement_row word.QueueDisable = record { text = codes "queue_disable"; naming = rule.Uses sort.Queue; fields = [] }
statement_row word.QueueDelete = record { text = codes "queue_delete"; naming = rule.Uses sort.Queue; fields = [] }
statement_row word.Mutex = record {
  text = codes "mutex";
  naming = rule.Binds sort.Mutex;
  fields = needs key.Id (shape.Number 0 4294967295) ∷ may key.Recursive shape.Flag ∷ [];
}
statement_row word.MutexGet = record { text = codes "mutex_get"; naming = rule.Binds sort.Mutex; fields = needs key.Id (shape.Number 0 4294967295) ∷ [] }
statement_row word.MutexDelete = record { text = codes "mutex_delete"; naming = rule.Uses sort.Mutex; fields = [] }
statement_row word.Lock = record { text = codes "lock"; naming = rule.Uses sort.Mutex; fields = needs key.Timeout shape.Timeout ∷ [] }
statement_row word.Unlock = record { text = codes "unlock"; naming = rule.Uses sort.Mutex; fields = needs key.Key (shape.Number 0 4294967295) ∷ [] }
statement_row word.Sem = record {
  text = codes "sem";
  naming = rule.Binds sort.Sem;
  fields = needs key.Id (shape.Number 0 4294967295) ∷ needs key.Limit (shape.Number 1 65535) ∷ [];
}
statement_row word.SemGet = record { text = codes "sem_get"; naming = rule.Binds sort.Sem; fields = needs key.Id (shape.Number 0 4294967295) ∷ [] }
statement_row word.SemDelete = record { text = codes "sem_delete"; naming = rule.Uses sort.Sem; fields = [] }
statement_row word.SemLock = record { text = codes "sem_lock"; naming = rule.Uses sort.Sem; fields = needs key.Timeout shape.Timeout ∷ [] }
statement_row word.SemUnlock = record { text = codes "sem_unlock"; naming = rule.Uses sort.Sem; fields = [] }
statement_row word.Rwl = record {
  text = codes "rwl";
  naming = rule.Binds sort.Rwl;
  fields = needs key.Id (shape.Number 0 4294967295) ∷ needs key.Limit (shape.Number 1 32) ∷ [];
}
statement_row word.RwlGet = record { text = codes "rwl_get"; naming = rule.Binds sort.Rwl; fields = needs key.Id (shape.Number 0 4294967295) ∷ [] }
statement_row word.RwlDelete = record { text = codes "rwl_delete"; naming = rule.Uses sort.Rwl; fields = [] }
statement_row word.RwlLock = record {
  text = codes "rwl_lock";
  naming = rule.Uses sort.Rwl;
  fields =
      needs key.Mode shape.Mode ∷ needs key.Timeout shape.Timeout ∷ [];
}
statement_row word.RwlUnlock = record { text = codes "rwl_unlock"; naming = rule.Uses sort.Rwl; fields = needs key.Mode shape.Mode ∷ [] }
statement_row word.Shmem = record {
  text = codes "shmem";
  naming = rule.Binds sort.Shmem;
  fields = needs key.Id (shape.Number 0 4294967295) ∷ needs key.Cells (shape.Number 1 4096) ∷ [];
}
statement_row word.ShmemGet = record { text = codes "shmem_get"; naming = rule.Binds sort.Shmem; fields = needs key.Id (shape.Number 0 4294967295) ∷ [] }
statement_row word.ShmemDelete = record { text = codes "shmem_delete"; naming = rule.Uses sort.Shmem; fields = [] }
statement_row word.Attach = record { text = codes "attach"; naming = rule.Uses sort.Shmem; fields = [] }
statement_row word.Detach = record { text = codes "detach"; naming = rule.Uses sort.Shmem; fields = [] }
statement_row word.Read = record { text = codes "read"; naming = rule.Uses sort.Shmem; fields = needs key.Cell (shape.Number 0 4095) ∷ [] }
statement_row word.Write = record {
  text = codes "write";
  naming = rule.Uses sort.Shmem;
  fields = needs key.Cell (shape.Number 0 4095) ∷ needs key.Value shape.Whole ∷ [];
}

-- the first word of the statement
abbrev pub word_text : Word → List ℕ
word_text w = (statement_row w).text

-- what its second word is
abbrev pub naming : Word → Naming
naming w = (statement_row w).naming

-- its options, in order
abbrev pub fields : Word → List Field
fields w = (statement_row w).fields

-- each statement once
abbrev pub words : List Word
words = word.Node ∷ word.Caller ∷ word.Begin ∷ word.Action ∷ word.ActionDelete ∷ word.ActionEnable ∷ word.ActionDisable ∷ word.Start ∷ word.Enqueue ∷ word.Wait
    ∷ word.Cancel ∷ word.Group ∷ word.WaitAll ∷ word.WaitAny ∷ word.GroupDelete ∷ word.Queue ∷ word.QueueGet ∷ word.QueueEnable ∷ word.QueueDisable
    ∷ word.QueueDelete ∷ word.Mutex ∷ word.MutexGet ∷ word.MutexDelete ∷ word.Lock ∷ word.Unlock ∷ word.Sem ∷ word.SemGet ∷ word.SemDelete ∷ word.SemLock
    ∷ word.SemUnlock ∷ word.Rwl ∷ word.RwlGet ∷ word.RwlDelete ∷ word.RwlLock ∷ word.RwlUnlock ∷ word.Shmem ∷ word.ShmemGet ∷ word.ShmemDelete ∷ word.Attach
    ∷ word.Detach ∷ word.Read ∷ word.Write ∷ []

-- the statement that a word begins
unfoldable pub word_of : List ℕ → Option Word
word_of text = find (λ w. bytes_eq (word_text w) text) words

-- the key of an option
unfoldable pub key_text : Key → List ℕ
key_text key.Workers = codes "workers"
key_text key.MaxTasks = codes "max_tasks"
key_text key.MaxActions = codes "max_actions"
key_text key.MaxGroups = codes "max_groups"
key_text key.MaxQueues = codes "max_queues"
key_text key.MaxObjects = codes "max_objects"
key_text key.Priorities = codes "priorities"
key_text key.Generations = codes "generations"
key_text key.Job = codes "job"
key_text key.Kind = codes "kind"
key_text key.Cores = codes "cores"
key_text key.Args = codes "args"
key_text key.Priority = codes "priority"
key_text key.Detached = codes "detached"
key_text key.Group = codes "group"
key_text key.Queue = codes "queue"
key_text key.Timeout = codes "timeout"
key_text key.Id = codes "id"
key_text key.Limit = codes "limit"
key_text key.Ordered = codes "ordered"
key_text key.Retain = codes "retain"
key_text key.Recursive = codes "recursive"
key_text key.Key = codes "key"
key_text key.Mode = codes "mode"
key_text key.Cells = codes "cells"
key_text key.Cell = codes "cell"
key_text key.Value = codes "value"
