-- What a call looks for, and the call of a statement as the code has it.
use Rattle.std.specs.Prelude.{Bool, true, false}
use Rattle.mtapi_machine.specs.declared.ops.Op.{Op}
use Rattle.mtapi_machine.specs.declared.ops.Op.TheVariants.{TaskLook, Enter, AllLook, AnyLook, MutexLook, SemLook, RwlLook}
use Rattle.workload_runs.specs.declared.calls.Wanted.{Wanted}
use Rattle.workload_runs.specs.declared.calls.Wanted.TheVariants.{Task, Entrance, AllMembers, FirstMember, Mutex, Sem, Rwl}
use Rattle.workload_runs.specs.declared.calls.Call.{Call as StatementCall}
use Rattle.workload_runs.specs.declared.calls.Call.TheVariants as call
use Rattle.workload_runs.specs.Calls.{Call, Once, Looking, IsOnce}

-- the op of a look, the last one or not
abbrev pub op_of_look : Wanted → Bool → Op
op_of_look (Task t) last = TaskLook t last
op_of_look Entrance last = Enter
op_of_look (AllMembers g) last = AllLook g last
op_of_look (FirstMember g) last = AnyLook g last
op_of_look (Mutex x) last = MutexLook x last
op_of_look (Sem x) last = SemLook x last
op_of_look (Rwl x writer) last = RwlLook x writer last

-- the wants but the entrance, which has no last look
abbrev pub IsTimed : Wanted → Type 0
IsTimed Entrance = ⊥
IsTimed w = Unit {0}

-- between its looks the caller stands as waiter
abbrev pub waits : Wanted → Bool
waits (Task t) = true
waits _ = false

-- a call, as the calls of statements are written
abbrev pub shape : StatementCall → Call
shape (call.Once o) = Once o
shape (call.Looking w timeout) = Looking (waits w) (op_of_look w) timeout

-- a call that a statement makes: an op with one entry, or looks that may be the last
abbrev pub Stated : StatementCall → Type 0
Stated (call.Once o) = IsOnce o
Stated (call.Looking w timeout) = IsTimed w
