-- What shows that a history is a deadlock: entries that the machine allows behind it and that leave the state as it is, for each seat.
use Rattle.std.specs.Prelude.{◌≡◌, ℕ, suc, ◌+◌, ◌≤◌, ◌<◌, ◌⊎◌, Bool, true, false, List, [], ◌∷◌, ◌++◌, length, drop, map, slice_get, Some}
use Rattle.std.specs.List.{All, Contains}
use Rattle.history.specs.Histories.{entry}
use Rattle.mtapi_values.specs.declared.handles.Layout.{Layout}
use Rattle.mtapi_values.specs.declared.handles.TaskHandle.{TaskHandle}
use Rattle.mtapi_values.specs.declared.timeouts.Timeout.TheVariants.{Infinite}
use Rattle.mtapi_values.specs.declared.statuses.MtapiStatus.TheVariants.{ErrWaitPending, ErrNodeInitialized}
use Rattle.workload_file.specs.declared.workload.Statement.{Statement}
use Rattle.workload_file.specs.declared.workload.Part.{Part}
use Rattle.workload_file.specs.declared.workload.Workload.{Workload}
use Rattle.mtapi_machine.specs.declared.ops.Op.{Op}
use Rattle.mtapi_machine.specs.declared.ops.Op.TheVariants as op
use Rattle.mtapi_machine.specs.declared.replies.Reply.TheVariants as reply
use Rattle.mtapi_machine.specs.Legal.{NodeEntry, Legal}
use Rattle.mtapi_machine.specs.Row.{handle_of}
use Rattle.workload_runs.specs.Calls.{Looking, call_of}
use Rattle.workload_runs.specs.Parts.{has_begin}
use Rattle.workload_runs.specs.RunOf.{RunOf}
use Rattle.run_report.specs.Replies.{decided}
use Rattle.run_report.specs.Report.{run_terms}
use Rattle.begun_runs.specs.Asks.{main_head}
use Rattle.begun_runs.specs.Begun.{Begun, Stuck}

-- the first worker looks at a task, and is refused since a seat waits for it
abbrev pub refused_look : Op → NodeEntry
refused_look o = entry 0 o (reply.Mtapi ErrWaitPending)

-- main's last step is refused
abbrev pub refused_final : ℕ → NodeEntry
refused_final main = entry main op.Final (reply.Mtapi ErrNodeInitialized)

-- an entry that is refused so
abbrev pub IsProbeRefusal : ℕ → NodeEntry → Type 0
IsProbeRefusal main e = ((t : TaskHandle) × (last : Bool) × (e ≡ refused_look (op.TaskLook t last))) ⊎ (e ≡ refused_final main)

abbrev pub is_task_look : Op → Bool
is_task_look (op.TaskLook t last) = true
is_task_look _ = false

-- an entry that leaves the state: the reply is Idle, or it is Pending, and if it is a look at a task, then the first worker's is refused
abbrev pub LeavesState : List NodeEntry → NodeEntry → Type 0
LeavesState refused e = (e.reply ≡ reply.Idle) ⊎ ((e.reply ≡ reply.Pending) × (is_task_look e.op ≡ true → Contains refused (refused_look e.op)))

-- a worker finds no task, or waits for the mutex of its tally
abbrev pub WorkerHalts : List NodeEntry → ℕ → Type 0
WorkerHalts looks w = Contains looks (entry w op.Pick reply.Idle) ⊎ ((t : TaskHandle) × Contains looks (entry w (op.TallyLock t) reply.Pending))

-- The statement that a caller has come to looks without a bound: it made so many calls before those of its statements, and these are
-- the handles of the replies to which its calls came.
pub record ComesToLook (before : ℕ) (statements : List Statement) (handles : List ℕ) (waits : Bool) (ask : Bool → Op) : Type 0 where
  pub place : ℕ
  pub here : Statement
  pub is : slice_get statements place ≡ Some here
  pub made : length handles ≡ before + place
  pub call : call_of (drop before handles) here.deed ≡ Looking waits ask Infinite

-- and such a look is among these
abbrev pub CallerLooksOn : List NodeEntry → ℕ → ℕ → List Statement → List ℕ → Type 0
CallerLooksOn looks who before statements handles =
    (waits : Bool) × (ask : Bool → Op) × ComesToLook before statements handles waits ask × Contains looks (entry who (ask false) reply.Pending)

-- a further caller has made its statements, isn't let in, or looks
pub data CallerHalts (looks : List NodeEntry) (who : ℕ) (statements : List Statement) (handles : List ℕ) : Type 0 where
  through : length handles ≡ suc (length statements) → CallerHalts looks who statements handles
  outside : handles ≡ [] → Contains looks (entry who op.Enter reply.Pending) → CallerHalts looks who statements handles
  looks_on : CallerLooksOn looks who 1 statements handles → CallerHalts looks who statements handles

-- the handles of the replies to which the calls of a seat came, 0 where one has none
abbrev pub reply_handles : ℕ → List NodeEntry → List ℕ
reply_handles who es = map handle_of (decided who es)

-- all further callers, from this seat on, halt so
abbrev pub CallersHalt : List NodeEntry → List NodeEntry → ℕ → List Part → Type 0
CallersHalt es looks who [] = Unit {0}
CallersHalt es looks who (p ∷ ps) = CallerHalts looks who p.statements (reply_handles who es) × CallersHalt es looks (suc who) ps

-- one of them still has a statement to make
abbrev pub SomeLacks : List NodeEntry → ℕ → List Part → Type 0
SomeLacks es who [] = ⊥
SomeLacks es who (p ∷ ps) = (length (reply_handles who es) ≤ length p.statements) ⊎ SomeLacks es (suc who) ps

-- how many calls main makes before those of its statements
abbrev pub calls_ahead : List Statement → ℕ
calls_ahead statements = length (main_head (has_begin statements))

-- main looks, waits for the further callers to make their statements before it closes, or may not finalize
pub data MainHalts (es looks refused : List NodeEntry) (main : ℕ) (statements : List Statement) (others : List Part) (handles : List ℕ) : Type 0 where
  main_looks : CallerLooksOn looks main (calls_ahead statements) statements handles → MainHalts es looks refused main statements others handles
  stays_open : length handles ≡ calls_ahead statements + length statements → SomeLacks es (suc main) others
      → MainHalts es looks refused main statements others handles
  stays_up : length handles ≡ suc (calls_ahead statements + length statements) → Contains refused (refused_final main)
      → MainHalts es looks refused main statements others handles

abbrev pub PartsHalt : List NodeEntry → List NodeEntry → List NodeEntry → ℕ → List Part → Type 0
PartsHalt es looks refused main [] = ⊥
PartsHalt es looks refused main (p ∷ ps) =
    MainHalts es looks refused main p.statements ps (reply_handles main es) × CallersHalt es looks (suc main) ps

-- no seat goes on: behind these entries, these looks and these refused entries tell so
pub record Halts (load : Workload) (es looks refused : List NodeEntry) : Type 0 where
  pub refused_each : All (IsProbeRefusal load.settings.workers) refused
  pub looks_each : All (LeavesState refused) looks
  pub workers : (w : ℕ) → w < load.settings.workers → WorkerHalts looks w
  pub parts : PartsHalt es looks refused load.settings.workers load.parts

-- where the machine allows them there, it is a deadlock
abbrev pub HaltsIsStuck : Type 0
HaltsIsStuck =
    (load : Workload) (layout : Layout) (es looks refused : List NodeEntry) (ns : List ℕ) → Legal (run_terms layout load) (es ++ (refused ++ looks))
    → Begun load es ns → (RunOf load es ns → ⊥) → Halts load es looks refused
    → Stuck load layout es ns
