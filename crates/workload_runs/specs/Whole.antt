-- A run of a workload, said of the whole history and not of its journal.
use Rattle.std.specs.Prelude.{◌≡◌, ℕ, ◌+◌, ◌<◌, Bool, true, false, not, ◌&&◌, List, [], ◌∷◌, ◌++◌, length, map, if◌then◌else◌}
use Rattle.mtapi_values.specs.declared.timeouts.Timeout.{Timeout}
use Rattle.mtapi_values.specs.Timeouts.{looks_of}
use Rattle.workload_file.specs.declared.workload.Workload.{Workload}
use Rattle.mtapi_machine.specs.declared.ops.Op.{Op}
use Rattle.mtapi_machine.specs.declared.ops.Op.TheVariants as op
use Rattle.mtapi_machine.specs.declared.replies.Reply.{Reply}
use Rattle.mtapi_machine.specs.declared.replies.Reply.TheVariants as reply
use Rattle.mtapi_machine.specs.declared.terms.Terms.{Terms}
use Rattle.mtapi_machine.specs.State.{State, opening}
use Rattle.mtapi_machine.specs.Legal.{NodeEntry}
use Rattle.mtapi_machine.specs.Kept.{is_pending, kept, skipped, no_counts}
use Rattle.workload_runs.specs.Calls.{Call, Once, Looking}
use Rattle.workload_runs.specs.Lines.{KeepsTimeout, is_timeout, lines_of}
use Rattle.workload_runs.specs.Parts.{Form, PartsRan}
use Rattle.workload_runs.specs.RunOf.{is_work, ClosesAtEnd, RunOf}
use Rattle.workload_runs.specs.Turns.{Turn, stayed, turns_of, lines_left}

-- none of them is true
unfoldable pub none_of : List Bool → Bool
none_of [] = true
none_of (b ∷ bs) = not b && none_of bs

-- of these marks only the first may be true
abbrev pub first_alone : List Bool → Bool
first_alone [] = true
first_alone (b ∷ bs) = none_of bs

-- looks that were answered Pending, with marks that say which of them a journal keeps
abbrev pub pended : Op → List Bool → List Turn
pended o marks = map (λ b. record { op = o; reply = reply.Pending; stays = b }) marks

-- the turns of a call that looks: some answered Pending, of which a journal keeps at most the first, and only where the caller stands
-- as waiter; and then the one that decides
pub record LookTurns (waits : Bool) (o : Bool → Op) (timeout : Timeout) (ts : List Turn) (r : Reply) : Type 0 where
  pub marks : List Bool
  pub last : Bool
  pub is : ts ≡ pended (o false) marks ++ stayed (o last) r ∷ []
  pub one_kept : first_alone marks ≡ true
  pub none_kept : waits ≡ false → none_of marks ≡ true
  pub decides : is_pending r ≡ false
  pub within : KeepsTimeout (looks_of timeout) last (length marks + 1)
  pub late : is_timeout r ≡ true → last ≡ true

-- the turns of one call, and the reply that it comes to
abbrev pub MadeBy : Call → List Turn → Reply → Type 0
MadeBy (Once o) ts r = (ts ≡ stayed o r ∷ []) × (is_pending r ≡ false)
MadeBy (Looking waits o timeout) ts r = LookTurns waits o timeout ts r

-- main initializes, and releases at once where no statement does
abbrev pub head_turns : Bool → List Turn
head_turns true = stayed op.Initialize reply.Ok ∷ []
head_turns false = stayed op.Initialize reply.Ok ∷ stayed op.Release reply.Ok ∷ []

-- main closes, and finalizes
abbrev pub tail_turns : List Turn
tail_turns = stayed op.Close reply.Ok ∷ stayed op.Final reply.Ok ∷ []

-- a further caller looks at the entrance, which no journal keeps, and then it enters
pub record EnteredBy (ts : List Turn) : Type 0 where
  pub marks : List Bool
  pub none_kept : none_of marks ≡ true
  pub is : ts ≡ pended op.Enter marks ++ stayed op.Enter reply.Ok ∷ []

-- what a seat makes, told by turns
abbrev pub in_turns : Form Turn
in_turns = record { made = MadeBy; head = head_turns; tail = tail_turns; entrance = EnteredBy }

-- each turn that a journal keeps is work
unfoldable pub all_worked : List Turn → Bool
all_worked [] = true
all_worked (t ∷ ts) = (if t.stays then is_work t.op t.reply else true) && all_worked ts

-- a worker's turns: work, and then a pick that answers Stop
pub record WorkerBy (ts : List Turn) : Type 0 where
  pub work : List Turn
  pub is : ts ≡ work ++ stayed op.Pick reply.Stop ∷ []
  pub works : all_worked work ≡ true

-- the history from this state on is a run of the workload
pub record RunBy (load : Workload) (s : State) (L : List NodeEntry) : Type 0 where
  -- the replies to the statements of each part
  pub replies : List (List Reply)
  pub parts : PartsRan in_turns (λ who. turns_of who s L) load.settings.workers load.parts replies
  pub workers : (w : ℕ) → w < load.settings.workers → WorkerBy (turns_of w s L)
  pub ends : ClosesAtEnd load.settings.workers L

-- the lines of a seat in the journal of a history are those that are left of its turns
abbrev pub LinesAreLeft : Type 0
LinesAreLeft = (terms : Terms) (L : List NodeEntry) (who : ℕ) → who < 25
    → lines_of who (kept (opening terms) L) (skipped (opening terms) no_counts L) ≡ lines_left 0 (turns_of who (opening terms) L)

-- the seats of the workers and of the callers are at most 25
abbrev pub HasSeats : Workload → Type 0
HasSeats load = (load.settings.workers < 17) × (length load.parts < 10)

-- where a history is a run of the workload, so is its journal, with the same replies
abbrev pub JournalIsRun : Type 0
JournalIsRun =
    (load : Workload) (terms : Terms) (L : List NodeEntry) → HasSeats load → (run : RunBy load (opening terms) L)
    → (told : RunOf load (kept (opening terms) L) (skipped (opening terms) no_counts L)) × (told.replies ≡ run.replies)
